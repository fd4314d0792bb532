use Rattle.std.proofs.Common.{◌≡◌, ◌++◌, replicate}
use Rattle.gufi_explain.proofs.shown.put_repeated.Given as goal

abbrev pub invariant-loop-at : goal.invariant-loop-at
invariant-loop-at l = l.out.items ≡ l.initial.out.items ++ replicate l._at l.byte
