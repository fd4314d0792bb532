use Rattle.std.proofs.Common.{◌≡◌, ◌++◌, take}
use Rattle.gufi_explain.specs.Rules.{listed}
use Rattle.gufi_explain.proofs.rules.put_names.Given as goal

abbrev pub invariant-entries : goal.invariant-entries
invariant-entries l = l.out.items ≡ l.initial.out.items ++ listed (take l.entry-index l.entries)
