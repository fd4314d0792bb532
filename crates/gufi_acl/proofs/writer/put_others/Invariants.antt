use Rattle.std.proofs.Common.{◌≡◌, ℕ, List, ◌++◌}
use Rattle.gufi_access.specs.Acl.{entries_left}
use Rattle.gufi_acl.proofs.Written.{others_text}
use Rattle.gufi_acl.proofs.writer.put_others.Given as goal

abbrev pub invariant-others : goal.invariant-others
invariant-others l = record {
  put : l.fn.out.items ++ others_text (entries_left l.fn.others) ≡ l.out.items ++ others_text (entries_left l.entry-iterator);
  grown : (more : List ℕ) × (l.out.items ≡ l.fn.out.items ++ more);
}
