use Rattle.std.proofs.Common.{◌≡◌, ◌++◌, List}
use Rattle.std.specs.Prelude.{option_map}
use Rattle.gufi_base.specs.Basics.{split}
use Rattle.gufi_access.specs.declared.acl.Entry.{Entry}
use Rattle.gufi_acl.specs.AclTexts.{all_entries}
use Rattle.gufi_acl.proofs.reader.read_entries.Given as goal

abbrev pub invariant-entries : goal.invariant-entries
invariant-entries l = all_entries (split 44 l.fn.text) ≡ option_map (λ (rest : List Entry). l.entries.items ++ rest) (all_entries l.piece-iterator)
