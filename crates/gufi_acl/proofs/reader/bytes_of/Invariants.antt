use Rattle.std.proofs.Common.{◌≡◌, take}
use Rattle.std.specs.List.{flat_map}
use Rattle.gufi_acl.specs.AclTexts.{entry_bytes}
use Rattle.gufi_acl.proofs.reader.bytes_of.Given as goal

abbrev pub invariant-entries : goal.invariant-entries
invariant-entries l = l.acl.items ≡ flat_map entry_bytes (take l.entry-index l.entries)
