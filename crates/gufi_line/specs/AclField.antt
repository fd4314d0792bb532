-- The access control list in the sixteenth field of a line.
use Rattle.std.specs.Prelude.{ℕ, List, [], Result, Ok, if◌then◌else◌}
use Rattle.gufi_base.specs.Basics.{result_map_err}
use Rattle.gufi_acl.specs.declared.AclFault.{AclFault}
use Rattle.gufi_acl.specs.declared.AclFault.TheVariants as lists
use Rattle.gufi_acl.specs.AclTexts.{has_mark, acl_of_text}
use Rattle.gufi_line.specs.declared.fault.TraceKind.{TraceKind}
use Rattle.gufi_line.specs.declared.fault.TraceKind.TheVariants.{BadAcl, TooManyEntries}

-- a list's fault as its line's; no text gives want of memory
abbrev pub kind_of : AclFault → TraceKind
kind_of lists.BadAcl = BadAcl
kind_of lists.TooManyEntries = TooManyEntries
kind_of lists.Memory = BadAcl

-- the list of a field; one without the mark has none
unfoldable pub acl_field : List ℕ → Result (List ℕ) TraceKind
acl_field field = if has_mark field then result_map_err kind_of (acl_of_text field) else Ok []
