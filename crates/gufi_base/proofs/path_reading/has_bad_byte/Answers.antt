use Rattle.std.proofs.Common.{not, sym, ap, ◌∙◌}
use Rattle.gufi_base.specs.Names.{is_path_byte}
use Rattle.gufi_base.proofs.FreeBytes.{any_not}
use Rattle.gufi_base.proofs.path_reading.has_bad_byte.Goals as goal

pub returns : goal.returns
returns c = ap not c.are_path_bytes.ensures ∙ sym (any_not is_path_byte c.args.bytes.now)
