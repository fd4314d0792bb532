use Rattle.std.proofs.Common.{sym, ◌∙◌}
use Rattle.gufi_line.proofs.AttributeNames.{names_seen, unmarked}
use Rattle.gufi_line.proofs.quick.sound_names.Goals as goal

pub returns-in-None : goal.returns-in-None
returns-in-None c = unmarked _ c.in-None.ensures

pub returns-in-Some : goal.returns-in-Some
returns-in-Some c = names_seen _ c.in-Some.names.now c.in-Some.ensures.0 c.in-Some.ensures.1 (sym c.are_xattrs.ensures ∙ c.if-are_xattrs.true)
