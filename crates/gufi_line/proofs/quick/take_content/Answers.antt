use Rattle.std.proofs.Common.{[], refl, arith}
use Rattle.gufi_line.proofs.AttributeNames.{unmarked}
use Rattle.gufi_line.proofs.SoundLines.{taken_content, ended_result}
use Rattle.gufi_line.proofs.quick.take_content.Goals as goal

pub returns-then-are_blank : goal.returns-then-are_blank
returns-then-are_blank g c = taken_content _ _ _ _ _ c.in_ok-content.ensures c.in_ok-take_meta.ensures (c.are_blank.ensures c.if-are_blank.true) refl (omega arith) (unmarked [] refl) refl

pub returns : goal.returns
returns g c = ended_result c.take_end.result c.args.parts _ _ _ _ c.in_ok-content.ensures c.in_ok-take_meta.ensures c.take_end.ensures
