use Rattle.std.proofs.Common.{arith}
use Rattle.gufi_base.proofs.Texts.{LastName-text, take-last}
use Rattle.gufi_base.specs.PathTexts.{names}
use Rattle.gufi_base.proofs.path_ref.PathRef.parent_text.Goals as goal

pub returns : goal.returns
returns c =
    let text = c.self.inside.text.now in
    let last = LastName-text text c.self.invariant (omega arith) in
    rw (← c.self.view_is) (last.some, take-last text (names text) c.last_name_at.result last c.last_name_at.ensures.value)
