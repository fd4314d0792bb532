use Rattle.std.proofs.Common.{sym, ◌∙◌, arith}
use Rattle.gufi_base.proofs.Texts.{LastName-text, take-last, base-last}
use Rattle.gufi_base.specs.PathTexts.{names}
use Rattle.gufi_base.proofs.path_ref.PathRef.stem_and_base.Goals as goal

pub returns-clause-stem : goal.returns-clause-stem
returns-clause-stem c =
    let text = c.self.inside.text.now in
    let last = LastName-text text c.self.invariant (omega arith) in
    rw (← c.self.view_is) (take-last text (names text) c.last_name_at-at.result last c.last_name_at-at.ensures.value ∙ sym last.stem)

pub returns-clause-base : goal.returns-clause-base
returns-clause-base c =
    let text = c.self.inside.text.now in
    rw (← c.self.view_is) (base-last text (names text) c.last_name_at-at.result (LastName-text text c.self.invariant (omega arith)) c.last_name_at-at.ensures.value)
