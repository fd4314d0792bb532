use Rattle.std.proofs.Common.{◌++◌, ◌-◌, length, ◌∙◌, ap, sym}
use Rattle.std.specs.Prelude.{Option, None}
use Rattle.gufi_image.specs.declared.directory.Open.{Open}
use Rattle.std.proofs.lemmas.Result.{err_from_is_err_and}
use Rattle.gufi_image.specs.Pieces.{rest_behind}
use Rattle.gufi_image.proofs.DirectoryLoop.{unless_map, refusal_map, rest_at, none_read, rest_opened, unopened_stops}
use Rattle.gufi_image.proofs.progress.Progress.take_directory.Goals as goal

pub returns-in_err-part-in-None-clause-halts : goal.returns-in_err-part-in-None-clause-halts
returns-in_err-part-in-None-clause-halts c =
    let p = err_from_is_err_and c.from_residual.result c.from_residual.ensures.1 in
    let self = c.args.self.now in
    rw (p.1, p.2, c.in_err-part-in-None.ensures.rest) (refusal_map c.in_err-part-in-None.field-0.0 _ _ (λ f stops more within only.
    let k = c.args.room - length more in
    let bytes = c.args.rest.now.now ++ more in
    ap (λ (o : Option Open). rest_behind k self.head self.directories o bytes) c.take.ensures.after ∙ unopened_stops k self.head self.directories f bytes more c.requires.few (stops more) only) c.in_err-part-in-None.ensures.halts)

pub returns-in_ok-part-in-None-clause-same : goal.returns-in_ok-part-in-None-clause-same
returns-in_ok-part-in-None-clause-same c =
    let self = c.args.self.now in
    let part = c.in_ok-part-in-None.part in
    unless_map c.fill-in-None.result _ _ (λ same more within.
    let k = c.args.room - length more in
    rest_at k self None (c.args.rest.now.now ++ more) (sym c.take.ensures.value ∙ c.in-None.is)
    ∙ rest_opened k self.head self.directories part (c.args.rest.now.now ++ more) (c.next_open.new.rest.now ++ more) c.requires.few (c.in_ok-part-in-None.ensures.heading more within) (none_read self c.requires.read (sym c.take.ensures.value ∙ c.in-None.is))
    ∙ same k more) c.fill-in-None.ensures.same
