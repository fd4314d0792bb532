use Rattle.std.proofs.Common.{◌∙◌, ◌-◌, [], get_or, refl, ap}
use Rattle.gufi_rows.specs.declared.run.Run.{Run}
use Rattle.gufi_rows.proofs.Runs.{get_or-run}
use Rattle.gufi_rows.proofs.Spots.{parts_same}
use Rattle.gufi_rows.proofs.run_places.RunPlacesPlaces.parts.Goals as goal

pub returns : goal.returns
returns c =
    let is = c.find-at.ensures in
    parts_same _ _ _ _ _ _ refl refl (get_or-run c.args.self.now.runs.now c.args.place c.find-at.result is c.index-self-at.result c.index-self-at.is c.args.place is.low is.high
    ∙ ap (λ (r : Run). get_or r.lines (c.args.place - c.find-at.result.from) []) c.index-self-at.is) c.parts_at.ensures
