use Rattle.gufi_rows.proofs.Runs.{at_within, run-ascends}
use Rattle.gufi_rows.proofs.run_places.RunPlacesPlaces.stretch_end.Goals as goal

pub returns-clause-within : goal.returns-clause-within
returns-clause-within c = at_within c.args.self.now.runs.now c.args.from c.find-at.result c.find-at.ensures c.index-self-at.result c.index-self-at.is

pub returns-clause-ascends : goal.returns-clause-ascends
returns-clause-ascends c = run-ascends c.args.self.now.runs.now c.args.from c.find-at.result c.find-at.ensures c.index-self-at.result c.index-self-at.is c.index-self-at.result.ascends
