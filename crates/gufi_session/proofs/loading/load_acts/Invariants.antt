use Rattle.std.proofs.Common.{◌≡◌, ◌≤◌, ◌+◌, length, drop}
use Rattle.std.specs.Prelude.{Some}
use Rattle.gufi_base.specs.Limits.{max_trace}
use Rattle.gufi_io.specs.Files.{Files}
use Rattle.gufi_phases.specs.Phases.{command_count}
use Rattle.gufi_plan.specs.Bounds.{publishing_among}
use Rattle.gufi_session.proofs.Loads.{IsLoaded, LeadsOn}
use Rattle.gufi_session.proofs.loading.load_acts.Given as goal

abbrev pub invariant-loop-act : goal.invariant-loop-act
invariant-loop-act g l = record {
  within : l.before ≤ max_trace;
  many : length l.acts.items ≡ l.act-index;
  same : g.F.Shelf.files l.shelf ≡ g.F.Shelf.files l.fn.shelf;
  faults : g.F.Shelf.faults l.fn.shelf ≤ g.F.Shelf.faults l.shelf;
  absents : g.F.Shelf.absents l.fn.shelf ≤ g.F.Shelf.absents l.shelf;
  commands : command_count l.acts.items + publishing_among (drop l.act-index l.phase) ≡ publishing_among l.phase;
  leads : LeadsOn g.F.Shelf l.phase l.act-index l.before l.fn.shelf l.shelf;
  told : (files : Files) → g.F.Shelf.files l.fn.shelf ≡ Some files → IsLoaded files l.phase l.act-index l.before l.acts.items;
}
