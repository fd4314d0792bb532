use Rattle.std.proofs.Common.{◌≡◌, ℕ, List, ◌++◌, All}
use Rattle.std.specs.Prelude.{IfOk}
use Rattle.gufi_phases.specs.declared.act.Act.{Act}
use Rattle.gufi_phases.specs.Keeping.{Keeping}
use Rattle.gufi_phases.specs.Lanes.{IsLaneRow, IsRowWithin, IsServed}
use Rattle.gufi_phases.proofs.replies.gather.Given as goal

abbrev pub invariant-loop-served : goal.invariant-loop-served
invariant-loop-served g l = record {
  can : (goal.iterator-loop-served g).can_next l.served-iterator;
  finite : (goal.iterator-loop-served g).is_finite l.served-iterator;
  parts : l.fn.all.items ≡ l.yielded ++ l.served-iterator.rest.items;
  each : (before : ℕ → Keeping) (i low : ℕ) (acts : List (Act g.row.C.Denot g.row.Q.Denot)) → All (λ r. IfOk r (IsServed g.M.Meaning.means g.Q.Wanted.reply g.Q.Wanted.head g.Q.Wanted.key g.Q.Wanted.body before i low acts)) l.fn.all.items
      → All (λ row. IsRowWithin low l.fn.number acts row.places.items × IsLaneRow g.M.Meaning.means g.Q.Wanted.reply g.Q.Wanted.head g.Q.Wanted.key g.Q.Wanted.body before i acts row) l.rows.items;
}
