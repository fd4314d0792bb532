use Rattle.std.proofs.Common.{◌∙◌, arith}
use Rattle.gufi_info.proofs.Counted.{entries-more}
use Rattle.gufi_info.proofs.census.Census.with_entries.Goals as goal

pub loop-place-preserved : goal.loop-place-preserved
loop-place-preserved c = λ rows path found deep.
    c.with-census.ensures
    ∙ entries-more rows path c.args.entries.now c.loop-place.place c.at.result c.rec.result c.loop-place.census c.args.depth (omega arith) c.at.ensures c.rec.ensures deep (c.loop-place.invariant rows path found deep)
