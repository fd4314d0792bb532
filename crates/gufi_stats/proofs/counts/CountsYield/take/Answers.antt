use Rattle.std.proofs.Common.{arith, ap, ◌∙◌}
use Rattle.std.proofs.lemmas.Result.{on_ok_weaker}
use Rattle.gufi_stats.specs.Grouped.{rows_counted}
use Rattle.gufi_stats.proofs.Joined.{sum-most, row-counted}
use Rattle.gufi_stats.proofs.counts.CountsYield.take.Goals as goal

pub add-requires : goal.add-requires
add-requires g c = λ n.
    let most = sum-most c.self.inside.groups n in
    let same = ap rows_counted c.self.view_is in
    omega (arith, most, same, c.requires.room)

pub returns : goal.returns
returns g c =
    on_ok_weaker c.add.result (λ added of rows stands is.
    row-counted (λ meta. meta) g.K.RowNumber.number rows of c.of.result c.args.row.meta.now c.self.inside.groups c.add.new.self (c.of.ensures of stands) stands.meta (c.self.view_is ∙ is) added) c.add.ensures
