use Rattle.std.proofs.Common.{arith, ap, ◌∙◌}
use Rattle.std.proofs.lemmas.Result.{on_ok_weaker}
use Rattle.gufi_stats.specs.Grouped.{rows_counted}
use Rattle.gufi_stats.proofs.Joined.{sum-most, row-counted}
use Rattle.gufi_agg.specs.Grouped.{as_file}
use Rattle.gufi_agg.proofs.groups.GroupsYield.take.Goals as goal

pub add-requires : goal.add-requires
add-requires g c = λ n.
    let most = sum-most c.self.inside.sums n in
    let same = ap rows_counted c.self.view_is in
    omega (arith, most, same, c.requires.room)

pub returns : goal.returns
returns g c =
    on_ok_weaker c.add.result (λ added of rows stands is.
    row-counted as_file g.K.RowNumber.number rows of c.of.result c.as_file-meta.result c.self.inside.sums c.add.new.self (c.of.ensures of stands) (c.as_file-meta.ensures ∙ ap as_file stands.meta) (c.self.view_is ∙ is) added) c.add.ensures
