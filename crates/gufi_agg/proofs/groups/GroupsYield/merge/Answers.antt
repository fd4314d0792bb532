use Rattle.std.proofs.Common.{arith, ap, ◌∙◌}
use Rattle.std.proofs.lemmas.Result.{on_ok_weaker}
use Rattle.gufi_stats.specs.Grouped.{rows_counted}
use Rattle.gufi_stats.proofs.Joined.{sum-most, rows-joined}
use Rattle.gufi_agg.specs.Grouped.{as_file}
use Rattle.gufi_agg.proofs.groups.GroupsYield.merge.Goals as goal

pub join-requires : goal.join-requires
join-requires g c = λ n.
    let most = sum-most c.self.inside.sums n in
    let same = ap rows_counted c.self.view_is in
    let other = ap rows_counted c.other.view_is in
    omega (arith, most, same, other, c.requires.room)

pub returns : goal.returns
returns g c =
    on_ok_weaker c.join.result (λ put rows more own others.
    rows-joined as_file g.K.RowNumber.number rows more c.self.inside.sums c.other.inside.sums c.join.new.self (c.self.view_is ∙ own) (c.other.view_is ∙ others) put) c.join.ensures
