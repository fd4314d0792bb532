use Rattle.std.proofs.Common.{arith, ◌∙◌}
use Rattle.std.proofs.lemmas.Result.{IfOk-weaker}
use Rattle.gufi_stats.proofs.Joined.{rows-most}
use Rattle.gufi_agg.specs.Grouped.{as_file}
use Rattle.gufi_agg.proofs.GroupLemmas.{groups-sorted}
use Rattle.gufi_agg.proofs.groups.Groups.sorted.Goals as goal

pub into_sums-requires : goal.into_sums-requires
into_sums-requires g c = λ n.
    let most = rows-most as_file g.K.RowNumber.number c.self.inside.sums c.requires.few.0 n (c.self.view_is ∙ c.requires.few.1) in
    omega (arith, most, c.requires.few.2)

pub returns : goal.returns
returns g c = record {
  groups =
      IfOk-weaker c.groups_of.result _ _ (λ groups told rows is.
      groups-sorted g.K.RowNumber.number rows c.self.inside.sums c.in_ok-sums.sums.entries groups.items told c.in_ok-sums.ensures.sums (c.self.view_is ∙ is)) c.groups_of.ensures;
}
