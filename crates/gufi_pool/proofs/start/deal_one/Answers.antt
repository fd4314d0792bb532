use Rattle.std.proofs.Common.{ap, ◌∙◌}
use Rattle.std.proofs.lemmas.Result.{on_ok_weaker}
use Rattle.gufi_pool.specs.Members.{but_pushed}
use Rattle.gufi_pool.proofs.Routes.{map-set_same}
use Rattle.gufi_pool.proofs.start.deal_one.Goals as goal

pub returns-clause-same : goal.returns-clause-same
returns-clause-same g c = on_ok_weaker c.give.result (λ same. map-set_same but_pushed _ _ _ c.index_mut.result.now c.requires.at (same ∙ ap but_pushed c.index_mut.ensures.value)) c.give.ensures.same
