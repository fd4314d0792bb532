use Rattle.std.proofs.Common.{rules, arith, ◌≡◌, ◌+◌, [], ◌∷◌, ◌++◌, drop, fold, ap, ◌∙◌}
use Rattle.std.proofs.lemmas.Grind.{common_steps}
use Rattle.gufi_hub.specs.Hub.{number_of}
use Rattle.gufi_hub.proofs.Keeping.{sights}
use Rattle.gufi_hub.proofs.Pending.{becomes}
use Rattle.gufi_hub.proofs.publisher.publish_next.Goals as goal

pub publish_as-writer-requires : goal.publish_as-writer-requires
publish_as-writer-requires g c next is =
    let w = c.args.writer in let before = c.append.new.self in
    let same : before.desk.shown.value.number ≡ w.desk.shown.value.number = ap (λ d. d.shown.value.number) c.append.ensures.desk in
    let now : drop before.behind before.log.items ≡ drop w.behind w.log.items ++ c.new.result ∷ [] = search rules in
    let that : next.number ≡ c.new.result.number = becomes (λ o. o.number) before.desk.shown.value.number next.number _ _ c.new.result now is in
    let one : c.new.result.number ≡ w.desk.shown.value.number + 1 = (first_of (search rules, grind (arith, common_steps))) in
    sights number_of _ _ before.desk.shown.value next (omega arith)

pub returns-clause-number : goal.returns-clause-number
returns-clause-number g c =
    let w = c.args.writer in let before = c.append.new.self in
    let now : drop before.behind before.log.items ≡ drop w.behind w.log.items ++ c.new.result ∷ [] = search rules in
    let is : c.publish_as-writer.result.0.desk.shown.value.number ≡ fold (λ _ o. o.number) before.desk.shown.value.number (drop before.behind before.log.items) = search rules in
    let one : c.new.result.number ≡ w.desk.shown.value.number + 1 = (first_of (search rules, grind (arith, common_steps))) in
    becomes (λ o. o.number) before.desk.shown.value.number _ _ _ c.new.result now is ∙ one
