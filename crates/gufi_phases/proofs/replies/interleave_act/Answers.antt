use Rattle.std.proofs.Common.{rules, arith, ◌≡◌, ℕ, List, [], ◌∷◌, ◌++◌, map, refl, sym, subst}
use Rattle.std.specs.Prelude.{Some, None, if◌then◌else◌, slice_index_or}
use Rattle.std.proofs.lemmas.Grind.{common_steps}
use Rattle.std.proofs.lemmas.List.{append-nil}
use Rattle.gufi_phases.specs.declared.act.Act.TheVariants.{Publish, Ask}
use Rattle.gufi_phases.specs.Lanes.{IsInterleavedAct, joined, places_of, row_of}
use Rattle.gufi_phases.proofs.Interleaving.{joined_more}
use Rattle.gufi_phases.proofs.replies.interleave_act.Goals as goal

pub returns-in_ok-push-in-Some-clause-added : goal.returns-in_ok-push-in-Some-clause-added
returns-in_ok-push-in-Some-clause-added g c =
    let rows = row_of (places_of c.args.rows.now) in
    let line : List ℕ = slice_index_or (map (λ l. l.items) c.args.lines.now) c.args.at [] in
    let is : Publish c.in-Publish.command ≡ c.args.act.now = (first_of (search rules, grind (arith, common_steps))) in
    let text : joined c.push.new.self.items ≡ joined c.args.parts.now.items ++ line = joined_more c.args.parts.now.items c.push.new.self.items c.in-Some.line line (first_of (search rules, grind (arith, common_steps))) (first_of (search rules, grind (arith, common_steps))) in
    ([], line, sym (append-nil c.args.numbers.now.items), text, subst (λ act. IsInterleavedAct c.args.at rows line act [] 0 line) is (refl, refl, refl))

pub returns-in_ok-push-in-Some-answer_at-2-clause-added : goal.returns-in_ok-push-in-Some-answer_at-2-clause-added
returns-in_ok-push-in-Some-answer_at-2-clause-added g c =
    let rows = row_of (places_of c.args.rows.now) in
    let line : List ℕ = slice_index_or (map (λ l. l.items) c.args.lines.now) c.args.at [] in
    let answer = c.in-Some-answer_at.answer.now in
    let is : Ask c.in-Ask.lane c.in-Ask.question ≡ c.args.act.now = (first_of (search rules, grind (arith, common_steps))) in
    let numbers : c.push-in-Some-answer_at.new.self.items ≡ c.args.numbers.now.items ++ answer.number ∷ [] = (first_of (search rules, grind (arith, common_steps))) in
    let text : joined c.push-in-Some-answer_at-2.new.self.items ≡ joined c.args.parts.now.items ++ answer.text.items = joined_more c.args.parts.now.items c.push-in-Some-answer_at-2.new.self.items c.as_slice.result answer.text.items (first_of (search rules, grind (arith, common_steps))) (first_of (search rules, grind (arith, common_steps))) in
    let found : slice_index_or (rows c.in-Ask.lane) c.args.at None ≡ Some answer = (first_of (search rules, grind (arith, common_steps))) in
    let hit : c.from.result ≡ (if answer.hit then 1 else 0) = (first_of (search rules, grind (arith, common_steps))) in (
      answer.number ∷ [],
      answer.text.items,
      numbers,
      text,
      subst (λ act. IsInterleavedAct c.args.at rows line act (answer.number ∷ []) c.from.result answer.text.items) is (answer, found, refl, hit, refl),
    )
