use Rattle.std.proofs.Common.{rules, arith, ◌≡◌, ℕ, ◌+◌, ◌<◌, [], ◌∷◌, ◌++◌, length, All, Contains, sym, ap, subst}
use Rattle.std.specs.List.{HoldsAt, swap_remove}
use Rattle.std.proofs.lemmas.Grind.{common_steps}
use Rattle.std.proofs.lemmas.List.Elements.{All-contains_itself, All-contains}
use Rattle.gufi_phases.specs.declared.answer.Row.{Row}
use Rattle.gufi_phases.specs.Lanes.{IsLaneRow, IsRowWithin}
use Rattle.gufi_phases.proofs.Gathered.{all_none, all_more, all_left, found_at, numbered_none, numbered_more}
use Rattle.gufi_phases.proofs.replies.in_order.Goals as goal

pub loop-number-init : goal.loop-number-init
loop-number-init g c =
    let none = c.in_ok-ordered.ensures.items in record {
      numbered = numbered_none 1 c.in_ok-ordered.ordered.items none;
      long = ap length none;
      left = All-contains_itself c.args.rows.items;
      taken = all_none (Contains c.args.rows.items) c.in_ok-ordered.ordered.items none;
    }

pub loop-number-preserved : goal.loop-number-preserved
loop-number-preserved g c =
    let l = c.loop-number in let h = l.invariant in let long = h.long in let at : ℕ = c.in-Some.at in let row : Row = c.swap_remove.result in
    let same : c.deref.result.now ≡ l.rows.items = c.deref.ensures.value in
    let inside : at < length l.rows.items = subst (λ rows. at < length rows) same c.in-Some.ensures.0 in
    let found : HoldsAt (λ (r : Row). r.lane.number ≡ l.number + 1) l.rows.items at = subst (λ rows. HoldsAt (λ (r : Row). r.lane.number ≡ l.number + 1) rows at) same c.in-Some.ensures.1 in
    let number : row.lane.number ≡ l.number + 1 = found_at (λ (r : Row). r.lane.number ≡ l.number + 1) l.rows.items at row c.swap_remove.ensures.value found in
    let items : c.push.new.self.items ≡ l.ordered.items ++ row ∷ [] = first_of (search rules, grind (arith, common_steps)) in
    let left : c.swap_remove.new.self.items ≡ swap_remove l.rows.items at row = c.swap_remove.ensures.items in
    let P = Contains c.args.rows.items in record {
      numbered = rw items (numbered_more 1 l.ordered.items row h.numbered (omega arith));
      long = first_of (search rules, grind (arith, common_steps));
      left = subst (All P) (sym left) (all_left P l.rows.items at row inside h.left);
      taken = subst (All P) (sym items) (all_more P l.ordered.items row h.taken (found_at P l.rows.items at row c.swap_remove.ensures.value (λ d. h.left at d inside)));
    }

pub returns-clause-rows : goal.returns-clause-rows
returns-clause-rows g c = λ before i low high acts are.
    let wanted = g.Q.Wanted in
    let P = λ (row : Row). IsRowWithin low high acts row.places.items × IsLaneRow g.M.Meaning.means wanted.reply wanted.head wanted.key wanted.body before i acts row in
    λ k d below. All-contains P c.args.rows.items _ are (c.loop-number.invariant.taken k d below)
