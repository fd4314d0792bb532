use Rattle.std.proofs.Common.{rules, arith, ◌≡◌, ◌∷◌, ◌++◌, All, Ok, sym, subst}
use Rattle.std.proofs.lemmas.Grind.{common_steps}
use Rattle.std.proofs.lemmas.List.Elements.{All-append}
use Rattle.gufi_phases.specs.declared.answer.Row.{Row}
use Rattle.gufi_phases.specs.Lanes.{IsLaneRow, IsRowWithin, IsServed}
use Rattle.gufi_phases.proofs.Gathered.{taken_one, of_this}
use Rattle.gufi_phases.proofs.replies.gather.Goals as goal

pub loop-served-preserved : goal.loop-served-preserved
loop-served-preserved g c =
    let l = c.loop-served in let h = l.invariant in
    let rest : l.served-iterator.rest.items ≡ c.in-Some.served ∷ c.next.new.self.rest.items = (first_of (search rules, grind (arith, common_steps))) in
    let got : c.in-Some.served ≡ Ok c.in_ok-served.served = (first_of (search rules, grind (arith, common_steps))) in
    let items : c.append.new.self.items ≡ l.rows.items ++ c.in_ok-served.served.rows.items = (first_of (search rules, grind (arith, common_steps))) in record {
      can = tt;
      finite = tt;
      parts = taken_one c.args.all.items l.yielded l.served-iterator.rest.items c.next.new.self.rest.items c.in-Some.served h.parts rest;
      each = λ before i low acts are.
          let wanted = g.Q.Wanted in
          let P = λ (row : Row). IsRowWithin low c.args.number acts row.places.items × IsLaneRow g.M.Meaning.means wanted.reply wanted.head wanted.key wanted.body before i acts row in
          let own = of_this (IsServed g.M.Meaning.means wanted.reply wanted.head wanted.key wanted.body before i low acts) c.args.all.items l.yielded l.served-iterator.rest.items c.next.new.self.rest.items c.in-Some.served c.in_ok-served.served h.parts rest got are in
          subst (All P) (sym items)
          (All-append P l.rows.items c.in_ok-served.served.rows.items (h.each before i low acts are) (λ k d below. ((c.in_ok-served.served.seen, own.1 k d below, c.if-served-number.false), own.2 k d below)));
    }
