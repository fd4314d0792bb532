use Rattle.std.proofs.Common.{◌≡◌, ◌+◌, ◌-◌, ◌∙◌, sym, ap, arith, take, drop, eqb, List, ℕ}
use Rattle.std.specs.Prelude.{position}
use Rattle.std.proofs.lemmas.List.{take_rest}
use Rattle.gufi_tree.proofs.Resolving.{cut_name}
use Rattle.gufi_tree.proofs.resolve.cut.Goals as goal

pub returns : goal.returns
returns c = λ front name rest same len none.
    let k = c.unwrap.result in
    let parts = cut_name c.args.text.now front name rest c.args.offset k same len none (ap (λ (t : List ℕ). position (λ b. eqb b 47) t) (sym (take_rest c.args.text.now c.args.offset)) ∙ sym c.slash_at.ensures ∙ c.unwrap.ensures) in
    let e : c.args.offset + c.unwrap.result - c.args.offset ≡ c.unwrap.result = omega arith in
    (parts.1.0, ap (λ n. take n (drop c.args.offset c.args.text.now)) e ∙ parts.1.1)
