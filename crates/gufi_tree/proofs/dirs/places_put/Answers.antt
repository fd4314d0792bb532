use Rattle.std.proofs.Common.{◌≡◌, ◌∙◌, ◌++◌, ◌+◌, ◌-◌, ◌≤◌, ℕ, List, take, drop, sym, ap, arith}
use Rattle.std.proofs.lemmas.List.{append_assoc, drop-take, take_rest}
use Rattle.gufi_tree.specs.declared.dirs.Place.{Place}
use Rattle.gufi_tree.proofs.dirs.places_put.Goals as goal

between : (places : List Place) (at from : ℕ) → at ≤ from → take (from - at) (drop at places) ≡ drop at (take from places)
between places at from order =
    let whole : at + (from - at) ≡ from = omega arith in
    sym (drop-take at (from - at) places) ∙ ap (λ (n : ℕ). drop at (take n places)) whole

pub returns : goal.returns
returns c =
    let places = c.args.places.now in
    let back = drop c.args.at (take c.args.from places) in
    c.in_ok-extend_from_slice-3.ensures.items
    ∙ ap (λ (ps : List Place). c.extend_from_slice-2.new.self.items ++ ps) (between places c.args.at c.args.from c.requires.order)
    ∙ ap (λ (ps : List Place). ps ++ back) (c.in_ok-extend_from_slice-2.ensures.items
    ∙ ap (λ (ps : List Place). c.extend_from_slice.new.self.items ++ ps) (take_rest places c.args.from)
    ∙ ap (λ (ps : List Place). ps ++ drop c.args.from places) (c.in_ok-extend_from_slice.ensures.items ∙ ap (λ (ps : List Place). ps ++ take c.args.at places) c.in_ok-put.ensures.items))
    ∙ append_assoc (take c.args.at places) (drop c.args.from places) back
