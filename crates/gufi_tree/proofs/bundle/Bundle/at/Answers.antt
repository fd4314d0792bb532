use Rattle.std.proofs.Common.{◌<◌, ◌∙◌, ℕ, List, get_or, length, sym, ap, subst, arith}
use Rattle.std.proofs.lemmas.List.{get_or-map, length-map}
use Rattle.gufi_tree.specs.declared.bundle.Head.{Head}
use Rattle.gufi_tree.specs.declared.bundle.Packed.{Packed}
use Rattle.gufi_tree.specs.Bundles.{directory_in, IsHead}
use Rattle.gufi_tree.specs.Heads.{packed_head}
use Rattle.gufi_tree.specs.Tree.{Directory}
use Rattle.gufi_tree.proofs.bundle.Bundle.at.Goals as goal

pub of-requires-clause-head : goal.of-requires-clause-head
of-requires-clause-head c =
    let s = c.self.inside in
    let head : Head = packed_head c.at.result.0.now c.at.result.1.now in
    let within : c.args.place < length s.heads = omega (arith, c.requires, ap length c.self.view_is, length-map s.heads (directory_in s.text.items s.rows)) in
    rw (c.as_slice.ensures.value, c.as_rows_ref.ensures) (subst (IsHead s.text.items s.rows) (sym (c.at.ensures.value head)) (c.self.invariant.each c.args.place head within))

pub returns : goal.returns
returns c = λ d.
    let s = c.self.inside in
    let see = directory_in s.text.items s.rows in
    let head : Head = packed_head c.at.result.0.now c.at.result.1.now in
    let within : c.args.place < length s.heads = omega (arith, c.requires, ap length c.self.view_is, length-map s.heads see) in
    c.of.ensures ∙ ap (λ (t : List ℕ). directory_in t c.as_rows_ref.result head) c.as_slice.ensures.value ∙ ap (λ (rs : List Packed). directory_in s.text.items rs head) c.as_rows_ref.ensures
    ∙ ap see (c.at.ensures.value head) ∙ sym (get_or-map see s.heads c.args.place head d within) ∙ ap (λ (ds : List Directory). get_or ds c.args.place d) c.self.view_is
