use Rattle.std.proofs.Common.{◌≡◌, ◌∙◌, ◌-◌, ◌++◌, ℕ, List, Some, None, sym, ap, length, arith, slice_get}
use Rattle.std.proofs.lemmas.Bool.{false_from_ne_true, true≢false}
use Rattle.gufi_base.specs.Paths.{Components, is_prefix}
use Rattle.gufi_tree.specs.declared.tree.DirId.{DirId}
use Rattle.gufi_tree.specs.Places.{path_at, child_ids}
use Rattle.gufi_tree.proofs.Flat.{is_prefix-rest}
use Rattle.gufi_tree.proofs.GraftBelow.{longer_prefix}
use Rattle.gufi_tree.proofs.LastBelow.{ends_here, last_kid}
use Rattle.gufi_tree.proofs.Ranges.{own_prefix}
use Rattle.gufi_tree.proofs.tree.Tree.last_below.Goals as goal

pub levels-init : goal.levels-init
levels-init c = record { order = omega arith; within = c.requires.within; below = own_prefix (path_at c.args.self.now c.args.id.0); on = λ k low high leads. leads }

pub levels-smaller : goal.levels-smaller
levels-smaller c =
    let found : slice_get (child_ids c.args.self.now (path_at c.args.self.now c.levels.last.0)) (length (child_ids c.args.self.now (path_at c.args.self.now c.levels.last.0)) - 1) ≡ Some c.in-Some.kid.now =
    ap (λ (l : List DirId). slice_get l (length l - 1)) (sym c.subdirs.ensures) ∙ sym c.in-Some.ensures.value in
    let kid = last_kid c.args.self.now c.requires.shape c.levels.last.0 c.levels.invariant.within c.in-Some.kid.now found in
    omega (arith, kid.later, kid.there)

pub levels-preserved : goal.levels-preserved
levels-preserved c =
    let tree = c.args.self.now in
    let i = c.levels.invariant in
    let found : slice_get (child_ids c.args.self.now (path_at c.args.self.now c.levels.last.0)) (length (child_ids c.args.self.now (path_at c.args.self.now c.levels.last.0)) - 1) ≡ Some c.in-Some.kid.now =
    ap (λ (l : List DirId). slice_get l (length l - 1)) (sym c.subdirs.ensures) ∙ sym c.in-Some.ensures.value in
    let kid = last_kid c.args.self.now c.requires.shape c.levels.last.0 i.within c.in-Some.kid.now found in
    let rest = is_prefix-rest (path_at tree c.args.id.0) (path_at tree c.levels.last.0) i.below in
    record {
      order = omega (arith, kid.later, i.order);
      within = kid.there;
      below = longer_prefix (path_at tree c.args.id.0) rest.0 (path_at tree c.in-Some.kid.now.0) (ap (λ (p : Components). is_prefix p (path_at tree c.in-Some.kid.now.0)) (sym rest.1) ∙ kid.leads);
      on = λ k low high leads. kid.on k low high (i.on k (omega (arith, kid.later, low)) high leads);
    }

pub returns : goal.returns
returns c =
    let tree = c.args.self.now in
    let i = c.levels.invariant in
    let found : slice_get (child_ids c.args.self.now (path_at c.args.self.now c.levels.last.0)) (length (child_ids c.args.self.now (path_at c.args.self.now c.levels.last.0)) - 1) ≡ None =
    ap (λ (l : List DirId). slice_get l (length l - 1)) (sym c.subdirs.ensures) ∙ sym c.in_default.ensures.value in
    record {
      order = i.order;
      within = i.within;
      below = i.below;
      none = λ k low high. false_from_ne_true _ (λ leads. true≢false (sym (i.on k low high leads) ∙ ends_here tree c.requires.shape c.levels.last.0 i.within found k low high));
    }
