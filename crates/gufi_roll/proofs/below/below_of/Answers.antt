use Rattle.std.proofs.Common.{◌≡◌, ◌+◌, ◌<◌, ◌∙◌, refl, sym, ap, arith, get_or, length, false, true, eqb-true}
use Rattle.gufi_access.specs.Access.{rights}
use Rattle.gufi_tree.specs.declared.tree.DirId.{DirId}
use Rattle.gufi_tree.proofs.Kids.{at_place}
use Rattle.gufi_roll.specs.declared.below.Below.{Below}
use Rattle.gufi_roll.proofs.Laws.{get_or_other, kid_found, kid_within, kid_rows, kid_few, kid_cover, below_is}
use Rattle.gufi_roll.proofs.below.below_of.Goals as goal

pub loop-child-init : goal.loop-child-init
loop-child-init c = record {
  rows = λ d. omega (arith, ap length (c.entries.ensures.value d));
  covered = λ d. refl;
}

pub bounds-found-child : goal.bounds-found-child
bounds-found-child c =
    let ids = c.subdirs-children.result.now in
    let i = c.loop-child.child-index in
    let none : DirId = record { 0 = 0 } in
    kid_found c.args.tree.now c.dirs-count.ensures.shape c.args.id.0 c.requires.within ids c.subdirs-children.ensures c.args.found.now c.requires.behind i (get_or ids i none) c.loop-child-test.true
    (get_or_other ids i none (get_or ids i none) c.loop-child-test.true)

pub stay_covered-covered-requires : goal.stay_covered-covered-requires
stay_covered-covered-requires c =
    let ids = c.subdirs-children.result.now in
    let i = c.loop-child.child-index in
    let none : DirId = record { 0 = 0 } in
    kid_within c.args.tree.now c.dirs-count.ensures.shape c.args.id.0 c.requires.within ids c.subdirs-children.ensures c.args.found.now c.requires.behind i (get_or ids i none) c.loop-child-test.true
    (get_or_other ids i none (get_or ids i none) c.loop-child-test.true)

pub overflow_add-rows-in-loop-child : goal.overflow_add-rows-in-loop-child
overflow_add-rows-in-loop-child c =
    let ids = c.subdirs-children.result.now in
    let i = c.loop-child.child-index in
    let none : DirId = record { 0 = 0 } in
    let unknown : Below = record { rows = 0; covered = false } in
    let d = (at_place c.args.tree.now c.args.id.0 c.requires.within).0 in
    let few : c.loop-child.rows + (get_or c.args.found.now (get_or c.subdirs-children.result.now c.loop-child.child-index (record { 0 = 0 })).0 (record { rows = 0; covered = false })).rows < 4294967296 =
    kid_few c.args.tree.now c.dirs-count.ensures.shape c.args.id.0 c.requires.within ids c.subdirs-children.ensures c.args.found.now c.requires.behind i (get_or ids i none) c.loop-child-test.true
    (get_or_other ids i none (get_or ids i none) c.loop-child-test.true) d unknown c.loop-child.rows 4294967296 (c.loop-child.invariant.rows d) c.dirs-count.ensures.rows in
    omega (arith, few)

pub loop-child-preserved : goal.loop-child-preserved
loop-child-preserved c =
    let ids = c.subdirs-children.result.now in
    let i = c.loop-child.child-index in
    let none : DirId = record { 0 = 0 } in
    let unknown : Below = record { rows = 0; covered = false } in
    let same = get_or_other ids i none (get_or ids i none) c.loop-child-test.true in
    record {
      rows = λ d.
          kid_rows c.args.tree.now c.dirs-count.ensures.shape c.args.id.0 c.requires.within ids c.subdirs-children.ensures c.args.found.now c.requires.behind i (get_or ids i none) c.loop-child-test.true same
          unknown (length (get_or c.args.tree.now c.args.id.0 d).entries) c.loop-child.rows (c.loop-child.invariant.rows d);
      covered = λ d.
          c.stay_covered-covered.ensures d ∙ kid_cover c.args.tree.now c.dirs-count.ensures.shape c.args.id.0 c.requires.within ids c.subdirs-children.ensures c.args.found.now c.requires.behind i (get_or ids i none) c.loop-child-test.true same
          d unknown c.loop-child.covered (rights c.of-above.result.guard) (c.of-above.ensures ∙ c.guard.ensures d) (c.loop-child.invariant.covered d);
    }

pub returns : goal.returns
returns c =
    let d = (at_place c.args.tree.now c.args.id.0 c.requires.within).0 in
    below_is c.args.tree.now c.dirs-count.ensures.shape c.args.id.0 d c.subdirs-children.result.now c.loop-child.child-index c.loop-child.rows c.loop-child.covered c.requires.within c.subdirs-children.ensures (omega arith)
    (c.loop-child.invariant.rows d) (c.loop-child.invariant.covered d)

pub returns-then-is_empty : goal.returns-then-is_empty
returns-then-is_empty c =
    let none : length c.subdirs-children.result.now ≡ 0 = eqb-true _ _ (sym c.is_empty.ensures ∙ c.if-is_empty.true) in
    let d = (at_place c.args.tree.now c.args.id.0 c.requires.within).0 in
    below_is c.args.tree.now c.dirs-count.ensures.shape c.args.id.0 d c.subdirs-children.result.now 0 _ true c.requires.within c.subdirs-children.ensures (omega arith)
    (omega (arith, ap length (c.entries.ensures.value d))) refl
