use Rattle.std.proofs.Common.{◌∙◌, sym, ap, arith}
use Rattle.gufi_base.specs.Paths.{Components}
use Rattle.gufi_base.specs.Basics.{ascends}
use Rattle.gufi_access.specs.Access.{is_granted}
use Rattle.gufi_tree.specs.Tree.{Directory, entry_cmp, place_of}
use Rattle.gufi_tree.specs.Resolve.{resolve_from}
use Rattle.gufi_tree.proofs.Linked.{at_place, place_within}
use Rattle.gufi_tree.proofs.Resolving.{depth_at, step_denied, step_on, step_missing, place_path}
use Rattle.gufi_tree.proofs.resolve.step.Goals as goal

pub denied-requires : goal.denied-requires
denied-requires c =
    let h = depth_at c.args.dirs.now c.args.who.now c.requires.shape c.args.place c.at-dir.result c.requires.within (c.at-dir.ensures c.at-dir.result) in
    omega (arith, h, c.requires.within, c.requires.few)

pub missing-requires-clause-depth : goal.missing-requires-clause-depth
missing-requires-clause-depth c =
    let h = depth_at c.args.dirs.now c.args.who.now c.requires.shape c.args.place c.at-dir.result c.requires.within (c.at-dir.ensures c.at-dir.result) in
    omega (arith, h, c.requires.within, c.requires.few)

pub missing-requires-clause-order : goal.missing-requires-clause-order
missing-requires-clause-order c = at_place (λ (d : Directory). ascends entry_cmp d.entries) c.args.dirs.now c.args.place c.at-dir.result c.requires.shape.entries c.requires.within (c.at-dir.ensures c.at-dir.result)

pub returns-then-not-granted : goal.returns-then-not-granted
returns-then-not-granted c = λ rest.
    c.denied.ensures ∙ step_denied c.args.dirs.now c.args.who.now c.requires.shape c.args.place c.at-dir.result c.requires.within (c.at-dir.ensures c.at-dir.result) c.args.name.now rest
    (ap (λ r. is_granted c.args.who.now r 1) (sym c.guard.ensures) ∙ sym c.granted.ensures ∙ c.if-not-granted.true)

pub returns-in-Some : goal.returns-in-Some
returns-in-Some c =
    let found = sym c.in-Some.ensures in (
      place_within c.args.dirs.now _ c.in-Some.at found,
      place_path c.args.dirs.now _ c.in-Some.at found,
      λ rest.
          step_on c.args.dirs.now c.args.who.now c.requires.shape c.args.place c.at-dir.result c.requires.within (c.at-dir.ensures c.at-dir.result) c.args.name.now rest
          (ap (λ r. is_granted c.args.who.now r 1) (sym c.guard.ensures) ∙ sym c.granted.ensures ∙ c.if-not-granted.false)
          ∙ ap (λ (p : Components). resolve_from c.args.dirs.now c.args.who.now p rest) (sym c.requires.name),
    )

pub returns-in-None : goal.returns-in-None
returns-in-None c = λ rest.
    let none = ap (place_of c.args.dirs.now) (sym c.requires.name) ∙ sym c.in-None.ensures in
    c.missing.ensures ∙ step_missing c.args.dirs.now c.args.who.now c.requires.shape c.args.place c.at-dir.result c.requires.within (c.at-dir.ensures c.at-dir.result) c.args.name.now rest none
    ∙ sym (step_on c.args.dirs.now c.args.who.now c.requires.shape c.args.place c.at-dir.result c.requires.within (c.at-dir.ensures c.at-dir.result) c.args.name.now rest
    (ap (λ r. is_granted c.args.who.now r 1) (sym c.guard.ensures) ∙ sym c.granted.ensures ∙ c.if-not-granted.false))
