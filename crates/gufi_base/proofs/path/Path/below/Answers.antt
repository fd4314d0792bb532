use Rattle.std.proofs.Common.{◌≡◌, ◌-◌, length, arith, ◌∙◌, ap}
use Rattle.std.specs.Prelude.{drop}
use Rattle.gufi_base.proofs.Below.{prefix-given, front-fits, IsText-drop, names-drop}
use Rattle.gufi_base.proofs.path.Path.below.Goals as goal

pub without_front-text-requires : goal.without_front-text-requires
without_front-text-requires c =
    let prefix = prefix-given c.root.inside.text.items c.as_slice-2.result.now c.self.inside.text.items c.as_slice.result.now c.begins_with.result c.as_slice-2.ensures.value c.as_slice.ensures.value c.begins_with.ensures c.if-not-begins_with.false in
    omega (arith, c.len.ensures, c.root.inside.text.ok.0, front-fits c.root.inside.text.items c.self.inside.text.items c.root.invariant c.self.invariant prefix)

pub invariant_of-result : goal.invariant_of-result
invariant_of-result c =
    let prefix = prefix-given c.root.inside.text.items c.as_slice-2.result.now c.self.inside.text.items c.as_slice.result.now c.begins_with.result c.as_slice-2.ensures.value c.as_slice.ensures.value c.begins_with.ensures c.if-not-begins_with.false in
    let n : c.len.result - 1 ≡ length c.root.inside.text.items - 1 = omega (arith, c.len.ensures, c.root.inside.text.ok.0) in
    IsText-drop c.root.inside.text.items c.self.inside.text.items c.without_front-text.result.items c.root.invariant c.self.invariant prefix (c.without_front-text.ensures ∙ ap (λ k. drop k c.self.inside.text.items) n)

pub returns : goal.returns
returns c =
    let prefix = prefix-given c.root.inside.text.items c.as_slice-2.result.now c.self.inside.text.items c.as_slice.result.now c.begins_with.result c.as_slice-2.ensures.value c.as_slice.ensures.value c.begins_with.ensures c.if-not-begins_with.false in
    let n : c.len.result - 1 ≡ length c.root.inside.text.items - 1 = omega (arith, c.len.ensures, c.root.inside.text.ok.0) in
    rw (← c.self.view_is, ← c.root.view_is) (prefix, names-drop c.root.inside.text.items c.self.inside.text.items c.without_front-text.result.items c.root.invariant c.self.invariant prefix (c.without_front-text.ensures ∙ ap (λ k. drop k c.self.inside.text.items) n))
