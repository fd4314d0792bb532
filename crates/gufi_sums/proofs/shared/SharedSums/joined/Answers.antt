use Rattle.std.proofs.Common.{◌≡◌, ◌∙◌, ◌++◌, take, drop, refl, sym, ap₂, arith}
use Rattle.gufi_sums.specs.SumLists.{SumLists}
use Rattle.gufi_sums.specs.Blocks.{lists_of, sums_in}
use Rattle.gufi_sums.proofs.Slots.{splice_is, splice_stands, lists_joined, lists_behind}
use Rattle.gufi_sums.proofs.shared.SharedSums.joined.Goals as goal

pub used_blocks-requires : goal.used_blocks-requires
used_blocks-requires c =
    let s = c.self.inside in
    let p = c.part.inside in
    rw (c.as_slice-7.ensures.value, c.as_slice-8.ensures.value, c.as_slice-9.ensures.value)
    (splice_stands (lists_of s.blocks.items s.last.items) (lists_of p.blocks.items p.last.items) (lists_of c.in_ok-joined.joined.items c.in_ok-last.last.items) s.slots.items p.slots.items c.in_ok-slots.slots.items c.args.at c.args.end c.in_ok-by.by
    (lists_joined s.blocks.items s.last.items p.blocks.items p.last.items c.in_ok-joined.joined.items c.in_ok-last.last.items
    (c.in_ok-joined.ensures ∙ rw (c.as_slice-3.ensures.value, c.as_slice-4.ensures.value, c.as_slice-5.ensures.value) refl) (c.in_ok-last.ensures.items ∙ c.as_slice-6.ensures.value))
    (lists_behind s.blocks.items s.last.items c.in_ok-by.by (omega (arith, c.in_ok-by.ensures, c.len.ensures)))
    (c.in_ok-slots.ensures ∙ rw (c.as_slice.ensures.value, c.as_slice-2.ensures.value) refl) c.self.invariant c.part.invariant)

pub returns : goal.returns
returns c =
    let s = c.self.inside in
    let p = c.part.inside in
    let whole = splice_is (lists_of s.blocks.items s.last.items) (lists_of p.blocks.items p.last.items) (lists_of c.in_ok-joined.joined.items c.in_ok-last.last.items) s.slots.items p.slots.items c.in_ok-slots.slots.items c.args.at c.args.end c.in_ok-by.by
    (lists_joined s.blocks.items s.last.items p.blocks.items p.last.items c.in_ok-joined.joined.items c.in_ok-last.last.items
    (c.in_ok-joined.ensures ∙ rw (c.as_slice-3.ensures.value, c.as_slice-4.ensures.value, c.as_slice-5.ensures.value) refl) (c.in_ok-last.ensures.items ∙ c.as_slice-6.ensures.value))
    (lists_behind s.blocks.items s.last.items c.in_ok-by.by (omega (arith, c.in_ok-by.ensures, c.len.ensures)))
    (c.in_ok-slots.ensures ∙ rw (c.as_slice.ensures.value, c.as_slice-2.ensures.value) refl) c.self.invariant c.part.invariant in
    let used = c.in_ok-blocks.ensures.sums in
    let same : sums_in (lists_of c.in_ok-blocks.blocks.items c.in_ok-last.last.items) c.in_ok-slots.slots.items ≡ sums_in (lists_of c.in_ok-joined.joined.items c.in_ok-last.last.items) c.in_ok-slots.slots.items =
    rw (sym c.as_slice-7.ensures.value, sym c.as_slice-8.ensures.value, sym c.as_slice-9.ensures.value) used in
    same ∙ whole
    ∙ ap₂ (λ (s : SumLists) (p : SumLists). record {
      own = take c.args.at s.own ++ (p.own ++ drop c.args.end s.own);
      below = take c.args.at s.below ++ (p.below ++ drop c.args.end s.below);
    }) c.self.view_is c.part.view_is
