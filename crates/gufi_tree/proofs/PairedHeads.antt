-- Heads in two lists, put together pairwise.
use Rattle.std.proofs.Common.{◌≡◌, ◌∙◌, ℕ, ◌<◌, List, [], ◌∷◌, ◌++◌, length, get_or, sym, ap, arith}
use Rattle.std.proofs.lemmas.List.{get_or-map, length-map}
use Rattle.std.proofs.lemmas.Simd.{get_or-zip2, length-zip2}
use Rattle.gufi_base.specs.declared.record.Meta.{Meta}
use Rattle.gufi_tree.specs.declared.bundle.Head.{Head}
use Rattle.gufi_tree.specs.declared.heads.HeadSpot.{HeadSpot}
use Rattle.gufi_tree.specs.Heads.{guard_in, guard_of, head_spot, packed_head, packed_heads, AreGuarded, GuardNumbers}
use Rattle.gufi_tree.proofs.Paired.{zip2-append}

-- heads as they are kept, and as they are seen
module _ (spots : List HeadSpot) (metas : List Meta) (guarded : AreGuarded spots metas) where
  pub as_many_parts : length spots ≡ length metas
  as_many_parts = sym (length-map spots guard_in) ∙ ap length guarded ∙ length-map metas guard_of

  module _ (heads : List Head) (view : packed_heads spots metas ≡ heads) where
    pub as_many_heads : length spots ≡ length heads
    as_many_heads = sym (length-zip2 packed_head spots metas as_many_parts) ∙ ap length view

    module _ (place : ℕ) (spot : HeadSpot) (meta : Meta) (lt : place < length heads) (at : spot ≡ get_or spots place spot) (of : meta ≡ get_or metas place meta) where
      within : place < length spots
      within = let many = as_many_heads in omega arith

      numbered : place < length metas
      numbered = let parts = as_many_parts in let front = within in omega arith

      pub head_at : (head : Head) → packed_head spot meta ≡ get_or heads place head
      head_at head =
          ap (λ (s : HeadSpot). packed_head s meta) at ∙ ap (packed_head (get_or spots place spot)) of
          ∙ sym (get_or-zip2 packed_head spots metas place spot meta head within numbered) ∙ ap (λ (hs : List Head). get_or hs place head) view

      pub guard_at : guard_in spot ≡ guard_of meta
      guard_at =
          ap guard_in at ∙ sym (get_or-map guard_in spots place spot (guard_in spot) within) ∙ ap (λ (gs : List GuardNumbers). get_or gs place (guard_in spot)) guarded
          ∙ get_or-map guard_of metas place meta (guard_in spot) numbered ∙ ap guard_of (sym of)

    pub heads_pushed : (h : Head) (more : List HeadSpot) (rest : List Meta) → more ≡ spots ++ head_spot h ∷ [] → rest ≡ metas ++ h.meta ∷ [] → packed_heads more rest ≡ heads ++ h ∷ []
    heads_pushed h more rest front back =
        ap (λ (ss : List HeadSpot). packed_heads ss rest) front ∙ ap (packed_heads (spots ++ head_spot h ∷ [])) back
        ∙ zip2-append packed_head spots (head_spot h ∷ []) metas (h.meta ∷ []) as_many_parts ∙ ap (λ (hs : List Head). hs ++ h ∷ []) view
