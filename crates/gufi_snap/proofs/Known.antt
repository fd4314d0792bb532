-- Flags that are known where a subtree is replaced, and those that are forgotten up to the root.
use Rattle.std.proofs.Common.{◌≡◌, ◌⊎◌, ℕ, ◌+◌, ◌<◌, ◌≤◌, Bool, true, false, List, [], ◌∷◌, ◌++◌, length, take, drop, map, get_or, set, Option, None, Some, inl, inr, sym, ap, ◌∙◌, subst, arith}
use Rattle.std.proofs.lemmas.Bool.{cases_order}
use Rattle.std.proofs.lemmas.List.{append_assoc, map-append, take_more, length-set, length-map, get_or-map, get_or-set_same, get_or-set_other}
use Rattle.gufi_base.specs.Paths.{Components, is_prefix}
use Rattle.gufi_tree.specs.declared.tree.DirId.{DirId}
use Rattle.gufi_tree.specs.Tree.{Directory, HasTreeShape}
use Rattle.gufi_tree.specs.Places.{path_at, parent_id}
use Rattle.gufi_tree.specs.Graft.{graft}
use Rattle.gufi_tree.proofs.Below.{below_dirs}
use Rattle.gufi_tree.proofs.GraftBelow.{graft_length, path_before, path_in, path_behind}
use Rattle.gufi_tree.proofs.GraftShape.{graft_shape}
use Rattle.gufi_tree.proofs.Kids.{at_place}
use Rattle.gufi_tree.proofs.LastBelow.{leads_on}
use Rattle.gufi_tree.proofs.Linked.{path_at-get}
use Rattle.gufi_tree.proofs.Ranges.{below_within}
use Rattle.gufi_roll.specs.CanRoll.{can_roll, roll_flags}
use Rattle.gufi_roll.specs.Below.{AreKnown}
use Rattle.gufi_roll.proofs.Grafts.{flag_outside, flag_inside}
use Rattle.gufi_snap.specs.KnownByPlace.{AreKnownBut}
use Rattle.gufi_snap.proofs.Ancestors.{parent_some, passed}
use Rattle.gufi_snap.proofs.Spliced.{spliced, spliced_length, spliced_before, spliced_in, spliced_behind, by_region, apart_behind, not_above, not_back, has_root}

some_same : (a b : Bool) → Some a ≡ Some b → a ≡ b
some_same a b e = ap (λ (o : Option Bool). elim o [ None ↦ a | Some x ↦ x ]) e

-- one more of a list
pub mapped_more : {X Y : Type 0} (f : X → Y) (before : List Y) (xs : List X) (i : ℕ) (d : X) → i < length xs → (before ++ map f (take i xs)) ++ f (get_or xs i d) ∷ [] ≡ before ++ map f (take (i + 1) xs)
mapped_more f before xs i d h =
    append_assoc before (map f (take i xs)) (f (get_or xs i d) ∷ []) ∙ ap (λ l. before ++ l) (sym (map-append f (take i xs) (get_or xs i d ∷ [])) ∙ ap (map f) (sym (take_more xs i d h)))

-- ---- one step up

module _ (tree : List Directory) (shape : HasTreeShape tree) (k : ℕ) (within : k < length tree) (path : Components) (id : DirId) (is : parent_id tree k ≡ Some id) (leads : is_prefix (path_at tree k) path ≡ true)
    (limit : ℕ) (known : List (Option Bool)) (old : AreKnownBut tree limit path k known) where
  before : id.0 < k
  before = (parent_some tree shape k within id is).0

  pub known_raised : AreKnownBut tree limit path id.0 (set known id.0 None)
  known_raised = record {
    len = length-set known id.0 None ∙ old.len;
    each = λ j flag h right e. elim (cases_order j id.0) [
      | inl same ↦ (let none : get_or (set known id.0 None) j None ≡ None = ap (λ (i : ℕ). get_or (set known id.0 None) i None) same ∙ get_or-set_same known id.0 None None (omega (arith, before, within, old.len)) in
          let no : None ≡ Some flag = sym none ∙ e in absurd (cc))
      | inr (inl l) ↦ old.each j flag h (out j right l) (sym (get_or-set_other known id.0 j None None (λ e. omega arith)) ∙ e)
      | inr (inr g) ↦ old.each j flag h (passed tree shape k within path id is leads j g) (sym (get_or-set_other known id.0 j None None (λ e. omega arith)) ∙ e)
    ];
  } where
    out : (j : ℕ) → (id.0 ≤ j) ⊎ (is_prefix (path_at tree j) path ≡ false) → j < id.0 → (k ≤ j) ⊎ (is_prefix (path_at tree j) path ≡ false)
    out j (inl g) l = absurd (omega arith)
    out j (inr e) l = inr e

pub all_known : (tree : List Directory) (limit : ℕ) (path : Components) (from : ℕ) (known : List (Option Bool)) → from ≡ 0 → AreKnownBut tree limit path from known → AreKnown tree limit known
all_known tree limit path from known first h = record {
  len = h.len;
  each = λ j flag within e. h.each j flag within (inl (omega arith)) e;
}

-- ---- the flags of a tree are those at its places

flag_at : (tree : List Directory) (limit j : ℕ) (d : Bool) → j < length tree → get_or (roll_flags tree limit) j d ≡ can_roll tree limit (path_at tree j)
flag_at tree limit j d h =
    let w = (at_place tree j h).0 in
    get_or-map (λ (dir : Directory). can_roll tree limit dir.path) tree j w d h ∙ ap (can_roll tree limit) (sym (path_at-get tree j w h))

module _ (tree part : List Directory) (k limit : ℕ) (shape : HasTreeShape tree) (own : HasTreeShape part) (within : k < length tree) where
  abbrev after : List Directory
  after = graft tree (path_at tree k) part

  abbrev gone : ℕ
  gone = length (below_dirs tree (path_at tree k))

  abbrev joined : List Bool
  joined = spliced (roll_flags tree limit) k (k + gone) (roll_flags part limit)

  starts : k ≤ k + gone
  starts = omega arith

  ends : k + gone ≤ length (roll_flags tree limit)
  ends = omega (arith, below_within tree k shape.order within, length-map tree (λ (dir : Directory). can_roll tree limit dir.path))

  part_len : length (roll_flags part limit) ≡ length part
  part_len = length-map part (λ (dir : Directory). can_roll part limit dir.path)

  joined_len : length joined ≡ length after
  joined_len =
      omega (arith, spliced_length (roll_flags tree limit) (roll_flags part limit) k (k + gone) starts ends, part_len, length-map tree (λ (dir : Directory). can_roll tree limit dir.path), graft_length tree part k shape own within)

  -- each flag but those of directories above the path is the new tree's
  flags_spliced : (j : ℕ) → j < length after → (k ≤ j) ⊎ (is_prefix (path_at after j) (path_at after k) ≡ false) → (d : Bool) → get_or joined j d ≡ can_roll after limit (path_at after j)
  flags_spliced j h right d =
      by_region tree part k shape own within (λ i. (k ≤ i) ⊎ (is_prefix (path_at after i) (path_at after k) ≡ false) → get_or joined i d ≡ can_roll after limit (path_at after i))
      (λ i l out. spliced_before (roll_flags tree limit) (roll_flags part limit) k (k + gone) starts ends i d l ∙ flag_at tree limit i d (omega arith)
      ∙ sym (ap (can_roll after limit) (path_before tree part k shape own within i l)
      ∙ flag_outside tree part k limit (path_at tree i) shape own within (not_above tree part k shape own within i out l) (leads_on tree shape i k l within)))
      (λ i l out. spliced_in (roll_flags tree limit) (roll_flags part limit) k (k + gone) starts ends i d (omega (arith, part_len)) ∙ flag_at part limit i d l
      ∙ sym (ap (can_roll after limit) (path_in tree part k shape own within i l) ∙ flag_inside tree part k limit (path_at part i) shape own within))
      (λ i l out. subst (λ (n : ℕ). get_or joined (k + (n + i)) d ≡ can_roll after limit (path_at after (k + (length part + i)))) part_len
      (spliced_behind (roll_flags tree limit) (roll_flags part limit) k (k + gone) starts ends i d ∙ flag_at tree limit (k + gone + i) d l
      ∙ sym (ap (can_roll after limit) (path_behind tree part k shape own within i l)
      ∙ flag_outside tree part k limit (path_at tree (k + gone + i)) shape own within (not_back tree part k shape own within i l) (apart_behind tree part k shape own within i l))))
      j h right

  pub known_spliced : AreKnownBut after limit (path_at after k) k (map Some joined)
  known_spliced = record {
    len = length-map joined (λ (b : Bool). Some b) ∙ joined_len;
    each = λ j flag h right e.
        some_same flag (get_or joined j flag) (sym (sym (get_or-map (λ (b : Bool). Some b) joined j flag None (omega (arith, joined_len))) ∙ e)) ∙ flags_spliced j h right flag;
  }

  module _ (count : ℕ) (counted : count ≡ length (below_dirs tree (path_at tree k))) (flags : List Bool) (are : flags ≡ roll_flags tree limit) where
    pub flags_fit : (k ≤ k + count) × (k + count ≤ length flags)
    flags_fit = (omega arith, omega (arith, counted, ends, ap (λ (l : List Bool). length l) are))

    module _ (made : List Directory) (is : made ≡ graft tree (path_at tree k) part) where
      pub place_after : k < length made
      place_after = omega (arith, ap (λ (ds : List Directory). length ds) is, graft_length tree part k shape own within, below_within tree k shape.order within, has_root part own)

      pub shape_after : HasTreeShape made
      shape_after = subst HasTreeShape (sym is) (graft_shape tree part k shape own within)

      pub known_made : (others : List Bool) → others ≡ roll_flags part limit → (known : List (Option Bool)) → known ≡ map Some (take k flags ++ (others ++ drop (k + count) flags)) → AreKnownBut made limit (path_at made k) k known
      known_made others same known e =
          subst (AreKnownBut made limit (path_at made k) k) (sym (e ∙ ap (λ (l : List Bool). map Some (take k flags ++ (l ++ drop (k + count) flags))) same
          ∙ ap (λ (l : List Bool). map Some (take k l ++ (roll_flags part limit ++ drop (k + count) l))) are
          ∙ ap (λ (n : ℕ). map Some (take k (roll_flags tree limit) ++ (roll_flags part limit ++ drop (k + n) (roll_flags tree limit)))) counted))
          (subst (λ (ds : List Directory). AreKnownBut ds limit (path_at ds k) k (map Some joined)) (sym is) known_spliced)
