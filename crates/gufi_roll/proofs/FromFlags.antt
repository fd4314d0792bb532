-- The flag of a directory, from those of its subdirectories.
use Rattle.std.proofs.Common.{◌≡◌, ℕ, ◌+◌, ◌<◌, ◌≤◌, inl, inr, Bool, true, false, ◌&&◌, cond, List, [], ◌∷◌, length, take, get_or, refl, sym, ap, ◌∙◌, arith}
use Rattle.std.specs.Prelude.{nat_le}
use Rattle.std.specs.List.{AllByRecursion, list_all, filter, flat_map}
use Rattle.std.proofs.lemmas.Bool.{true≢false, false_from_ne_true, le-leb}
use Rattle.std.proofs.lemmas.Bool.Decides.{leb_tells}
use Rattle.std.proofs.lemmas.List.{length-append, length-map, ext_get_or, get_or-map, take_all}
use Rattle.std.proofs.lemmas.List.Folds.{list_all_more}
use Rattle.gufi_base.specs.Paths.{Components, is_prefix, is_child_of}
use Rattle.gufi_access.specs.Tried.{covers}
use Rattle.gufi_tree.specs.declared.tree.DirId.{DirId}
use Rattle.gufi_tree.specs.Tree.{Directory, rights_of, own_rows, subdirs, HasTreeShape}
use Rattle.gufi_tree.specs.Places.{path_at, child_ids}
use Rattle.gufi_tree.proofs.Descent.{child_name}
use Rattle.gufi_tree.proofs.Filters.{Has-filter}
use Rattle.gufi_tree.proofs.Flat.{is_prefix-append}
use Rattle.gufi_tree.proofs.Kids.{IsLater, kids_later}
use Rattle.gufi_tree.proofs.Linked.{path_at-get, list_all-get}
use Rattle.gufi_roll.specs.CanRoll.{rows_below, can_roll, roll_flags}
use Rattle.gufi_roll.specs.Below.{are_covered, AreFlagsFrom, is_child_flagged}
use Rattle.gufi_roll.proofs.Laws.{all_at_place, list_all-same, and_true, kids_tested, are_covered-step, rows_below-under}
use Rattle.gufi_roll.proofs.Tops.{prefix_trans}

and_false : (b : Bool) → (b && false) ≡ false
and_false true = refl
and_false false = refl

module _ {X : Type 0} where
  -- two tests that agree where something holds, of a list of which it holds
  list_all-where : (P : X → Type 0) (p q : X → Bool) (xs : List X) → AllByRecursion P xs → ((x : X) → P x → p x ≡ q x) → list_all p xs ≡ list_all q xs
  list_all-where P p q [] h same = refl
  list_all-where P p q (x ∷ xs) h same = ap (λ b. b && list_all p xs) (same x h.0) ∙ ap (λ b. q x && b) (list_all-where P p q xs h.1 same)

  -- fewer rows where a test is stricter
  fewer : {Y : Type 0} (f : X → List Y) (p q : X → Bool) (xs : List X) → ((x : X) → p x ≡ true → q x ≡ true) → length (flat_map f (filter p xs)) ≤ length (flat_map f (filter q xs))
  fewer f p q [] h = omega arith
  fewer f p q (x ∷ xs) h = by (p x) (q x) (h x) (fewer f p q xs h) where
    by : (a b : Bool) → (a ≡ true → b ≡ true) → length (flat_map f (filter p xs)) ≤ length (flat_map f (filter q xs))
        → length (flat_map f (cond a (x ∷ filter p xs) (filter p xs))) ≤ length (flat_map f (cond b (x ∷ filter q xs) (filter q xs)))
    by true true g e = omega (arith, length-append (f x) (flat_map f (filter p xs)), length-append (f x) (flat_map f (filter q xs)))
    by true false g e = absurd (true≢false (sym (g refl)))
    by false true g e = omega (arith, length-append (f x) (flat_map f (filter q xs)))
    by false false g e = e

  -- a test of a list, by its first elements
  pub one_fails : (p : X → Bool) (xs : List X) (i : ℕ) (d : X) → i < length xs → p (get_or xs i d) ≡ false → list_all p xs ≡ false
  one_fails p xs i d lt e = false_from_ne_true _ (λ h. true≢false (sym (list_all-get p xs i d h lt) ∙ e))

  pub one_more : (p : X → Bool) (xs : List X) (i : ℕ) (d : X) → i < length xs → list_all p (take i xs) ≡ true → p (get_or xs i d) ≡ true → list_all p (take (i + 1) xs) ≡ true
  one_more p xs i d lt before here = list_all_more p xs i d lt ∙ ap (λ b. b && p (get_or xs i d)) before ∙ here

  pub all_passed : (p : X → Bool) (xs : List X) (i : ℕ) → length xs ≤ i → list_all p (take i xs) ≡ true → list_all p xs ≡ true
  all_passed p xs i end e = ap (list_all p) (sym (take_all i xs end)) ∙ e

module _ (tree : List Directory) (shape : HasTreeShape tree) (limit : ℕ) where
  -- a subdirectory is rolled up, and its directory covers it
  abbrev pub kid_rolls : ℕ → Directory → DirId → Bool
  kid_rolls k d id = can_roll tree limit (path_at tree id.0) && covers (rights_of (get_or tree k d).rec) (rights_of (get_or tree id.0 d).rec)

  rows_fewer : (p q : Components) → is_prefix p q ≡ true → rows_below tree q ≤ rows_below tree p
  rows_fewer p q h =
      omega (
        arith,
        rows_below-under tree shape p,
        rows_below-under tree shape q,
        fewer own_rows (λ (dir : Directory). is_prefix q dir.path) (λ (dir : Directory). is_prefix p dir.path) tree (λ x e. prefix_trans p q x.path h e),
      )

  -- A directory is rolled up where its subdirectories are and it covers them, and its rows are few enough.
  pub can_roll-step : (k : ℕ) (d : Directory) → k < length tree
      → can_roll tree limit (path_at tree k) ≡ (list_all (kid_rolls k d) (child_ids tree (path_at tree k)) && nat_le (rows_below tree (path_at tree k)) limit)
  can_roll-step k d lt = by (nat_le (rows_below tree (path_at tree k)) limit) refl where
    test : (Components → Bool) → Directory → Bool
    test g c = g c.path && covers (rights_of (get_or tree k d).rec) (rights_of c.rec)

    same : rows_below tree (path_at tree k) ≤ limit → (c : Directory) → is_child_of (path_at tree k) c.path ≡ true → are_covered tree c.path ≡ can_roll tree limit c.path
    same few c child =
        let name = child_name (path_at tree k) c.path child in
        let leads : is_prefix (path_at tree k) c.path ≡ true = ap (is_prefix (path_at tree k)) name.1 ∙ is_prefix-append (path_at tree k) (name.0 ∷ []) in
        sym (ap (λ b. are_covered tree c.path && b) (le-leb (rows_below tree c.path) limit (omega (arith, few, rows_fewer (path_at tree k) c.path leads))) ∙ and_true (are_covered tree c.path))

    by : (b : Bool) → nat_le (rows_below tree (path_at tree k)) limit ≡ b
        → (are_covered tree (path_at tree k) && nat_le (rows_below tree (path_at tree k)) limit) ≡ (list_all (kid_rolls k d) (child_ids tree (path_at tree k)) && nat_le (rows_below tree (path_at tree k)) limit)
    by false e =
        ap (λ b. are_covered tree (path_at tree k) && b) e ∙ and_false (are_covered tree (path_at tree k))
        ∙ sym (ap (λ b. list_all (kid_rolls k d) (child_ids tree (path_at tree k)) && b) e ∙ and_false (list_all (kid_rolls k d) (child_ids tree (path_at tree k))))
    by true e =
        let few : rows_below tree (path_at tree k) ≤ limit = elim (leb_tells (rows_below tree (path_at tree k)) limit) [
          | inl w ↦ w.1
          | inr w ↦ absurd (true≢false (sym e ∙ w.0))
        ] in
        ap (λ b. b && nat_le (rows_below tree (path_at tree k)) limit)
        (are_covered-step tree shape k d lt ∙ kids_tested tree (are_covered tree) k d
        ∙ list_all-same (λ c. are_covered tree c.path && covers (rights_of (get_or tree k d).rec) (rights_of c.rec)) (λ c. can_roll tree limit c.path && covers (rights_of (get_or tree k d).rec) (rights_of c.rec)) (subdirs tree (path_at tree k)) (λ c h.
        ap (λ b. b && covers (rights_of (get_or tree k d).rec) (rights_of c.rec)) (same few c (Has-filter (λ dir. is_child_of (path_at tree k) dir.path) tree c h).1))
        ∙ sym (kids_tested tree (can_roll tree limit) k d))

  -- the same by the flags of the directories behind it
  pub can_roll-flags : (k : ℕ) (d : Directory) (flags : List Bool) → k < length tree → AreFlagsFrom tree limit (k + 1) flags
      → can_roll tree limit (path_at tree k) ≡ (list_all (is_child_flagged tree flags k d) (child_ids tree (path_at tree k)) && nat_le (rows_below tree (path_at tree k)) limit)
  can_roll-flags k d flags lt behind =
      can_roll-step k d lt
      ∙ ap (λ b. b && nat_le (rows_below tree (path_at tree k)) limit)
      (sym (list_all-where (IsLater tree k) (is_child_flagged tree flags k d) (kid_rolls k d) (child_ids tree (path_at tree k)) (kids_later tree shape k lt) (λ id at.
      ap (λ b. b && covers (rights_of (get_or tree k d).rec) (rights_of (get_or tree id.0 d).rec)) (behind.each id.0 (omega (arith, at.later)) at.within))))

-- a subdirectory's place is one of the tree's
pub kid_at : (tree : List Directory) (shape : HasTreeShape tree) (k : ℕ) (ids : List DirId) (i : ℕ) (d : DirId) → k < length tree → ids ≡ child_ids tree (path_at tree k) → i < length ids → (get_or ids i d).0 < length tree
kid_at tree shape k ids i d lt are in' =
    (all_at_place (IsLater tree k) ids i d (rw are (kids_later tree shape k lt)) in').within

-- the flags of all directories
pub flags_all : (tree : List Directory) (limit : ℕ) (flags : List Bool) → AreFlagsFrom tree limit 0 flags → flags ≡ roll_flags tree limit
flags_all tree limit flags all =
    ext_get_or false flags (roll_flags tree limit) (omega (arith, all.len, length-map tree (λ dir. can_roll tree limit dir.path)))
    (λ i lt. by tree refl i (omega (arith, all.len)) (all.each i (omega arith) (omega (arith, all.len)))) where
      by : (ds : List Directory) → ds ≡ tree → (i : ℕ) → i < length tree → get_or flags i false ≡ can_roll tree limit (path_at tree i) → get_or flags i false ≡ get_or (roll_flags tree limit) i false
      by [] same i lt e = absurd (omega (arith, ap length same, lt))
      by (d ∷ ds) same i lt e =
          e ∙ ap (can_roll tree limit) (path_at-get tree i d lt) ∙ sym (get_or-map (λ (dir : Directory). can_roll tree limit dir.path) tree i d false lt)
