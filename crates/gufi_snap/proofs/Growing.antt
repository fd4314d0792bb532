-- Sums that grow by a row, or by what lies below one subdirectory more.
use Rattle.std.proofs.Common.{◌≡◌, ℕ, ◌+◌, ◌<◌, ◌≤◌, ◌^◌, List, [], ◌∷◌, ◌++◌, map, length, take, get_or, set, inl, inr, sym, ap, ◌∙◌, subst, arith, append_assoc, length-append}
use Rattle.std.specs.List.{AllByRecursion, flat_map}
use Rattle.std.specs.List.Sorted.{IsPermutation}
use Rattle.std.proofs.lemmas.Bool.{cases_order}
use Rattle.std.proofs.lemmas.Grind.{flat_map-append}
use Rattle.std.proofs.lemmas.List.{take_more, take_all, map-append, append-nil, length-map, get_or_push, get_or_append_left, get_or-set_same, get_or-set_other, length-set}
use Rattle.std.proofs.lemmas.List.Folds.{length-flat_map-take}
use Rattle.std.proofs.lemmas.List.Sorted.{IsPermutation-sym, length_permutation}
use Rattle.gufi_base.specs.declared.record.Meta.{Meta}
use Rattle.gufi_base.specs.declared.record.Row.{Row}
use Rattle.gufi_base.specs.Paths.{Components}
use Rattle.gufi_tree.specs.declared.tree.DirId.{DirId}
use Rattle.gufi_tree.specs.declared.tree.Entry.{Entry}
use Rattle.gufi_tree.specs.Tree.{Directory, own_rows, entry_row, HasTreeShape}
use Rattle.gufi_tree.specs.Places.{path_at, child_ids}
use Rattle.gufi_tree.proofs.Built.{All-Has}
use Rattle.gufi_tree.proofs.Kids.{at_place, Has-get_or, IsLater, kids_later, rows_under, rows_under-few, rows_under-step}
use Rattle.gufi_snap.specs.SumsByPlace.{AreUnderFrom, AreSumsFrom}
use Rattle.gufi_sums.specs.declared.summary.Summary.{Summary}
use Rattle.gufi_sums.specs.SumLists.{SumLists}
use Rattle.gufi_sums.specs.Total.{total, empty, add, join, rows_in, IsBounded, IsTotal}
use Rattle.gufi_sums.specs.Laws.{total_of-nil, total-add, total-append, IsTotal-counted, IsTotal-reordered}

-- one row more
pub total_more : (sum more : Summary) (meta : Meta) (rows : List Row) (row : Row) → IsTotal sum rows → more ≡ add sum meta → meta ≡ row.rec.meta → IsBounded more → IsTotal more (rows ++ row ∷ [])
total_more sum more meta rows row h e m b = record {
  is = e ∙ ap (λ s. add s meta) h.is ∙ ap (add (total rows)) m ∙ sym (total-add rows row);
  bounded = b;
}

-- the rows of another sum more
pub total_both : (sum other more : Summary) (rows others : List Row) → IsTotal sum rows → IsTotal other others → more ≡ join sum other → IsBounded more → IsTotal more (rows ++ others)
total_both sum other more rows others h k e b = record {
  is = e ∙ ap (λ s. join s other) h.is ∙ ap (join (total rows)) k.is ∙ sym (total-append rows others);
  bounded = b;
}

-- the rows of one entry more
pub entries_more : (path : Components) (entries : List Entry) (i : ℕ) (entry : Entry) (rows : List Row) → i < length entries → entry ≡ get_or entries i entry
    → (rows ++ map (entry_row path) (take i entries)) ++ entry_row path entry ∷ [] ≡ rows ++ map (entry_row path) (take (i + 1) entries)
entries_more path entries i entry rows h e =
    append_assoc rows (map (entry_row path) (take i entries)) (entry_row path entry ∷ [])
    ∙ ap (λ l. rows ++ l) (sym (map-append (entry_row path) (take i entries) (entry ∷ [])))
    ∙ ap (λ l. rows ++ map (entry_row path) l) (ap (λ x. take i entries ++ x ∷ []) e ∙ sym (take_more entries i entry h))

-- the sum of no row
pub total_nothing : (sum : Summary) → sum ≡ empty → IsBounded sum → IsTotal sum []
unfolding total
total_nothing sum e b = record { is = e ∙ sym total_of-nil; bounded = b }

pub entries_few : (tree : List Directory) (k : ℕ) (d : Directory) → k < length tree → length (flat_map own_rows tree) < 2 ^ 32 → d ≡ get_or tree k d → length d.entries < 2 ^ 32
entries_few tree k d h few e =
    let a = length-flat_map-take own_rows tree k d h in
    let b = length-map (get_or tree k d).entries (entry_row (get_or tree k d).path) in
    let c = ap (λ (x : Directory). length x.entries) e in
    omega arith

-- own sums, with one more
pub own_pushed : (tree : List Directory) (sums : List Summary) (sum : Summary) (n : ℕ) → length sums ≡ n → ((k : ℕ) (d : Directory) (s : Summary) → k < n → IsTotal (get_or sums k s) (own_rows (get_or tree k d)))
    → ((d : Directory) → IsTotal sum (own_rows (get_or tree n d))) → (k : ℕ) (d : Directory) (s : Summary) → k < n + 1 → IsTotal (get_or (sums ++ sum ∷ []) k s) (own_rows (get_or tree k d))
own_pushed tree sums sum n len each last k d s h = elim (cases_order k n) [
  | inl e ↦ subst (λ (x : Summary). IsTotal x (own_rows (get_or tree k d))) (sym (get_or_push sums sum s k (len ∙ sym e))) (subst (λ i. IsTotal sum (own_rows (get_or tree i d))) (sym e) (last d))
  | inr (inl l) ↦ subst (λ (x : Summary). IsTotal x (own_rows (get_or tree k d))) (sym (get_or_append_left sums (sum ∷ []) s k (omega arith))) (each k d s l)
  | inr (inr g) ↦ absurd (omega arith)
]

-- sums from a place on, with that before them
pub under_set : (tree : List Directory) (sums : List Summary) (sum : Summary) (n : ℕ) → n < length sums → AreUnderFrom tree (n + 1) sums → IsTotal sum (rows_under tree (path_at tree n)) → AreUnderFrom tree n (set sums n sum)
under_set tree sums sum n within under own k s h g = elim (cases_order k n) [
  | inl e ↦ subst (λ i. IsTotal (get_or (set sums n sum) i s) (rows_under tree (path_at tree i))) (sym e) (subst (λ (x : Summary). IsTotal x (rows_under tree (path_at tree n))) (sym (get_or-set_same sums n sum s within)) own)
  | inr (inl l) ↦ absurd (omega arith)
  | inr (inr l) ↦ subst (λ (x : Summary). IsTotal x (rows_under tree (path_at tree k))) (sym (get_or-set_other sums n k sum s (λ e. omega arith))) (under k s (omega arith) g)
]

-- so in both lists
pub sums_put : (tree : List Directory) (sums : SumLists) (sum : Summary) (n : ℕ) → n < length tree → AreSumsFrom tree (n + 1) sums → IsTotal sum (rows_under tree (path_at tree n))
    → AreSumsFrom tree n (record { own = sums.own; below = set sums.below n sum })
sums_put tree sums sum n within old is = record {
  own = old.own;
  len = length-set sums.below n sum ∙ old.len;
  under = under_set tree sums.below sum n (let e = old.len in omega arith) old.under is;
  before = λ k s h. get_or-set_other sums.below n k sum s (λ e. omega arith) ∙ old.before k s (omega arith);
}

-- a directory with none below it has the same rows of its own as at and below it
leaf_total : (tree : List Directory) (k : ℕ) (d : Directory) (sum : Summary) → HasTreeShape tree → k < length tree → child_ids tree (path_at tree k) ≡ [] → IsTotal sum (own_rows (get_or tree k d)) → IsTotal sum (rows_under tree (path_at tree k))
leaf_total tree k d sum shape within leaf h =
    let rows : List DirId → List Row = λ ids. own_rows (get_or tree k d) ++ flat_map (λ id. rows_under tree (path_at tree id.0)) ids in
    IsTotal-reordered sum (rows (child_ids tree (path_at tree k))) _ (IsPermutation-sym _ _ (rows_under-step tree shape k d within))
    (subst (λ ids. IsTotal sum (rows ids)) (sym leaf) (subst (IsTotal sum) (sym (append-nil (own_rows (get_or tree k d)))) h))

pub sums_leaf : (tree : List Directory) (sums : SumLists) (n : ℕ) → HasTreeShape tree → n < length tree → child_ids tree (path_at tree n) ≡ [] → AreSumsFrom tree (n + 1) sums → AreSumsFrom tree n sums
sums_leaf tree sums n shape within leaf old = record {
  own = old.own;
  len = old.len;
  under = λ k s h g. elim (cases_order k n) [
    | inl e ↦ (let d = (at_place tree n within).0 in
        subst (λ i. IsTotal (get_or sums.below i s) (rows_under tree (path_at tree i))) (sym e)
        (leaf_total tree n d (get_or sums.below n s) shape within leaf (subst (λ (x : Summary). IsTotal x (own_rows (get_or tree n d))) (sym (old.before n s (omega arith))) (old.own.each n d s within))))
    | inr (inl l) ↦ absurd (omega arith)
    | inr (inr l) ↦ old.under k s (omega arith) g
  ];
  before = λ k s h. old.before k s (omega arith);
}

module _ (tree : List Directory) (shape : HasTreeShape tree) (few : length (flat_map own_rows tree) < 2 ^ 32) (k : ℕ) (within : k < length tree) (ids : List DirId) (same : ids ≡ child_ids tree (path_at tree k)) where
  abbrev pub kid_rows : List DirId → List Row
  kid_rows kids = flat_map (λ id. rows_under tree (path_at tree id.0)) kids

  step : (d : Directory) → IsPermutation (rows_under tree (path_at tree k)) (own_rows (get_or tree k d) ++ kid_rows ids)
  step d = subst (λ l. IsPermutation (rows_under tree (path_at tree k)) (own_rows (get_or tree k d) ++ kid_rows l)) (sym same) (rows_under-step tree shape k d within)

  -- a subdirectory stands behind its directory
  pub later_at : (i : ℕ) (x : DirId) → i < length ids → IsLater tree k (get_or ids i x)
  later_at i x h = All-Has (IsLater tree k) ids (get_or ids i x) (subst (AllByRecursion (IsLater tree k)) (sym same) (kids_later tree shape k within)) (Has-get_or ids i x h)

  kid_rows-more : (i : ℕ) (x : DirId) → i < length ids → kid_rows (take i ids) ++ rows_under tree (path_at tree (get_or ids i x).0) ≡ kid_rows (take (i + 1) ids)
  kid_rows-more i x h =
      let f : DirId → List Row = λ id. rows_under tree (path_at tree id.0) in
      ap (λ l. kid_rows (take i ids) ++ l) (sym (append-nil (f (get_or ids i x)))) ∙ sym (flat_map-append f (take i ids) (get_or ids i x ∷ [])) ∙ ap kid_rows (sym (take_more ids i x h))

  pub under_room : (i : ℕ) (x : DirId) (d : Directory) (sum other : Summary) → i < length ids
      → IsTotal sum (own_rows (get_or tree k d) ++ kid_rows (take i ids)) → IsTotal other (rows_under tree (path_at tree (get_or ids i x).0)) → rows_in sum + rows_in other < 2 ^ 40
  under_room i x d sum other h s o =
      let f : DirId → List Row = λ id. rows_under tree (path_at tree id.0) in
      let own = own_rows (get_or tree k d) in
      let a = IsTotal-counted sum _ s in
      let b = IsTotal-counted other _ o in
      let parts = length-append own (kid_rows (take i ids)) in
      let whole = length-append own (kid_rows ids) in
      let taken = length-flat_map-take f ids i x h in
      let all = length_permutation _ _ (step d) in
      let up = rows_under-few tree (path_at tree k) in
      omega arith

  pub under_more : (i : ℕ) (x : DirId) (d : Directory) (sum other more : Summary) → i < length ids
      → IsTotal sum (own_rows (get_or tree k d) ++ kid_rows (take i ids)) → IsTotal other (rows_under tree (path_at tree (get_or ids i x).0)) → more ≡ join sum other → IsBounded more
      → IsTotal more (own_rows (get_or tree k d) ++ kid_rows (take (i + 1) ids))
  under_more i x d sum other more h s o is bounded =
      subst (IsTotal more) (append_assoc (own_rows (get_or tree k d)) (kid_rows (take i ids)) (rows_under tree (path_at tree (get_or ids i x).0)) ∙ ap (λ l. own_rows (get_or tree k d) ++ l) (kid_rows-more i x h))
      (total_both sum other more _ _ s o is bounded)

  pub under_all : (d : Directory) (sum : Summary) (n : ℕ) → length ids ≤ n → IsTotal sum (own_rows (get_or tree k d) ++ kid_rows (take n ids)) → IsTotal sum (rows_under tree (path_at tree k))
  under_all d sum n all s = IsTotal-reordered sum _ _ (IsPermutation-sym _ _ (step d)) (subst (λ l. IsTotal sum (own_rows (get_or tree k d) ++ kid_rows l)) (take_all n ids all) s)
