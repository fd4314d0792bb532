-- The order of paths, and what leads to what.
use Rattle.std.proofs.Common.{◌≡◌, ℕ, length, drop, true, false, ◌&&◌, List, [], ◌∷◌, ◌++◌, refl, sym, ap, ◌∙◌, inl, inr}
use Rattle.std.specs.Prelude.{bytes_eq, ◌⊎◌}
use Rattle.std.specs.declared.cmp.Ordering.{Ordering}
use Rattle.std.specs.declared.cmp.Ordering.TheVariants.{Less, Equal, Greater}
use Rattle.std.specs.Ordering.{nat_cmp, ordering_then, is_eq}
use Rattle.std.specs.Cmp.{IsTotalOrder}
use Rattle.std.specs.Cmp.Lexicographic.{slice_cmp}
use Rattle.std.proofs.lemmas.Bool.{true≢false, false≢true, and_parts, and_from}
use Rattle.std.proofs.lemmas.Cmp.{tied_itself, nat_list_cmp_total, lists_total}
use Rattle.std.proofs.lemmas.Map.Text.{is_eq-slice_cmp}
use Rattle.std.proofs.lemmas.Slice.Eq.{bytes_eq-Decides}
use Rattle.gufi_base.specs.Paths.{Components, path_cmp, is_prefix}
use Rattle.gufi_base.specs.Rows.{row_cmp}

abbrev pub name_order : List ℕ → List ℕ → Ordering
name_order = slice_cmp nat_cmp

pub paths_total : IsTotalOrder path_cmp
paths_total = lists_total nat_list_cmp_total

pub rows_total : IsTotalOrder row_cmp
rows_total = record {
  antisymm = λ a b. paths_total.antisymm a.path b.path;
  trans = λ a b c. paths_total.trans a.path b.path c.path;
  congr = λ a b c. paths_total.congr a.path b.path c.path;
}

-- names that the order holds equal
names_tied : (m n : List ℕ) → name_order m n ≡ Equal → bytes_eq m n ≡ true
names_tied m n e = sym (is_eq-slice_cmp m n) ∙ ap is_eq e

-- a path that leads to another doesn't stand behind it
pub prefix_stands_before : (path other : Components) → is_prefix path other ≡ true → path_cmp other path ≡ Less → ⊥
prefix_stands_before [] [] h e = cc
prefix_stands_before [] (m ∷ other) h e = cc
prefix_stands_before (n ∷ path) [] h e = false≢true h
prefix_stands_before (n ∷ path) (m ∷ other) h e =
    let both = and_parts _ _ h in
    let same : n ≡ m = (bytes_eq-Decides n m).0 both.0 in
    let tied : name_order m n ≡ Equal = ap (λ k. name_order m k) same ∙ tied_itself nat_list_cmp_total m in
    prefix_stands_before path other both.1 (sym (ap (λ o. ordering_then o (path_cmp other path)) tied) ∙ e)

-- What stands behind a path and not below it stands behind all that is below it.
pub stands_after_subtree : (path other rest : Components) → path_cmp path other ≡ Less → is_prefix path other ≡ false → path_cmp (path ++ rest) other ≡ Less
stands_after_subtree [] other rest e h = absurd (true≢false h)
stands_after_subtree (n ∷ path) [] rest e h = absurd (cc e)
stands_after_subtree (n ∷ path) (m ∷ other) rest e h = by (name_order n m) refl e (λ g p. stands_after_subtree path other rest g p)
  where
    by : (o : Ordering) → name_order n m ≡ o → ordering_then o (path_cmp path other) ≡ Less
        → (path_cmp path other ≡ Less → is_prefix path other ≡ false → path_cmp (path ++ rest) other ≡ Less)
        → ordering_then (name_order n m) (path_cmp (path ++ rest) other) ≡ Less
    by Less q g ih = rw q refl
    by Equal q g ih = rw q (ih g (sym (ap (λ b. b && is_prefix path other) (names_tied n m q)) ∙ h))
    by Greater q g ih = cc

-- what leads to a path and one name more is that, or leads to the path
pub prefix_of_child : (front path : Components) (name : List ℕ) → is_prefix front (path ++ name ∷ []) ≡ true → (front ≡ path ++ name ∷ []) ⊎ (is_prefix front path ≡ true)
prefix_of_child [] path name h = inr refl
prefix_of_child (f ∷ []) [] name h = inl (ap (λ x. x ∷ []) ((bytes_eq-Decides f name).0 (and_parts _ _ h).0))
prefix_of_child (f ∷ g ∷ front) [] name h = absurd (false≢true (and_parts _ _ h).1)
prefix_of_child (f ∷ front) (n ∷ path) name h =
    let both = and_parts _ _ h in
    let same : f ≡ n = (bytes_eq-Decides f n).0 both.0 in
    elim (prefix_of_child front path name both.1) [
      | inl e ↦ inl (ap (λ x. x ∷ front) same ∙ ap (λ xs. n ∷ xs) e)
      | inr p ↦ inr (and_from _ _ both.0 p)
    ]

-- what is left behind a prefix
pub front_and_rest : (front path : Components) → is_prefix front path ≡ true → path ≡ front ++ drop (length front) path
front_and_rest [] path h = refl
front_and_rest (f ∷ front) [] h = absurd (false≢true h)
front_and_rest (f ∷ front) (n ∷ path) h =
    let both = and_parts _ _ h in
    ap (λ x. x ∷ path) (sym ((bytes_eq-Decides f n).0 both.0)) ∙ ap (λ xs. f ∷ xs) (front_and_rest front path both.1)
