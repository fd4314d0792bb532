-- The order of two paths, by their stems and base names.
use Rattle.std.proofs.Common.{◌≡◌, ◌≢◌, ℕ, ◌<◌, ◌≤◌, true, false, eqb, List, [], ◌∷◌, ◌++◌, length, take, drop, get_or, refl, sym, ap, ◌∙◌, arith, ⊎_elim, length-append}
use Rattle.std.specs.declared.cmp.Ordering.{Ordering}
use Rattle.std.specs.declared.cmp.Ordering.TheVariants.{Less, Equal, Greater}
use Rattle.std.specs.Ordering.{nat_cmp, ordering_then}
use Rattle.std.specs.Cmp.Lexicographic.{slice_cmp}
use Rattle.std.proofs.lemmas.Bool.{and_parts, not-true, cases_Bool, eqb-true}
use Rattle.std.proofs.lemmas.List.{take-append-le, drop-append-le, get_or_append_left, length-drop}
use Rattle.gufi_base.specs.Paths.{Components, slashed_text, path_cmp, parent_path}
use Rattle.gufi_base.specs.PathParts.{ArePartsOf}
use Rattle.gufi_base.specs.TextOrder.{slash_first}
use Rattle.gufi_base.proofs.Parts.{has_no}
use Rattle.gufi_base.proofs.CutParts.{EndsWithSlash, IsCut, IsCut-parts}
use Rattle.gufi_base.proofs.Orders.{kept_texts_ordered, same_front, first_names, nil_less, nil_more, slash_less, slash_more, both_go_on}

ends_drop : (n : ℕ) (text : List ℕ) → EndsWithSlash text → n < length text → EndsWithSlash (drop n text)
ends_drop n text ends h =
    (drop n ends.0, ap (drop n) ends.1 ∙ drop-append-le n ends.0 (47 ∷ []) (omega (arith, h, ap length ends.1, length-append ends.0 (47 ∷ []))))

-- past what their stems begin with alike
pub past_front : (n : ℕ) (f l g m : List ℕ) (p q : Components) → IsCut f l p → IsCut g m q → take n f ≡ take n g → n ≤ length f → n ≤ length g
    → slice_cmp slash_first (drop n f ++ (l ++ 47 ∷ [])) (drop n g ++ (m ++ 47 ∷ [])) ≡ path_cmp p q
past_front n f l g m p q a b alike nf ng =
    let u : List ℕ = l ++ 47 ∷ [] in
    let v : List ℕ = m ++ 47 ∷ [] in
    let same : take n (f ++ u) ≡ take n (g ++ v) = take-append-le n f u nf ∙ alike ∙ sym (take-append-le n g v ng) in
    sym (ap (λ (t : List ℕ). slice_cmp slash_first t (drop n (g ++ v))) (drop-append-le n f u nf) ∙ ap (slice_cmp slash_first (drop n f ++ u)) (drop-append-le n g v ng))
    ∙ same_front n (f ++ u) (g ++ v) same (omega (arith, length-append f u)) (omega (arith, length-append g v))
    ∙ kept_texts_ordered (f ++ u) (g ++ v) (slice_cmp slash_first (f ++ u) (g ++ v)) refl p q a.names b.names a.whole b.whole

then_equal : (o : Ordering) → ordering_then o Equal ≡ o
then_equal Less = refl
then_equal Equal = refl
then_equal Greater = refl

empty_from : (xs : List ℕ) → length xs ≡ 0 → xs ≡ []
empty_from [] h = refl
empty_from (x ∷ xs) h = absurd (omega arith)

some_behind : (ys v : List ℕ) → slice_cmp slash_first [] ((ys ++ 47 ∷ []) ++ v) ≡ Less
some_behind [] v = refl
some_behind (y ∷ ys) v = refl

behind_some : (xs u : List ℕ) → slice_cmp slash_first ((xs ++ 47 ∷ []) ++ u) [] ≡ Greater
behind_some [] u = refl
behind_some (x ∷ xs) u = refl

-- a base name beside more of a stem: the name ends first, or differs from it
base_first : (l ys m : List ℕ) → has_no 47 l ≡ true → slice_cmp slash_first (l ++ 47 ∷ []) ((ys ++ 47 ∷ []) ++ (m ++ 47 ∷ [])) ≡ slice_cmp slash_first l (ys ++ 47 ∷ [])
base_first [] [] m h = nil_less m 47 []
base_first [] (y ∷ ys) m h =
    ⊎_elim (λ (e : eqb y 47 ≡ true). rw (eqb-true y 47 e) (some_behind ys (m ++ 47 ∷ [])))
    (λ (e : eqb y 47 ≡ false). ap (λ o. ordering_then o (slice_cmp slash_first [] ((ys ++ 47 ∷ []) ++ (m ++ 47 ∷ [])))) (slash_less y e)) (cases_Bool (eqb y 47))
base_first (x ∷ l) [] m h =
    let more = slash_more x (not-true _ (and_parts _ _ h).0) in
    ap (λ o. ordering_then o (slice_cmp slash_first (l ++ 47 ∷ []) (m ++ 47 ∷ []))) more ∙ sym (ap (λ o. ordering_then o (slice_cmp slash_first l [])) more)
base_first (x ∷ l) (y ∷ ys) m h = ap (ordering_then (slash_first x y)) (base_first l ys m (and_parts _ _ h).1)

base_last : (xs l m : List ℕ) → has_no 47 m ≡ true → slice_cmp slash_first ((xs ++ 47 ∷ []) ++ (l ++ 47 ∷ [])) (m ++ 47 ∷ []) ≡ slice_cmp slash_first (xs ++ 47 ∷ []) m
base_last [] l [] h = nil_more l 47 []
base_last (x ∷ xs) l [] h =
    ⊎_elim (λ (e : eqb x 47 ≡ true). rw (eqb-true x 47 e) (behind_some xs (l ++ 47 ∷ [])))
    (λ (e : eqb x 47 ≡ false). ap (λ o. ordering_then o (slice_cmp slash_first ((xs ++ 47 ∷ []) ++ (l ++ 47 ∷ [])) [])) (slash_more x e)) (cases_Bool (eqb x 47))
base_last [] l (y ∷ m) h =
    let less = slash_less y (not-true _ (and_parts _ _ h).0) in
    ap (λ o. ordering_then o (slice_cmp slash_first (l ++ 47 ∷ []) (m ++ 47 ∷ []))) less ∙ sym (ap (λ o. ordering_then o (slice_cmp slash_first [] m)) less)
base_last (x ∷ xs) l (y ∷ m) h = ap (ordering_then (slash_first x y)) (base_last xs l m (and_parts _ _ h).1)

module _ (n : ℕ) (f l g m : List ℕ) (p q : Components) (a : IsCut f l p) (b : IsCut g m q) (alike : take n f ≡ take n g) (nf : n ≤ length f) (ng : n ≤ length g) where
  pub one_stem : length (drop n f) ≡ 0 → length (drop n g) ≡ 0 → slice_cmp nat_cmp l m ≡ path_cmp p q
  one_stem e k =
      sym (then_equal (slice_cmp nat_cmp l m)) ∙ sym (first_names l m [] [] a.clear b.clear)
      ∙ sym (ap (λ (t : List ℕ). slice_cmp slash_first (t ++ (l ++ 47 ∷ [])) (drop n g ++ (m ++ 47 ∷ []))) (empty_from _ e) ∙ ap (λ (t : List ℕ). slice_cmp slash_first (l ++ 47 ∷ []) (t ++ (m ++ 47 ∷ []))) (empty_from _ k))
      ∙ past_front n f l g m p q a b alike nf ng

  pub stem_goes_on : length (drop n f) ≡ 0 → n < length g → slice_cmp slash_first l (drop n g) ≡ path_cmp p q
  stem_goes_on e more =
      let ends = ends_drop n g b.ends more in
      ap (slice_cmp slash_first l) ends.1 ∙ sym (base_first l ends.0 m a.clear)
      ∙ sym (ap (λ (t : List ℕ). slice_cmp slash_first (t ++ (l ++ 47 ∷ [])) (drop n g ++ (m ++ 47 ∷ []))) (empty_from _ e) ∙ ap (λ (t : List ℕ). slice_cmp slash_first (l ++ 47 ∷ []) (t ++ (m ++ 47 ∷ []))) ends.1)
      ∙ past_front n f l g m p q a b alike nf ng

  pub stem_went_on : n < length f → length (drop n g) ≡ 0 → slice_cmp slash_first (drop n f) m ≡ path_cmp p q
  stem_went_on more e =
      let ends = ends_drop n f a.ends more in
      ap (λ (t : List ℕ). slice_cmp slash_first t m) ends.1 ∙ sym (base_last ends.0 l m b.clear)
      ∙ sym (ap (λ (t : List ℕ). slice_cmp slash_first (drop n f ++ (l ++ 47 ∷ [])) (t ++ (m ++ 47 ∷ []))) (empty_from _ e) ∙ ap (λ (t : List ℕ). slice_cmp slash_first (t ++ (l ++ 47 ∷ [])) (m ++ 47 ∷ [])) ends.1)
      ∙ past_front n f l g m p q a b alike nf ng

  pub stems_differ : n < length f → n < length g → get_or f n 0 ≢ get_or g n 0 → slice_cmp slash_first (drop n f) (drop n g) ≡ path_cmp p q
  stems_differ hf hg ne =
      let u : List ℕ = l ++ 47 ∷ [] in
      let v : List ℕ = m ++ 47 ∷ [] in
      let same : take n (f ++ u) ≡ take n (g ++ v) = take-append-le n f u nf ∙ alike ∙ sym (take-append-le n g v ng) in
      let fu : get_or (f ++ u) n 0 ≡ get_or f n 0 = get_or_append_left f u 0 n hf in
      let gv : get_or (g ++ v) n 0 ≡ get_or g n 0 = get_or_append_left g v 0 n hg in
      same_front n f g alike nf ng ∙ sym (both_go_on n f g alike hf hg ne)
      ∙ sym (ap (λ k. slash_first k (get_or (g ++ v) n 0)) fu ∙ ap (slash_first (get_or f n 0)) gv)
      ∙ both_go_on n (f ++ u) (g ++ v) same (omega (arith, length-append f u)) (omega (arith, length-append g v)) (λ e. ne (sym fu ∙ e ∙ gv))
      ∙ kept_texts_ordered (f ++ u) (g ++ v) (slice_cmp slash_first (f ++ u) (g ++ v)) refl p q a.names b.names a.whole b.whole

-- two rows of one directory
pub one_directory : (f l m : List ℕ) (p q : Components) → ArePartsOf f l p → ArePartsOf f m q → slice_cmp nat_cmp l m ≡ path_cmp p q
one_directory f l m [] [] a b = ap (λ (t : List ℕ). slice_cmp nat_cmp t m) a.base ∙ ap (slice_cmp nat_cmp (47 ∷ [])) b.base
one_directory f l m [] (y ∷ q) a b = absurd (omega (arith, ap length (sym a.stem ∙ b.stem), length-append (slashed_text (parent_path (y ∷ q))) (47 ∷ [])))
one_directory f l m (x ∷ p) q a b =
    let some : 0 < length f = omega (arith, ap length a.stem, length-append (slashed_text (parent_path (x ∷ p))) (47 ∷ [])) in
    let end : length (drop (length f) f) ≡ 0 = omega (arith, length-drop (length f) f) in
    one_stem (length f) f l f m (x ∷ p) q (IsCut-parts f l (x ∷ p) a some) (IsCut-parts f m q b some) refl (omega arith) (omega arith) end end
