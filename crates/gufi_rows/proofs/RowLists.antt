-- Lists of rows: one more, the row at a place, and rows in order.
use Rattle.std.proofs.Common.{◌≡◌, ℕ, zero, suc, ◌+◌, ◌<◌, true, List, [], ◌∷◌, ◌++◌, length, get_or, refl, sym, ap, ◌∙◌, subst, arith, length-append}
use Rattle.std.specs.Prelude.{All, Result, Ok, Err, OnOk}
use Rattle.std.specs.Ordering.{is_lt}
use Rattle.std.specs.List.{range_with_len}
use Rattle.std.specs.List.Sorted.{IsPermutation, IsSortedBy}
use Rattle.std.proofs.lemmas.List.{length-map, get_or-map}
use Rattle.std.proofs.lemmas.List.Elements.{All-push}
use Rattle.std.proofs.lemmas.List.FromFn.{get_or-range_with_len, length-range_with_len}
use Rattle.std.proofs.lemmas.List.Sorted.{All-permutation, IsPermutation-append, IsPermutation-append_left, IsPermutation-sym, IsPermutation-trans}
use Rattle.gufi_base.specs.declared.record.Rec.{Rec}
use Rattle.gufi_base.specs.declared.record.Row.{Row}
use Rattle.gufi_base.specs.declared.record.RowRef.{RowRef}
use Rattle.gufi_rows.specs.declared.kept.Kept.{Kept}
use Rattle.gufi_base.specs.declared.extras.Extras.{Extras}
use Rattle.gufi_base.specs.Basics.{ascends}
use Rattle.gufi_base.specs.Extras.{AreKept, kept_acl, kept_xattrs}
use Rattle.gufi_base.specs.Paths.{Components}
use Rattle.gufi_base.specs.Rows.{Stands, row_cmp}
use Rattle.gufi_base.specs.PathParts.{ArePartsOf}
use Rattle.gufi_rows.specs.PathLists.{Grows, InOrder, picked}
use Rattle.gufi_rows.specs.RowLists.{AreRecords, IsKept, no_row, rec_in, rows_in}
use Rattle.gufi_base.proofs.KeptExtras.{kept_acl-more, kept_size-more, kept_xattrs-more}
use Rattle.gufi_base.proofs.Prefixes.{rows_total}
use Rattle.gufi_base.proofs.SortedOnce.{same_from_sorted}
use Rattle.gufi_rows.proofs.Spots.{IsSpan-grows, bytes_in-grows}

-- links that grow keep what stands behind them
AreKept-grows : (links next : List ℕ) (at : ℕ) (extras : Extras) → Grows links next → AreKept links at extras → AreKept next at extras
AreKept-grows links next at extras g kept =
    subst (λ t. AreKept t at extras) (sym g.1) (omega (arith, kept, length-append links g.0, kept_size-more links g.0 at extras kept))

kept_xattrs-grows : (links next : List ℕ) (at : ℕ) (extras : Extras) → Grows links next → AreKept links at extras → kept_xattrs next at extras ≡ kept_xattrs links at extras
kept_xattrs-grows links next at extras g kept = ap (λ t. kept_xattrs t at extras) g.1 ∙ kept_xattrs-more links g.0 at extras kept

kept_acl-grows : (links next : List ℕ) (at : ℕ) (extras : Extras) → Grows links next → AreKept links at extras → kept_acl next at extras ≡ kept_acl links at extras
kept_acl-grows links next at extras g kept = ap (λ t. kept_acl t at extras) g.1 ∙ kept_acl-more links g.0 at extras kept

-- links that grow keep the rows
pub IsKept-grows : (links next : List ℕ) (kept : Kept) → Grows links next → IsKept links kept → IsKept next kept
IsKept-grows links next kept g is = (IsSpan-grows links next kept.link g is.0, AreKept-grows links next kept.link.end kept.extras g is.1)

rec_in-grows : (links next : List ℕ) (kept : Kept) → Grows links next → IsKept links kept → rec_in next kept ≡ rec_in links kept
rec_in-grows links next kept g is = λ i. record {
  meta = kept.meta;
  link = bytes_in-grows links next kept.link g is.0 i;
  xattrs = kept_xattrs-grows links next kept.link.end kept.extras g is.1 i;
  acl = kept_acl-grows links next kept.link.end kept.extras g is.1 i;
}

pub AreRecords-grows : (links next : List ℕ) (paths : List Components) (records : List Kept) → Grows links next → AreRecords links paths records → AreRecords next paths records
AreRecords-grows links next paths records g are = record { alike = are.alike; each = λ k d h. IsKept-grows links next (get_or records k d) g (are.each k d h) }

pub rows_in-grows : (links next : List ℕ) (paths : List Components) (records : List Kept) → Grows links next → All (IsKept links) records
    → rows_in next paths records ≡ rows_in links paths records
rows_in-grows links next [] records g each = refl
rows_in-grows links next (path ∷ paths) [] g each = refl
rows_in-grows links next (path ∷ paths) (kept ∷ records) g each =
    let row : Rec → Row = λ r. record { path = path; rec = r } in
    let rest = rows_in-grows links next paths records g (λ k d h. each (suc k) d (omega arith)) in
    ap (λ r. row r ∷ rows_in next paths records) (rec_in-grows links next kept g (each 0 kept (omega arith))) ∙ ap (λ l. row (rec_in links kept) ∷ l) rest

pub length-rows_in : (links : List ℕ) (paths : List Components) (records : List Kept) → length paths ≡ length records → length (rows_in links paths records) ≡ length records
length-rows_in links [] [] e = refl
length-rows_in links [] (kept ∷ records) e = absurd (omega (arith, e))
length-rows_in links (path ∷ paths) [] e = absurd (omega (arith, e))
length-rows_in links (path ∷ paths) (kept ∷ records) e = ap (λ n. suc n) (length-rows_in links paths records (omega (arith, e)))

pub rows_in-push : (links : List ℕ) (paths : List Components) (records : List Kept) (path : Components) (kept : Kept) → length paths ≡ length records
    → rows_in links (paths ++ path ∷ []) (records ++ kept ∷ []) ≡ rows_in links paths records ++ record { path = path; rec = rec_in links kept } ∷ []
rows_in-push links [] [] path kept e = refl
rows_in-push links [] (k ∷ records) path kept e = absurd (omega (arith, e))
rows_in-push links (p ∷ paths) [] path kept e = absurd (omega (arith, e))
rows_in-push links (p ∷ paths) (k ∷ records) path kept e =
    let row : Row = record { path = p; rec = rec_in links k } in
    ap (λ l. row ∷ l) (rows_in-push links paths records path kept (omega (arith, e)))

pub AreRecords-push : (links next : List ℕ) (paths : List Components) (records : List Kept) (path : Components) (kept : Kept) → Grows links next → AreRecords links paths records → IsKept next kept
    → AreRecords next (paths ++ path ∷ []) (records ++ kept ∷ [])
AreRecords-push links next paths records path kept g are is = record {
  alike = omega (arith, are.alike, length-append paths (path ∷ []), length-append records (kept ∷ []));
  each = All-push (IsKept next) records kept (AreRecords-grows links next paths records g are).each is;
}

-- the row at a place
pub row_in : (links : List ℕ) (paths : List Components) (records : List Kept) (k : ℕ) (kept : Kept) → length paths ≡ length records → k < length records → kept ≡ get_or records k kept
    → get_or (rows_in links paths records) k no_row ≡ record { path = get_or paths k []; rec = rec_in links kept }
row_in links [] [] k kept e h is = absurd (omega (arith, h))
row_in links [] (x ∷ records) k kept e h is = absurd (omega (arith, e))
row_in links (p ∷ paths) [] k kept e h is = absurd (omega (arith, h))
row_in links (p ∷ paths) (x ∷ records) zero kept e h is = let row : Kept → Row = λ x. record { path = p; rec = rec_in links x } in ap row (sym is)
row_in links (p ∷ paths) (x ∷ records) (suc k) kept e h is = row_in links paths records k kept (omega (arith, e)) (omega (arith, h)) is

pub path_in_rows : (links : List ℕ) (paths : List Components) (records : List Kept) (k : ℕ) → length paths ≡ length records → (get_or (rows_in links paths records) k no_row).path ≡ get_or paths k []
path_in_rows links [] [] k e = refl
path_in_rows links [] (x ∷ records) k e = absurd (omega (arith, e))
path_in_rows links (p ∷ paths) [] k e = absurd (omega (arith, e))
path_in_rows links (p ∷ paths) (x ∷ records) zero e = refl
path_in_rows links (p ∷ paths) (x ∷ records) (suc k) e = path_in_rows links paths records k (omega (arith, e))

pub Stands-row : (ref : RowRef) (path : Components) (rec : Rec) → ArePartsOf ref.stem.now ref.base.now path → ref.meta.now ≡ rec.meta → ref.link.now ≡ rec.link → ref.xattrs.now ≡ rec.xattrs
    → ref.acl.now ≡ rec.acl → Stands ref (record { path = path; rec = rec })
Stands-row ref path rec parts meta link xattrs acl = record { names = parts.names; stem = parts.stem; base = parts.base; meta = meta; link = link; xattrs = xattrs; acl = acl }

pub places_in_range : (n : ℕ) (places : List ℕ) → IsPermutation (range_with_len 0 n) places → All (λ k. k < n) places
places_in_range n places h =
    All-permutation (λ k. k < n) (range_with_len 0 n) places h (λ k d m.
    let within : k < n = omega (arith, m, length-range_with_len 0 n) in
    let e = get_or-range_with_len 0 n k d within in
    omega (arith, e, within))

-- rows are ordered as their paths
pub rows_sorted : (rows : List Row) (paths : List Components) (places : List ℕ) → ((k : ℕ) → (get_or rows k no_row).path ≡ get_or paths k []) → InOrder (picked paths [] places)
    → IsSortedBy (λ a b. is_lt (row_cmp a b)) (picked rows no_row places)
rows_sorted rows paths places same up = λ k d low high.
    let within : k + 1 < length places = omega (arith, high, length-map places (λ i. get_or rows i no_row)) in
    let h = up k [] low (omega (arith, within, length-map places (λ i. get_or paths i []))) in
    let at : (j : ℕ) → j < length places → (get_or (picked rows no_row places) j d).path ≡ get_or (picked paths [] places) j [] =
    λ j m. ap (λ (r : Row). r.path) (get_or-map (λ i. get_or rows i no_row) places j 0 d m) ∙ same (get_or places j 0) ∙ sym (get_or-map (λ i. get_or paths i []) places j 0 [] m) in
    rw (at (k + 1) within, at k (omega (arith, within))) h

pub rows_only : (rows other : List Row) (sorted : List Row) → IsPermutation rows sorted → IsSortedBy (λ a b. is_lt (row_cmp a b)) sorted → IsPermutation rows other → ascends row_cmp other ≡ true → sorted ≡ other
rows_only rows other sorted moved up h e =
    same_from_sorted row_cmp rows_total other sorted e (IsPermutation-trans other rows sorted (IsPermutation-sym rows other h) moved) up

-- what a list of rows stands for, with one row more and with those of another list
module _ {E : Type 0} where
  pub OnOk-rows_push : (r : Result (Unit {0}) E) (old new : List Row) (ref : RowRef) → OnOk r ((of : Row) → Stands ref of → new ≡ old ++ of ∷ [])
      → OnOk r ((of : Row) (rows : List Row) → Stands ref of → IsPermutation old rows → IsPermutation new (rows ++ of ∷ []))
  OnOk-rows_push (Ok x) old new ref h = λ of rows stands are. subst (λ l. IsPermutation l (rows ++ of ∷ [])) (sym (h of stands)) (IsPermutation-append_left (of ∷ []) old rows are)
  OnOk-rows_push (Err e) old new ref h = tt

  pub OnOk-rows_append : (r : Result (Unit {0}) E) (old new other : List Row) → OnOk r (new ≡ old ++ other)
      → OnOk r ((rows more : List Row) → IsPermutation old rows → IsPermutation other more → IsPermutation new (rows ++ more))
  OnOk-rows_append (Ok x) old new other h = λ rows more are also. subst (λ l. IsPermutation l (rows ++ more)) (sym h) (IsPermutation-append old rows other more are also)
  OnOk-rows_append (Err e) old new other h = tt
