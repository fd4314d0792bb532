-- Packed rows: they stay where text and stems go on; one row more, and the row at a place.
use Rattle.std.proofs.Common.{◌≡◌, ℕ, zero, suc, ◌+◌, ◌-◌, ◌<◌, ◌≤◌, ◌^◌, true, ◌⊎◌, inl, inr, List, [], ◌∷◌, ◌++◌, length, drop, get_or, refl, sym, ap, ◌∙◌, subst, arith, append_assoc, length-append}
use Rattle.std.specs.Prelude.{All}
use Rattle.std.specs.List.{list_all}
use Rattle.std.proofs.lemmas.Bool.{and_parts, cases_lt, leb-true}
use Rattle.std.proofs.lemmas.List.{take-append-le, get_or_append_left, get_or_push}
use Rattle.gufi_base.specs.declared.record.Row.{Row}
use Rattle.gufi_base.specs.declared.record.RowRef.{RowRef}
use Rattle.gufi_base.specs.Names.{is_name}
use Rattle.gufi_base.specs.Paths.{Components, parent_path, base_name}
use Rattle.gufi_base.specs.PathParts.{ArePartsOf, path_of_parts}
use Rattle.gufi_base.specs.Rows.{Stands}
use Rattle.gufi_base.proofs.Cuts.{all_but_last_and_last}
use Rattle.gufi_base.proofs.Names.{names-kept_text}
use Rattle.gufi_base.proofs.Texts.{last_named, parent_named, slashed_text-closed}
use Rattle.gufi_base.proofs.KeptExtras.{kept_xattrs-more, kept_acl-more, kept_size-more}
use Rattle.gufi_page.specs.declared.text.Stem.{Stem}
use Rattle.gufi_page.specs.declared.text.Ends.{Ends}
use Rattle.gufi_page.specs.declared.page.Packed.{Packed}
use Rattle.gufi_page.specs.Packed.{Begin, GoesOn, IsIn, IsPage, IsPut, IsRow, IsWithin, acl_in, base_in, between, bytes_in, end_of, link_in, no_stem, number_at, row_in, rows_from, rows_in, stem_in, xattrs_in}
use Rattle.gufi_page.proofs.Numbers.{Ascend-more, Begin-more, number-more}

-- the bytes of a text that goes on
pub between-more : (text more : List ℕ) (from end : ℕ) → end ≤ length text → between from end (text ++ more) ≡ between from end text
between-more text more from end within = ap (drop from) (take-append-le end text more within)

pub IsIn-more : (text more : List ℕ) (stems : List Stem) → All (IsIn text) stems → All (IsIn (text ++ more)) stems
IsIn-more text more stems all = λ k d h.
    let here = all k d h in
    (here.0, omega (arith, here.1, length-append text more))

pub IsWithin-more : (text more : List ℕ) (ends : Ends) → IsWithin text ends → IsWithin (text ++ more) ends
IsWithin-more text more ends is = omega (arith, is, kept_size-more text more (end_of ends) ends.extras is, length-append text more)

-- some bytes more behind what went on
pub GoesOn-bytes : (at : ℕ) (text mid next : List ℕ) (stems nexts : List Stem) → GoesOn at text mid stems nexts → ((more : List ℕ) × (next ≡ mid ++ more)) → GoesOn at text next stems nexts
GoesOn-bytes at text mid next stems nexts goes more = record {
  bytes = (goes.bytes.0 ++ more.0, more.1 ∙ ap (λ (t : List ℕ). t ++ more.0) goes.bytes.1 ∙ append_assoc text goes.bytes.0 more.0);
  stems = goes.stems;
  stems_in = subst (λ t. All (IsIn t) nexts) (sym more.1) (IsIn-more mid more.0 nexts goes.stems_in);
}

module _ (at : ℕ) (text next : List ℕ) (stems nexts : List Stem) (goes : GoesOn at text next stems nexts) where
  between-goes_on : (from end : ℕ) → end ≤ length text → between from end next ≡ between from end text
  between-goes_on from end within = ap (between from end) goes.bytes.1 ∙ between-more text goes.bytes.0 from end within

  number-goes_on : (k : ℕ) → k < at → number_at nexts k ≡ number_at stems k
  number-goes_on k before = ap (λ (l : List Stem). number_at l k) goes.stems.1 ∙ number-more stems goes.stems.0 at goes.stems.2 k before

  stem_in-goes_on : (k : ℕ) → All (IsIn text) stems → k < at → number_at stems k < length stems → stem_in next nexts (number_at nexts k) ≡ stem_in text stems (number_at stems k)
  stem_in-goes_on k all before h =
      let n = number_at stems k in
      ap (stem_in next nexts) (number-goes_on k before) ∙ ap (bytes_in next) (ap (λ (l : List Stem). get_or l n no_stem) goes.stems.1 ∙ get_or_append_left stems goes.stems.0 no_stem n h)
      ∙ between-goes_on _ _ (all n no_stem h).1

  row_in-goes_on : (k : ℕ) (p : Packed) → All (IsIn text) stems → k < at → IsRow text stems k p → row_in next (stem_in next nexts (number_at nexts k)) p ≡ row_in text (stem_in text stems (number_at stems k)) p
  row_in-goes_on k p all before is =
      let ends = p.ends in
      let stem = stem_in-goes_on k all before is.stem in
      let base : base_in next ends ≡ base_in text ends = between-goes_on ends.at (ends.at + ends.name) (omega (arith, is.within)) in
      let link : link_in next ends ≡ link_in text ends = between-goes_on (ends.at + ends.name) (end_of ends) (omega (arith, is.within)) in
      let xattrs : xattrs_in next ends ≡ xattrs_in text ends =
      ap (λ t. xattrs_in t ends) goes.bytes.1 ∙ kept_xattrs-more text goes.bytes.0 (end_of ends) ends.extras is.within in
      let acl : acl_in next ends ≡ acl_in text ends = ap (λ t. acl_in t ends) goes.bytes.1 ∙ kept_acl-more text goes.bytes.0 (end_of ends) ends.extras is.within in
      λ i. record { path = path_of_parts (stem i) (base i); rec = record { meta = p.meta; link = link i; xattrs = xattrs i; acl = acl i } }

  IsRow-goes_on : (k : ℕ) (p : Packed) → All (IsIn text) stems → k < at → IsRow text stems k p → IsRow next nexts k p
  IsRow-goes_on k p all before is = record {
    stem = omega (arith, is.stem, number-goes_on k before, ap length goes.stems.1, length-append stems goes.stems.0);
    within = subst (λ t. IsWithin t p.ends) (sym goes.bytes.1) (IsWithin-more text goes.bytes.0 p.ends is.within);
    parts =
        let ends = p.ends in
        let stem = stem_in-goes_on k all before is.stem in
        let base : base_in next ends ≡ base_in text ends = between-goes_on ends.at (ends.at + ends.name) (omega (arith, is.within)) in
        rw (stem, base) is.parts;
  }

  rows_from-goes_on : (k : ℕ) (rows : List Packed) → All (IsIn text) stems → k + length rows ≤ at
      → ((i : ℕ) (d : Packed) → i < length rows → IsRow text stems (k + i) (get_or rows i d)) → rows_from next nexts k rows ≡ rows_from text stems k rows
  rows_from-goes_on k [] all before each = refl
  rows_from-goes_on k (p ∷ rows) all before each =
      let zeroth : k + 0 ≡ k = omega arith in
      let first : IsRow text stems k p = subst (λ n. IsRow text stems n p) zeroth (each 0 p (omega arith)) in
      let later : (i : ℕ) → k + suc i ≡ (k + 1) + i = λ i. omega arith in
      ap (λ (r : Row). r ∷ rows_from next nexts (k + 1) rows) (row_in-goes_on k p all (omega (arith, before)) first)
      ∙ ap (λ (rs : List Row). row_in text (stem_in text stems (number_at stems k)) p ∷ rs)
      (rows_from-goes_on (k + 1) rows all (omega (arith, before)) (λ i d h. subst (λ n. IsRow text stems n (get_or rows i d)) (later i) (each (suc i) d (omega (arith, h)))))

  pub rows_in-goes_on : (rows : List Packed) → length rows ≡ at → IsPage text stems rows → rows_in next nexts rows ≡ rows_in text stems rows
  rows_in-goes_on rows e is =
      let same : (i : ℕ) → i ≡ 0 + i = λ i. omega arith in
      rows_from-goes_on 0 rows is.stems_in (omega (arith, e)) (λ i d h. subst (λ n. IsRow text stems n (get_or rows i d)) (same i) (is.each i d h))

  pub IsPage-goes_on : (rows : List Packed) → length rows ≡ at → IsPage text stems rows → IsPage next nexts rows
  IsPage-goes_on rows e is =
      let begin : Begin at stems = subst (λ n. Begin n stems) e is.begin in
      record {
        few = is.few;
        stems_in = goes.stems_in;
        ascend = rw goes.stems.1 (Ascend-more stems goes.stems.0 at goes.stems.2 is.ascend begin);
        begin = rw (goes.stems.1, e) (Begin-more stems goes.stems.0 at goes.stems.2 begin);
        each = λ k d h. IsRow-goes_on k (get_or rows k d) is.stems_in (omega (arith, h, e)) (is.each k d h);
      }

pub IsPage-push : (text : List ℕ) (stems : List Stem) (rows : List Packed) (p : Packed) → IsPage text stems rows → IsRow text stems (length rows) p → length rows + 1 < 2 ^ 32
    → IsPage text stems (rows ++ p ∷ [])
IsPage-push text stems rows p is row few = record {
  few = omega (arith, few, length-append rows (p ∷ []));
  stems_in = is.stems_in;
  ascend = is.ascend;
  begin = λ k d h. let b = is.begin k d h in omega (arith, b, length-append rows (p ∷ []));
  each = by;
} where
  by : (k : ℕ) (d : Packed) → k < length (rows ++ p ∷ []) → IsRow text stems k (get_or (rows ++ p ∷ []) k d)
  by k d h = of (cases_lt k (length rows)) where
    of : (k < length rows) ⊎ (length rows ≤ k) → IsRow text stems k (get_or (rows ++ p ∷ []) k d)
    of (inl lt) = subst (IsRow text stems k) (sym (get_or_append_left rows (p ∷ []) d k lt)) (is.each k d lt)
    of (inr ge) =
        let here : length rows ≡ k = omega (arith, ge, h, length-append rows (p ∷ [])) in
        subst (IsRow text stems k) (sym (get_or_push rows p d k here)) (subst (λ n. IsRow text stems n p) here row)

rows_from-push : (text : List ℕ) (stems : List Stem) (k : ℕ) (rows : List Packed) (p : Packed)
    → rows_from text stems k (rows ++ p ∷ []) ≡ rows_from text stems k rows ++ row_in text (stem_in text stems (number_at stems (k + length rows))) p ∷ []
rows_from-push text stems k [] p = let e : k ≡ k + 0 = omega arith in ap (λ n. row_in text (stem_in text stems (number_at stems n)) p ∷ []) e
rows_from-push text stems k (r ∷ rows) p =
    let e : (k + 1) + length rows ≡ k + suc (length rows) = omega arith in
    let here : Row = row_in text (stem_in text stems (number_at stems k)) r in
    ap (λ (l : List Row). here ∷ l)
    (rows_from-push text stems (k + 1) rows p ∙ ap (λ n. rows_from text stems (k + 1) rows ++ row_in text (stem_in text stems (number_at stems n)) p ∷ []) e)

pub rows_in-push : (text : List ℕ) (stems : List Stem) (rows : List Packed) (p : Packed)
    → rows_in text stems (rows ++ p ∷ []) ≡ rows_in text stems rows ++ row_in text (stem_in text stems (number_at stems (length rows))) p ∷ []
rows_in-push text stems rows p =
    let e : 0 + length rows ≡ length rows = omega arith in
    rows_from-push text stems 0 rows p ∙ ap (λ n. rows_in text stems rows ++ row_in text (stem_in text stems (number_at stems n)) p ∷ []) e

length-rows_from : (text : List ℕ) (stems : List Stem) (k : ℕ) (rows : List Packed) → length (rows_from text stems k rows) ≡ length rows
length-rows_from text stems k [] = refl
length-rows_from text stems k (p ∷ rows) = ap (λ n. suc n) (length-rows_from text stems (k + 1) rows)

pub length-rows_in : (text : List ℕ) (stems : List Stem) (rows : List Packed) → length (rows_in text stems rows) ≡ length rows
length-rows_in text stems rows = length-rows_from text stems 0 rows

row_from : (text : List ℕ) (stems : List Stem) (k : ℕ) (rows : List Packed) (i : ℕ) (d : Packed) (r : Row) → i < length rows
    → get_or (rows_from text stems k rows) i r ≡ row_in text (stem_in text stems (number_at stems (k + i))) (get_or rows i d)
row_from text stems k [] i d r h = absurd (omega (arith, h))
row_from text stems k (p ∷ rows) zero d r h = let e : k ≡ k + 0 = omega arith in ap (λ n. row_in text (stem_in text stems (number_at stems n)) p) e
row_from text stems k (p ∷ rows) (suc i) d r h =
    let e : (k + 1) + i ≡ k + suc i = omega arith in
    row_from text stems (k + 1) rows i d r (omega (arith, h)) ∙ ap (λ n. row_in text (stem_in text stems (number_at stems n)) (get_or rows i d)) e

-- the row at a place
pub row_at : (text : List ℕ) (stems : List Stem) (rows : List Packed) (i : ℕ) (d : Packed) (r : Row) → i < length rows
    → get_or (rows_in text stems rows) i r ≡ row_in text (stem_in text stems (number_at stems i)) (get_or rows i d)
row_at text stems rows i d r h =
    let e : 0 + i ≡ i = omega arith in
    row_from text stems 0 rows i d r h ∙ ap (λ n. row_in text (stem_in text stems (number_at stems n)) (get_or rows i d)) e

-- what is packed at a place is the row that is seen there
module _ (text : List ℕ) (stems : List Stem) (rows : List Packed) (seen : List Row) (k : ℕ) (p : Packed) (is : IsPage text stems rows) (view : rows_in text stems rows ≡ seen)
    (h : k < length seen) (e : p ≡ get_or rows k p) where
  within : k < length rows
  within = omega (arith, h, ap length view, length-rows_in text stems rows)

  pub IsRow-at : IsRow text stems k p
  IsRow-at = subst (IsRow text stems k) (sym e) (is.each k p within)

  pub Stands-at : (ref : RowRef) → ref.stem.now ≡ stem_in text stems (number_at stems k) → ref.base.now ≡ base_in text p.ends → ref.meta.now ≡ p.meta → ref.link.now ≡ link_in text p.ends
      → ref.xattrs.now ≡ xattrs_in text p.ends → ref.acl.now ≡ acl_in text p.ends → (of : Row) × (of ≡ get_or seen k of) × Stands ref of
  Stands-at ref s b m l x a =
      let of : Row = row_in text (stem_in text stems (number_at stems k)) p in
      let parts = IsRow-at.parts in (
        of,
        sym (ap (λ rs. get_or rs k of) (sym view) ∙ row_at text stems rows k p of within ∙ ap (row_in text (stem_in text stems (number_at stems k))) (sym e)),
        record { names = parts.names; stem = s ∙ parts.stem; base = b ∙ parts.base; meta = m; link = l; xattrs = x; acl = a },
      )

-- a base name is short
pub base_name_short : (path : Components) → list_all is_name path ≡ true → length (base_name path) ≤ 255
base_name_short [] named = omega arith
base_name_short (name ∷ path) named =
    let whole = and_parts _ _ (last_named (47 ∷ []) name path named) in
    let front = and_parts _ _ whole.0 in
    leb-true _ _ (and_parts _ _ front.0).1

-- the path of a row's parts is the row's
path_of-parts : (front last : List ℕ) (path : Components) → ArePartsOf front last path → path_of_parts front last ≡ path
path_of-parts front last [] parts = ap (λ (t : List ℕ). path_of_parts t last) parts.stem
path_of-parts front last (name ∷ path) parts =
    let parent : Components = parent_path (name ∷ path) in
    ap (λ (t : List ℕ). path_of_parts t last) (parts.stem ∙ slashed_text-closed parent)
    ∙ ap (λ (p : Components). p ++ last ∷ []) (names-kept_text parent (parent_named (name ∷ path) parts.names))
    ∙ ap (λ (b : List ℕ). parent ++ b ∷ []) parts.base ∙ all_but_last_and_last (47 ∷ []) name path

-- a row whose parts were put into a text
module _ (text : List ℕ) (stems : List Stem) (k : ℕ) (p : Packed) (ref : RowRef) (of : Row) (number : number_at stems k ≡ length stems - 1) (put : IsPut text stems ref p.ends)
    (meta : p.meta ≡ ref.meta.now) (stands : Stands ref of) where
  parts : ArePartsOf ref.stem.now ref.base.now of.path
  parts = record { names = stands.names; stem = stands.stem; base = stands.base }

  stem : stem_in text stems (number_at stems k) ≡ ref.stem.now
  stem = ap (stem_in text stems) number ∙ put.stem

  path : path_of_parts (stem_in text stems (number_at stems k)) (base_in text p.ends) ≡ of.path
  path =
      ap (λ (t : List ℕ). path_of_parts t (base_in text p.ends)) stem ∙ ap (path_of_parts ref.stem.now) put.base ∙ path_of-parts ref.stem.now ref.base.now of.path parts

  pub row_in-put : row_in text (stem_in text stems (number_at stems k)) p ≡ of
  row_in-put = λ i. record {
    path = path i;
    rec = record { meta = (meta ∙ stands.meta) i; link = (put.link ∙ stands.link) i; xattrs = (put.xattrs ∙ stands.xattrs) i; acl = (put.acl ∙ stands.acl) i };
  }

  pub IsRow-put : IsRow text stems k p
  IsRow-put = record {
    stem = omega (arith, number, put.some);
    within = put.within;
    parts = rw (path, stem, put.base) parts;
  }
