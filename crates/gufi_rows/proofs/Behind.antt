-- Texts that stand behind others, and the spots and records that move with them.
use Rattle.std.proofs.Common.{◌≡◌, ℕ, ◌+◌, ◌-◌, ◌^◌, ◌<◌, ◌≤◌, List, [], ◌∷◌, ◌++◌, length, get_or, take, drop, refl, sym, ap, ◌∙◌, arith, length-append, ⊎_elim}
use Rattle.std.specs.Prelude.{All, map}
use Rattle.std.specs.declared.cmp.Ordering.TheVariants.{Less}
use Rattle.std.proofs.lemmas.Bool.{cases_lt}
use Rattle.std.proofs.lemmas.List.{map-append, length-map, get_or-map, get_or_append_left}
use Rattle.std.proofs.lemmas.List.Elements.{All-append, All-map}
use Rattle.std.proofs.Math.Seq.{get_or-append_right, take-append-add, drop-append-add}
use Rattle.gufi_base.specs.declared.record.Rec.{Rec}
use Rattle.gufi_base.specs.declared.record.Row.{Row}
use Rattle.gufi_rows.specs.declared.kept.Kept.{Kept}
use Rattle.gufi_rows.specs.declared.spot.Span.{Span}
use Rattle.gufi_rows.specs.declared.spot.Spot.{Spot}
use Rattle.gufi_base.specs.Paths.{Components, path_cmp}
use Rattle.gufi_base.specs.PathParts.{path_of_parts}
use Rattle.gufi_base.proofs.KeptExtras.{kept_acl-behind, kept_size-behind, kept_xattrs-behind}
use Rattle.gufi_rows.specs.PathLists.{AreSpots, Follow, Grows, IsSpan, IsSpot, SpotFitsBehind, bytes_in, path_in, paths_in, span_behind, spot_behind}
use Rattle.gufi_rows.specs.RowLists.{AreRecords, IsKept, kept_behind, rec_in, rows_in}
use Rattle.gufi_rows.proofs.PathLists.{AreSpots-grows, paths_in-grows}
use Rattle.gufi_rows.proofs.RowLists.{IsKept-grows, rows_in-grows}
use Rattle.gufi_rows.proofs.Spots.{parts_same}

bytes_in-behind : (text more : List ℕ) (span : Span) → bytes_in (text ++ more) (span_behind (length text) span) ≡ bytes_in more span
bytes_in-behind text more span =
    ap (drop (length text + span.from)) (take-append-add text more span.end) ∙ drop-append-add text (take span.end more) span.from

IsSpan-behind : (text more : List ℕ) (span : Span) → IsSpan more span → IsSpan (text ++ more) (span_behind (length text) span)
IsSpan-behind text more span is = (omega (arith, is.0), omega (arith, is.1, length-append text more))

path_in-behind : (text more : List ℕ) (spot : Spot) → path_in (text ++ more) (spot_behind (length text) spot) ≡ path_in more spot
path_in-behind text more spot =
    ap (λ (s : List ℕ). path_of_parts s (bytes_in (text ++ more) (span_behind (length text) spot.base))) (bytes_in-behind text more spot.stem)
    ∙ ap (path_of_parts (bytes_in more spot.stem)) (bytes_in-behind text more spot.base)

IsSpot-behind : (text more : List ℕ) (spot : Spot) → IsSpot more spot → IsSpot (text ++ more) (spot_behind (length text) spot)
IsSpot-behind text more spot is = record {
  stem_in = IsSpan-behind text more spot.stem is.stem_in;
  base_in = IsSpan-behind text more spot.base is.base_in;
  parts = parts_same _ _ _ _ _ _ (bytes_in-behind text more spot.stem) (bytes_in-behind text more spot.base) (path_in-behind text more spot) is.parts;
}

paths_in-behind : (text more : List ℕ) (spots : List Spot) → paths_in (text ++ more) (map (spot_behind (length text)) spots) ≡ paths_in more spots
paths_in-behind text more [] = refl
paths_in-behind text more (spot ∷ spots) =
    ap (λ (p : Components). p ∷ paths_in (text ++ more) (map (spot_behind (length text)) spots)) (path_in-behind text more spot)
    ∙ ap (λ (ps : List Components). path_in more spot ∷ ps) (paths_in-behind text more spots)

-- the spots of a text have room behind another, where both have room together
pub spots_fit : (text more whole : List ℕ) (spots : List Spot) (by : ℕ) → by ≡ length text → whole ≡ text ++ more → length whole < 2 ^ 32 → All (IsSpot more) spots → All (SpotFitsBehind by) spots
spots_fit text more whole spots by e w room each = λ k d h.
    let is = each k d h in
    let size : by + length more < 2 ^ 32 = omega (arith, e, ap length w, room, length-append text more) in
    ((is.stem_in.0, omega (arith, size, is.stem_in.1)), (is.base_in.0, omega (arith, size, is.base_in.1)))

module _ (text more : List ℕ) (spots others : List Spot) (are : AreSpots text spots) (also : AreSpots more others) where
  abbrev whole : List ℕ
  whole = text ++ more

  abbrev moved : List Spot
  moved = map (spot_behind (length text)) others

  grown : Grows text whole
  grown = (more, refl)

  at_left : (k : ℕ) (d : Spot) → k < length spots → get_or (spots ++ moved) k d ≡ get_or spots k d
  at_left k d h = get_or_append_left spots moved d k h

  at_right : (k : ℕ) (d : Spot) → length spots ≤ k → k - length spots < length others → get_or (spots ++ moved) k d ≡ spot_behind (length text) (get_or others (k - length spots) d)
  at_right k d h m = get_or-append_right spots moved k d h ∙ get_or-map (spot_behind (length text)) others (k - length spots) d d m

  follow_on : Follow whole (spots ++ moved)
  follow_on k d h f = ⊎_elim old new (cases_lt k (length spots)) where
    old : k < length spots → (0 < k) × (path_cmp (path_in whole (get_or (spots ++ moved) (k - 1) d)) (path_in whole (get_or (spots ++ moved) k d)) ≡ Less)
    old m =
        let here = at_left k d m in
        let before = at_left (k - 1) d (omega (arith, m)) in
        let was = (AreSpots-grows text whole spots grown are).follow k d m (sym (ap (λ (s : Spot). s.follows) here) ∙ f) in
        (was.0, rw (here, before) was.1)

    new : length spots ≤ k → (0 < k) × (path_cmp (path_in whole (get_or (spots ++ moved) (k - 1) d)) (path_in whole (get_or (spots ++ moved) k d)) ≡ Less)
    new m =
        let j : ℕ = k - length spots in
        let in_others : k - length spots < length others = omega (arith, m, h, length-append spots moved, length-map others (spot_behind (length text))) in
        let here = at_right k d m in_others in
        let was = also.follow (k - length spots) d in_others (sym (ap (λ (s : Spot). s.follows) here) ∙ f) in
        let less : k - 1 - length spots ≡ k - length spots - 1 = omega arith in
        let before : get_or (spots ++ moved) (k - 1) d ≡ spot_behind (length text) (get_or others (k - length spots - 1) d) =
        at_right (k - 1) d (omega (arith, was.0)) (omega (arith, in_others)) ∙ ap (λ i. spot_behind (length text) (get_or others i d)) less in (
          omega (arith, was.0),
          ap (λ (s : Spot). path_cmp (path_in whole s) (path_in whole (get_or (spots ++ moved) k d))) before
              ∙ ap (λ (s : Spot). path_cmp (path_in whole (spot_behind (length text) (get_or others (k - length spots - 1) d))) (path_in whole s)) here
              ∙ ap (λ (p : Components). path_cmp p (path_in whole (spot_behind (length text) (get_or others (k - length spots) d)))) (path_in-behind text more (get_or others (k - length spots - 1) d))
              ∙ ap (path_cmp (path_in more (get_or others (k - length spots - 1) d))) (path_in-behind text more (get_or others (k - length spots) d)) ∙ was.1,
        )

  pub AreSpots-append : AreSpots whole (spots ++ moved)
  AreSpots-append = record {
    each = All-append (IsSpot whole) spots moved (AreSpots-grows text whole spots grown are).each
        (All-map (IsSpot whole) (spot_behind (length text)) others (λ k d h. IsSpot-behind text more (get_or others k d) (also.each k d h)));
    follow = follow_on;
  }

  pub paths_in-append : paths_in whole (spots ++ moved) ≡ paths_in text spots ++ paths_in more others
  paths_in-append =
      map-append (path_in whole) spots moved ∙ ap (λ (ps : List Components). ps ++ paths_in whole moved) (paths_in-grows text whole spots grown are.each)
      ∙ ap (λ (ps : List Components). paths_in text spots ++ ps) (paths_in-behind text more others)

-- rows behind others
rows_in-both : (links : List ℕ) (paths others : List Components) (records also : List Kept) → length paths ≡ length records
    → rows_in links (paths ++ others) (records ++ also) ≡ rows_in links paths records ++ rows_in links others also
rows_in-both links [] others [] also e = refl
rows_in-both links [] others (kept ∷ records) also e = absurd (omega (arith, e))
rows_in-both links (path ∷ paths) others [] also e = absurd (omega (arith, e))
rows_in-both links (path ∷ paths) others (kept ∷ records) also e =
    let row : Row = record { path = path; rec = rec_in links kept } in
    ap (λ l. row ∷ l) (rows_in-both links paths others records also (omega (arith, e)))

rec_in-behind : (links more : List ℕ) (kept : Kept) → rec_in (links ++ more) (kept_behind (length links) kept) ≡ rec_in more kept
rec_in-behind links more kept = λ i. record {
  meta = kept.meta;
  link = bytes_in-behind links more kept.link i;
  xattrs = kept_xattrs-behind links more kept.link.end kept.extras i;
  acl = kept_acl-behind links more kept.link.end kept.extras i;
}

IsKept-behind : (links more : List ℕ) (kept : Kept) → IsKept more kept → IsKept (links ++ more) (kept_behind (length links) kept)
IsKept-behind links more kept is =
    (IsSpan-behind links more kept.link is.0, omega (arith, is.1, length-append links more, kept_size-behind links more kept.link.end kept.extras))

rows_in-behind : (links more : List ℕ) (paths : List Components) (records : List Kept) → rows_in (links ++ more) paths (map (kept_behind (length links)) records) ≡ rows_in more paths records
rows_in-behind links more [] records = refl
rows_in-behind links more (path ∷ paths) [] = refl
rows_in-behind links more (path ∷ paths) (kept ∷ records) =
    let row : Rec → Row = λ r. record { path = path; rec = r } in
    ap (λ r. row r ∷ rows_in (links ++ more) paths (map (kept_behind (length links)) records)) (rec_in-behind links more kept)
    ∙ ap (λ l. row (rec_in more kept) ∷ l) (rows_in-behind links more paths records)

module _ (links more : List ℕ) (paths others : List Components) (records also : List Kept) (are : AreRecords links paths records) (too : AreRecords more others also) where
  pub AreRecords-append : AreRecords (links ++ more) (paths ++ others) (records ++ map (kept_behind (length links)) also)
  AreRecords-append = record {
    alike = omega (arith, are.alike, too.alike, length-append paths others, length-append records (map (kept_behind (length links)) also), length-map also (kept_behind (length links)));
    each = All-append (IsKept (links ++ more)) records (map (kept_behind (length links)) also)
        (λ k d h. IsKept-grows links (links ++ more) (get_or records k d) (more, refl) (are.each k d h))
        (All-map (IsKept (links ++ more)) (kept_behind (length links)) also
        (λ k d h. IsKept-behind links more (get_or also k d) (too.each k d h)));
  }

  pub rows_in-append : rows_in (links ++ more) (paths ++ others) (records ++ map (kept_behind (length links)) also) ≡ rows_in links paths records ++ rows_in more others also
  rows_in-append =
      rows_in-both (links ++ more) paths others records (map (kept_behind (length links)) also) are.alike
      ∙ ap (λ l. l ++ rows_in (links ++ more) others (map (kept_behind (length links)) also)) (rows_in-grows links (links ++ more) paths records (more, refl) are.each)
      ∙ ap (λ l. rows_in links paths records ++ l) (rows_in-behind links more others also)
