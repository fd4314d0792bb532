-- Paths whose lines are a text: one more, and the lines from a place to another.
use Rattle.std.proofs.Common.{◌≡◌, ℕ, ◌+◌, ◌-◌, ◌<◌, ◌≤◌, List, [], ◌∷◌, ◌++◌, length, get_or, take, drop, sym, ap, ◌∙◌, arith, length-append, append_assoc, ⊎_elim}
use Rattle.std.proofs.lemmas.Bool.{cases_lt}
use Rattle.std.proofs.lemmas.Grind.{flat_map-append}
use Rattle.std.proofs.lemmas.List.{append-nil, map-append, length-map, get_or_append_left, take-append-le, take-append-drop, take-take, drop-take, take_at, drop_at}
use Rattle.std.proofs.lemmas.List.Elements.{All-push}
use Rattle.std.proofs.Math.Seq.{get_or-append_seam, take-append_seam}
use Rattle.gufi_rows.specs.declared.spot.Spot.{Spot}
use Rattle.gufi_base.specs.Paths.{Components}
use Rattle.gufi_rows.specs.LaidLines.{AreLines, lines_of}
use Rattle.gufi_rows.specs.PathLines.{path_line}
use Rattle.gufi_rows.specs.PathLists.{Grows, IsSpot, path_in, paths_in}
use Rattle.gufi_rows.proofs.PathLists.{paths_in-grows}
use Rattle.gufi_rows.proofs.Spots.{IsSpot-grows}

pub lines_of-push : (paths : List Components) (path : Components) → lines_of (paths ++ path ∷ []) ≡ lines_of paths ++ path_line path
lines_of-push paths path = flat_map-append path_line paths (path ∷ []) ∙ ap (λ t. lines_of paths ++ t) (append-nil (path_line path))

module _ (text next : List ℕ) (spots : List Spot) (spot : Spot) (path : Components) (are : AreLines text spots) (grown : Grows text next) (more : next ≡ text ++ path_line path)
    (is : IsSpot next spot × (path_in next spot ≡ path)) (first : spot.stem.from ≡ length text) where
  pub paths_in-line : paths_in next (spots ++ spot ∷ []) ≡ paths_in text spots ++ path ∷ []
  paths_in-line =
      map-append (path_in next) spots (spot ∷ []) ∙ ap (λ l. l ++ path_in next spot ∷ []) (paths_in-grows text next spots grown are.each) ∙ ap (λ p. paths_in text spots ++ p ∷ []) is.1

  starts_on : (k : ℕ) (d : Spot) → k < length (spots ++ spot ∷ []) → (get_or (spots ++ spot ∷ []) k d).stem.from ≡ length (lines_of (take k (paths_in text spots ++ path ∷ [])))
  starts_on k d h = ⊎_elim old new (cases_lt k (length spots)) where
    size : length (paths_in text spots) ≡ length spots
    size = length-map spots (path_in text)

    old : k < length spots → (get_or (spots ++ spot ∷ []) k d).stem.from ≡ length (lines_of (take k (paths_in text spots ++ path ∷ [])))
    old m =
        ap (λ (s : Spot). s.stem.from) (get_or_append_left spots (spot ∷ []) d k m) ∙ are.starts k d m
        ∙ ap (λ l. length (lines_of l)) (sym (take-append-le k (paths_in text spots) (path ∷ []) (omega (arith, m, size))))

    new : length spots ≤ k → (get_or (spots ++ spot ∷ []) k d).stem.from ≡ length (lines_of (take k (paths_in text spots ++ path ∷ [])))
    new m =
        let e : k ≡ length spots = omega (arith, m, h, length-append spots (spot ∷ [])) in
        let at : get_or (spots ++ spot ∷ []) k d ≡ spot = ap (λ i. get_or (spots ++ spot ∷ []) i d) e ∙ get_or-append_seam spots spot [] d in
        let all : take k (paths_in text spots ++ path ∷ []) ≡ paths_in text spots =
        ap (λ i. take i (paths_in text spots ++ path ∷ [])) (e ∙ sym size) ∙ take-append_seam (paths_in text spots) (path ∷ []) in
        ap (λ (s : Spot). s.stem.from) at ∙ first ∙ ap length are.whole ∙ ap (λ l. length (lines_of l)) (sym all)

  pub AreLines-push : AreLines next (spots ++ spot ∷ [])
  AreLines-push = record {
    each = All-push (IsSpot next) spots spot (λ k d h. IsSpot-grows text next _ grown (are.each k d h)) is.0;
    whole = more ∙ ap (λ t. t ++ path_line path) are.whole ∙ sym (lines_of-push (paths_in text spots) path) ∙ ap lines_of (sym paths_in-line);
    starts = λ k d h. starts_on k d h ∙ ap (λ l. length (lines_of (take k l))) (sym paths_in-line);
  }

-- the text of the lines from a place to another
module _ (paths : List Components) (from end : ℕ) (h : from ≤ end) (text : List ℕ) (s t : ℕ) (whole : text ≡ lines_of paths)
    (first : s ≡ length (lines_of (take from paths))) (last : t ≡ length (lines_of (take end paths))) where
  abbrev front : List Components
  front = take from paths

  abbrev middle : List Components
  middle = take (end - from) (drop from paths)

  split_end : take end paths ≡ front ++ middle
  split_end =
      let e : end ≡ from + (end - from) = omega (arith, h) in
      sym (take-append-drop from (take end paths)) ∙ ap (λ l. l ++ drop from (take end paths)) (take-take from end paths h)
      ∙ ap (λ l. front ++ l) (ap (λ n. drop from (take n paths)) e ∙ drop-take from (end - from) paths)

  lines_end : lines_of (take end paths) ≡ lines_of front ++ lines_of middle
  lines_end = ap lines_of split_end ∙ flat_map-append path_line front middle

  lines_all : text ≡ lines_of front ++ (lines_of middle ++ lines_of (drop end paths))
  lines_all =
      whole ∙ ap lines_of (sym (take-append-drop end paths)) ∙ flat_map-append path_line (take end paths) (drop end paths)
      ∙ ap (λ l. l ++ lines_of (drop end paths)) lines_end ∙ append_assoc (lines_of front) (lines_of middle) (lines_of (drop end paths))

  pub record AreBounds : Type 0 where
    pub order : s ≤ t
    pub within : t ≤ length text

  pub lines-bounds : AreBounds
  lines-bounds = record {
    order = omega (arith, first, last, ap length lines_end, length-append (lines_of front) (lines_of middle));
    within = omega (
      arith,
      last,
      ap length lines_end,
      ap length lines_all,
      length-append (lines_of front) (lines_of middle),
      length-append (lines_of front) (lines_of middle ++ lines_of (drop end paths)),
      length-append (lines_of middle) (lines_of (drop end paths)),
    );
  }

  pub lines-between : take (t - s) (drop s text) ≡ lines_of middle
  lines-between =
      let size : length (lines_of middle) ≡ t - s = omega (arith, first, last, ap length lines_end, length-append (lines_of front) (lines_of middle)) in
      ap (λ l. take (t - s) (drop s l)) lines_all ∙ ap (take (t - s)) (drop_at (lines_of front) (lines_of middle ++ lines_of (drop end paths)) s (sym first))
      ∙ take_at (lines_of middle) (lines_of (drop end paths)) (t - s) size
