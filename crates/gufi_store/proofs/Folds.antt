-- The rows of stores that stand side by side, one store after another.
use Rattle.std.proofs.Common.{◌≡◌, ℕ, ◌+◌, ◌<◌, ◌^◌, Bool, List, [], ◌∷◌, ◌++◌, length, get_or, take, map, sym, ap, ◌∙◌, arith, length-append}
use Rattle.std.specs.List.{filter, flat_map}
use Rattle.std.proofs.lemmas.Grind.{flat_map-append}
use Rattle.std.proofs.lemmas.List.{take_more, append-nil, map-append}
use Rattle.std.proofs.Math.ListN.{length-map}
use Rattle.std.proofs.lemmas.List.Elements.{filter-append}
use Rattle.std.proofs.lemmas.List.Folds.{length-flat_map-take}
use Rattle.gufi_base.specs.declared.record.Row.{Row}
use Rattle.gufi_tree.specs.Tree.{Directory, own_rows}
use Rattle.gufi_store.proofs.Entries.{length-filter_le}

-- those of one store more
pub filter-next : (p : Row → Bool) (shows : Row → Row) (ds : List Directory) (i : ℕ) (x : Directory) → i < length ds → x ≡ get_or ds i x
    → filter p (map shows (flat_map own_rows (take i ds))) ++ filter p (map shows (own_rows x)) ≡ filter p (map shows (flat_map own_rows (take (i + 1) ds)))
filter-next p shows ds i x h e =
    sym (filter-append p (map shows (flat_map own_rows (take i ds))) (map shows (own_rows x)))
    ∙ ap (filter p) (sym (map-append shows (flat_map own_rows (take i ds)) (own_rows x)))
    ∙ ap (λ l. filter p (map shows l)) (ap (λ l. flat_map own_rows (take i ds) ++ l) (sym (append-nil (own_rows x))) ∙ sym (flat_map-append own_rows (take i ds) (x ∷ []))
    ∙ ap (λ y. flat_map own_rows (take i ds ++ y ∷ [])) e ∙ ap (flat_map own_rows) (sym (take_more ds i x h)))

-- there is room for the rows of one store more, whichever were met so far
pub room_for_next : (p : Row → Bool) (shows : Row → Row) (ds : List Directory) (i start count : ℕ) (x : Directory) (rows : List Row) → i < length ds → x ≡ get_or ds i x
    → start + length (flat_map own_rows ds) < 2 ^ 40 → length rows ≡ start → length (rows ++ filter p (map shows (flat_map own_rows (take i ds)))) ≡ count → count + length (own_rows x) < 2 ^ 40
room_for_next p shows ds i start count x rows h is room e f =
    let met = flat_map own_rows (take i ds) in
    omega (arith, length-append rows (filter p (map shows met)), length-filter_le p (map shows met), length-map met shows, length-flat_map-take own_rows ds i x h, ap (λ d. length (own_rows d)) is, e, f, room)
