-- The rows of a directory, one after another.
use Rattle.std.proofs.Common.{◌≡◌, ℕ, ◌+◌, ◌<◌, ◌≤◌, ◌^◌, cond, not, true, Bool, List, [], ◌∷◌, ◌++◌, length, get_or, take, map, refl, sym, ap, ◌∙◌, arith, add-one, length-append}
use Rattle.std.specs.List.{filter, list_all}
use Rattle.std.proofs.lemmas.List.{get_or-map, length-take, take_more, map-append}
use Rattle.std.proofs.Math.ListN.{length-map}
use Rattle.std.proofs.lemmas.List.Elements.{filter-append}
use Rattle.std.proofs.lemmas.List.Filters.{length-filter_both}
use Rattle.gufi_base.specs.declared.record.Row.{Row}
use Rattle.gufi_base.specs.declared.record.RowRef.{RowRef}
use Rattle.gufi_base.specs.Names.{is_name}
use Rattle.gufi_base.specs.PathTexts.{kept_text}
use Rattle.gufi_base.specs.Rows.{Stands}
use Rattle.gufi_base.proofs.RowParts.{stem_push, base_name_push, named_push}
use Rattle.gufi_tree.specs.declared.tree.Entry.{Entry}
use Rattle.gufi_tree.specs.Tree.{Directory, entry_row, own_rows}

-- the parts of an entry's row
pub entry_stands : (ref : RowRef) (path : List (List ℕ)) (e : Entry) → list_all is_name path ≡ true → is_name e.name ≡ true
    → ref.stem.now ≡ kept_text path → ref.base.now ≡ e.name → ref.meta.now ≡ e.rec.meta → ref.link.now ≡ e.rec.link → ref.xattrs.now ≡ e.rec.xattrs → ref.acl.now ≡ e.rec.acl → Stands ref (entry_row path e)
entry_stands ref path e names name stem base meta link xattrs acl = record {
  names = named_push path e.name names name;
  stem = stem ∙ sym (stem_push path e.name);
  base = base ∙ sym (base_name_push path e.name);
  meta = meta;
  link = link;
  xattrs = xattrs;
  acl = acl;
}

-- one row more
shown_more : (p : Row → Bool) (shows : Row → Row) (rows : List Row) (i : ℕ) (r : Row) → i < length rows → r ≡ get_or rows i r
    → filter p (map shows (take (i + 1) rows)) ≡ filter p (map shows (take i rows)) ++ cond (p (shows r)) (shows r ∷ []) []
shown_more p shows rows i r h is =
    ap (λ l. filter p (map shows l)) (take_more rows i r h) ∙ ap (filter p) (map-append shows (take i rows) (get_or rows i r ∷ []))
    ∙ filter-append p (map shows (take i rows)) (shows (get_or rows i r) ∷ [])
    ∙ ap (λ x. filter p (map shows (take i rows)) ++ cond (p (shows x)) (shows x ∷ []) []) (sym is)

-- one entry more
pub filter-own_rows : (p : Row → Bool) (shows : Row → Row) (d : Directory) (i : ℕ) (x : Entry) → i < length d.entries → x ≡ get_or d.entries i x
    → filter p (map shows (take (i + 1 + 1) (own_rows d))) ≡ filter p (map shows (take (i + 1) (own_rows d))) ++ cond (p (shows (entry_row d.path x))) (shows (entry_row d.path x) ∷ []) []
filter-own_rows p shows d i x h e =
    let row : Entry → Row = entry_row d.path in
    let at : row x ≡ get_or (own_rows d) (i + 1) (row x) = rw add-one (ap row e ∙ sym (get_or-map row d.entries i x (row x) h)) in
    shown_more p shows (own_rows d) (i + 1) (row x) (omega (arith, length-map d.entries row)) at

pub length-filter_le : {X : Type 0} (p : X → Bool) (xs : List X) → length (filter p xs) ≤ length xs
length-filter_le p xs = omega (arith, length-filter_both p (λ x. not (p x)) (λ x. refl) xs)

length-own_rows : (d : Directory) → length (own_rows d) ≡ length d.entries + 1
length-own_rows d = omega (arith, length-map d.entries (entry_row d.path))

-- there is room for one row more, whichever were met so far
pub room_left : (p : Row → Bool) (shows : Row → Row) (d : Directory) (i start count : ℕ) (rows : List Row) → i < length d.entries → start + length (own_rows d) < 2 ^ 40 → length rows ≡ start
    → length (rows ++ filter p (map shows (take (i + 1) (own_rows d)))) ≡ count → count + 1 < 2 ^ 40
room_left p shows d i start count rows h room e f =
    let met = map shows (take (i + 1) (own_rows d)) in
    omega (arith, length-append rows (filter p met), length-filter_le p met, length-map (take (i + 1) (own_rows d)) shows, length-take (i + 1) (own_rows d), length-own_rows d, f, e, room, h)
