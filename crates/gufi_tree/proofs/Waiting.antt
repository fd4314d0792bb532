-- Entries that wait for their directory: packed one behind another, and then put behind those of a bundle.
use Rattle.std.proofs.Common.{◌≡◌, ◌∙◌, ℕ, ◌+◌, ◌-◌, ◌<◌, ◌^◌, List, [], ◌∷◌, ◌++◌, length, map, take, drop, false, cond, refl, sym, ap, subst, arith}
use Rattle.std.specs.Prelude.{All, IsTrue, Some, option_map, slice_get}
use Rattle.std.specs.Ordering.{is_lt}
use Rattle.std.proofs.Math.Seq.{drop-append-add}
use Rattle.std.proofs.lemmas.List.{length-append, length-map, map-append}
use Rattle.std.proofs.lemmas.List.Elements.{All-append, All-map, All-push, All-take, All-weaker}
use Rattle.std.proofs.lemmas.Option.{slice_get-map}
use Rattle.gufi_base.specs.Basics.{ascends}
use Rattle.gufi_base.specs.Names.{is_name}
use Rattle.gufi_base.specs.declared.extras.Extras.{Extras}
use Rattle.gufi_base.specs.Extras.{kept_xattrs, kept_acl, kept_size}
use Rattle.gufi_base.proofs.KeptExtras.{kept_xattrs-behind, kept_acl-behind, kept_size-behind}
use Rattle.gufi_tree.specs.declared.bundle.Packed.{Packed}
use Rattle.gufi_tree.specs.declared.pending.PlacedRow.{PlacedRow}
use Rattle.gufi_tree.specs.declared.tree.Entry.{Entry}
use Rattle.gufi_tree.specs.Bundles.{bytes_at, entries_in, entry_in, IsPacked}
use Rattle.gufi_tree.specs.GoingOn.{GoesOn}
use Rattle.gufi_tree.specs.Packs.{entries_of, last_entry, placed_in, places_of, shifted_row, IsNear, IsPlaced, Placed}
use Rattle.gufi_tree.specs.Tree.{entry_cmp}
use Rattle.gufi_tree.proofs.GoingOn.{entries_in-goes_on, entry_in-more, map-same, IsPacked-goes_on, IsPacked-more}

placed_in-more : (text more : List ℕ) (row : PlacedRow) → IsPlaced text row → placed_in (text ++ more) row ≡ placed_in text row
placed_in-more text more row is i = record { entry = entry_in-more text more row.packed is i; place = row.place }

module _ (text next : List ℕ) (rows : List PlacedRow) (more : (bytes : List ℕ) × (next ≡ text ++ bytes)) (all : All (IsPlaced text) rows) where
  pub placed_in-goes_on : map (placed_in next) rows ≡ map (placed_in text) rows
  placed_in-goes_on =
      ap (λ t. map (placed_in t) rows) more.1
      ∙ map-same (placed_in (text ++ more.0)) (placed_in text) rows
      (All-weaker (IsPlaced text) (λ row. placed_in (text ++ more.0) row ≡ placed_in text row) (placed_in-more text more.0) rows all)

  pub IsPlaced-goes_on : All (IsPlaced next) rows
  IsPlaced-goes_on = subst (λ t. All (IsPlaced t) rows) (sym more.1) (All-weaker (IsPlaced text) (IsPlaced (text ++ more.0)) (λ row. IsPacked-more text more.0 row.packed) rows all)

  -- one entry more
  pub IsPlaced-push : (row : PlacedRow) → IsPlaced next row → All (IsPlaced next) (rows ++ row ∷ [])
  IsPlaced-push row is = All-push (IsPlaced next) rows row IsPlaced-goes_on is

  pub placed_in-push : (row : PlacedRow) (entry : Entry) → entry_in next row.packed ≡ entry → map (placed_in next) (rows ++ row ∷ []) ≡ map (placed_in text) rows ++ record { entry = entry; place = row.place } ∷ []
  placed_in-push row entry is =
      map-append (placed_in next) rows (row ∷ []) ∙ ap (λ ps. ps ++ placed_in next row ∷ []) placed_in-goes_on
      ∙ ap (λ (e : Entry). map (placed_in text) rows ++ record { entry = e; place = row.place } ∷ []) is

-- packed entries, seen as entries, as places, by their last one and by the order of their names
module _ (text : List ℕ) where
  pub places_are : (rows : List PlacedRow) → map (λ (r : PlacedRow). r.place) rows ≡ places_of (map (placed_in text) rows)
  places_are [] = refl
  places_are (row ∷ rows) = ap (λ ns. row.place ∷ ns) (places_are rows)

  pub ascends_placed : (rows : List PlacedRow) → ascends (λ (x y : PlacedRow). entry_cmp (entry_in text x.packed) (entry_in text y.packed)) rows ≡ ascends entry_cmp (entries_of (map (placed_in text) rows))
  ascends_placed [] = refl
  ascends_placed (x ∷ []) = refl
  ascends_placed (x ∷ y ∷ rows) = ap (λ b. cond (is_lt (entry_cmp (entry_in text x.packed) (entry_in text y.packed))) b false) (ascends_placed (y ∷ rows))

  pub last_placed : (rows : List PlacedRow) (row : PlacedRow) → Some row ≡ slice_get rows (length rows - 1) → Some (entry_in text row.packed) ≡ last_entry (map (placed_in text) rows)
  last_placed rows row is =
      let seen : List Entry = entries_of (map (placed_in text) rows) in
      let many : length seen ≡ length rows = length-map (map (placed_in text) rows) (λ (p : Placed). p.entry) ∙ length-map rows (placed_in text) in
      ap (λ o. option_map (λ (p : Placed). p.entry) (option_map (placed_in text) o)) is
      ∙ ap (option_map (λ (p : Placed). p.entry)) (sym (slice_get-map (placed_in text) rows (length rows - 1)))
      ∙ sym (slice_get-map (λ (p : Placed). p.entry) (map (placed_in text) rows) (length rows - 1)) ∙ ap (λ n. slice_get seen (n - 1)) (sym many)

-- entries whose text was put behind another
module _ (text own next : List ℕ) (base : ℕ) (behind : base ≡ length text) (is : next ≡ text ++ own) where
  part-shifted : (at count : ℕ) → bytes_at next (base + at) count ≡ bytes_at own at count
  part-shifted at count = ap (λ t. bytes_at t (base + at) count) is ∙ ap (λ b. take count (drop (b + at) (text ++ own))) behind ∙ ap (take count) (drop-append-add text own at)

  xattrs-shifted : (at : ℕ) (extras : Extras) → kept_xattrs next (base + at) extras ≡ kept_xattrs own at extras
  xattrs-shifted at extras = ap (λ t. kept_xattrs t (base + at) extras) is ∙ ap (λ b. kept_xattrs (text ++ own) (b + at) extras) behind ∙ kept_xattrs-behind text own at extras

  acl-shifted : (at : ℕ) (extras : Extras) → kept_acl next (base + at) extras ≡ kept_acl own at extras
  acl-shifted at extras = ap (λ t. kept_acl t (base + at) extras) is ∙ ap (λ b. kept_acl (text ++ own) (b + at) extras) behind ∙ kept_acl-behind text own at extras

  size-shifted : (at : ℕ) (extras : Extras) → kept_size next (base + at) extras ≡ kept_size own at extras
  size-shifted at extras = ap (λ t. kept_size t (base + at) extras) is ∙ ap (λ b. kept_size (text ++ own) (b + at) extras) behind ∙ kept_size-behind text own at extras

  entry_in-shifted : (row : PlacedRow) → entry_in next (shifted_row base row) ≡ entry_in own row.packed
  entry_in-shifted row =
      let p = row.packed in
      let far : base + p.at + p.name ≡ base + (p.at + p.name) = omega arith in
      let name : bytes_at next (base + p.at) p.name ≡ bytes_at own p.at p.name = part-shifted p.at p.name in
      let link : bytes_at next (base + p.at + p.name) p.link ≡ bytes_at own (p.at + p.name) p.link = ap (λ n. bytes_at next n p.link) far ∙ part-shifted (p.at + p.name) p.link in
      let farther : base + p.at + p.name + p.link ≡ base + (p.at + p.name + p.link) = omega arith in
      let xattrs : kept_xattrs next (base + p.at + p.name + p.link) p.extras ≡ kept_xattrs own (p.at + p.name + p.link) p.extras =
      ap (λ n. kept_xattrs next n p.extras) farther ∙ xattrs-shifted (p.at + p.name + p.link) p.extras in
      let acl : kept_acl next (base + p.at + p.name + p.link) p.extras ≡ kept_acl own (p.at + p.name + p.link) p.extras =
      ap (λ n. kept_acl next n p.extras) farther ∙ acl-shifted (p.at + p.name + p.link) p.extras in
      λ i. record { name = name i; rec = record { link = link i; xattrs = xattrs i; acl = acl i; meta = p.meta } }

  IsPacked-shifted : (row : PlacedRow) → IsPlaced own row → IsPacked next (shifted_row base row)
  IsPacked-shifted row here = record {
    within =
        let p = row.packed in
        let farther : base + p.at + p.name + p.link ≡ base + (p.at + p.name + p.link) = omega arith in
        let size : kept_size next (base + p.at + p.name + p.link) p.extras ≡ kept_size own (p.at + p.name + p.link) p.extras =
        ap (λ n. kept_size next n p.extras) farther ∙ size-shifted (p.at + p.name + p.link) p.extras in
        omega (arith, here.within, size, behind, ap length is, length-append text own);
    name = subst (λ n. IsTrue (is_name n)) (sym (part-shifted row.packed.at row.packed.name)) here.name;
  }

  entries_in-shifted : (entries : List PlacedRow) → entries_in next (map (shifted_row base) entries) ≡ entries_of (map (placed_in own) entries)
  entries_in-shifted [] = refl
  entries_in-shifted (row ∷ entries) = ap (λ e. e ∷ entries_in next (map (shifted_row base) entries)) (entry_in-shifted row) ∙ ap (λ es. entry_in own row.packed ∷ es) (entries_in-shifted entries)

  pub are_near : (entries : List PlacedRow) → length next < 2 ^ 32 → All (IsPlaced own) entries → All (IsNear base) entries
  are_near entries few all = All-weaker (IsPlaced own) (IsNear base) (λ row here. omega (arith, few, here.within, behind, ap length is, length-append text own)) entries all

  module _ (rows after : List Packed) (entries : List PlacedRow) (packed : All (IsPacked text) rows) where
    pub GoesOn-shifted : All (IsPlaced own) entries → (count : ℕ) × (after ≡ rows ++ map (shifted_row base) (take count entries)) → GoesOn text next rows after
    GoesOn-shifted all some =
        let own_rows : List Packed = map (shifted_row base) (take some.0 entries) in
        let own_packed : All (IsPacked next) own_rows = All-map (IsPacked next) (shifted_row base) (take some.0 entries)
        (All-weaker (IsPlaced own) _ IsPacked-shifted (take some.0 entries) (All-take (IsPlaced own) some.0 entries all)) in
        record {
          bytes = (own, is);
          entries = (own_rows, some.1);
          packed = subst (λ rs. All (IsPacked next) rs) (sym some.1) (All-append (IsPacked next) rows own_rows (IsPacked-goes_on text next rows (own, is) packed) own_packed);
        }

    pub entries_in-more : after ≡ rows ++ map (shifted_row base) entries → entries_in next after ≡ entries_in text rows ++ entries_of (map (placed_in own) entries)
    entries_in-more all =
        ap (entries_in next) all ∙ map-append (entry_in next) rows (map (shifted_row base) entries)
        ∙ ap (λ es. es ++ entries_in next (map (shifted_row base) entries)) (entries_in-goes_on text next rows (own, is) packed) ∙ ap (λ es. entries_in text rows ++ es) (entries_in-shifted entries)
