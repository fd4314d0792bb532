-- What is read can be written: the directories of an image are a tree of the program within the limits.
use Rattle.std.proofs.Common.{◌≡◌, ℕ, zero, suc, Bool, true, not, ◌&&◌, ltb, List, [], ◌∷◌, ◌++◌, length, Some, refl, sym, ap, subst, ◌∙◌, append_assoc}
use Rattle.std.specs.Prelude.{slice_get}
use Rattle.std.specs.List.{list_all, flat_map}
use Rattle.std.proofs.lemmas.Bool.{and_from, or_from, le-ltb}
use Rattle.std.proofs.lemmas.List.{append-nil}
use Rattle.std.proofs.lemmas.List.Folds.{list_all-append, list_all-map}
use Rattle.gufi_base.specs.declared.record.Kind.TheVariants.{Dir}
use Rattle.gufi_base.specs.declared.record.Row.{Row}
use Rattle.gufi_base.specs.Basics.{ascends}
use Rattle.gufi_base.specs.Limits.{max_dirs, max_entries}
use Rattle.gufi_base.specs.Names.{is_name}
use Rattle.gufi_base.specs.Kinds.{is_dir}
use Rattle.gufi_base.specs.Paths.{Components, parent_path}
use Rattle.gufi_base.specs.Rows.{are_bytes, fits_types, row_fits_types}
use Rattle.gufi_tree.specs.declared.tree.Entry.{Entry}
use Rattle.gufi_tree.specs.Tree.{Directory, entry_cmp, has_dir, is_entry_of, is_directory_of, own_rows, entry_row, is_well_formed, HasTreeShape}
use Rattle.gufi_image.specs.declared.width.Width.{Width}
use Rattle.gufi_image.specs.Widths.{width_of}
use Rattle.gufi_image.specs.Placed.{AreEntries, IsNext, IsFront}
use Rattle.gufi_image.specs.Laws.{IsWritable}
use Rattle.gufi_image.proofs.Searches.{all_there}
use Rattle.gufi_image.proofs.EntryLoop.{entries_push}
use Rattle.gufi_image.proofs.Shape.{front_push, shape_from, directories_none}
use Rattle.gufi_image.proofs.RecordsBack.{IsRecord, record_sound, record_fits}
use Rattle.gufi_image.proofs.EntriesBack.{IsNextEntry, AreNextEntries}
use Rattle.gufi_image.proofs.PathsBack.{IsSound, next_placed, next_sound}
use Rattle.gufi_image.proofs.FrontsBack.{AreNextDirectories}
use Rattle.gufi_image.proofs.ImageBack.{AreAll}
use Rattle.gufi_image.proofs.Writable.{is_short}

all_from : {X : Type 0} (q : X → Bool) (xs : List X) → ((i : ℕ) (x : X) → slice_get xs i ≡ Some x → q x ≡ true) → list_all q xs ≡ true
all_from q [] h = refl
all_from q (x ∷ xs) h = and_from (q x) (list_all q xs) (h 0 x refl) (all_from q xs (λ i y there. h (suc i) y there))

rows_from : (q : Row → Bool) (tree : List Directory) → ((i : ℕ) (d : Directory) → slice_get tree i ≡ Some d → list_all q (own_rows d) ≡ true) → list_all q (flat_map own_rows tree) ≡ true
rows_from q [] h = refl
rows_from q (d ∷ tree) h = list_all-append q (own_rows d) (flat_map own_rows tree) ∙ and_from _ _ (h 0 d refl) (rows_from q tree (λ i x there. h (suc i) x there))

-- entries
are_entries : (width : Width) (path : Components) (before es : List Entry) → AreEntries before → AreNextEntries width path before es → AreEntries (before ++ es)
are_entries width path before [] h n = subst AreEntries (sym (append-nil before)) h
are_entries width path before (e ∷ es) h n = subst AreEntries (append_assoc before (e ∷ []) es) (are_entries width path (before ++ e ∷ []) es (entries_push before e h n.0.above n.0.apart) n.1)

each_entry : (width : Width) (r : Entry → Bool) (path : Components) → ((before : List Entry) (e : Entry) → IsNextEntry width path before e → r e ≡ true) → (before es : List Entry) → AreNextEntries width path before es → list_all r es ≡ true
each_entry width r path h before [] n = refl
each_entry width r path h before (e ∷ es) n = and_from (r e) (list_all r es) (h before e n.0) (each_entry width r path h (before ++ e ∷ []) es n.1)

-- directories
next_front : (width : Width) (total : ℕ) (before ds : List Directory) → IsFront before → AreNextDirectories width total before ds → IsFront (before ++ ds)
next_front width total before [] h n = subst IsFront (sym (append-nil before)) h
next_front width total before (d ∷ ds) h n =
    let own = n.0 in
    let next : IsNext total before d = record {
      few = own.few;
      kind = ap is_dir own.rec.meta.kind;
      entries = are_entries width d.path [] d.entries (record { order = refl; kinds = refl }) own.entries;
      placed = next_placed before d.path own.path;
    } in
    subst IsFront (append_assoc before (d ∷ []) ds) (next_front width total (before ++ d ∷ []) ds (front_push total before d h next) n.1)

record IsOwn (width : Width) (d : Directory) : Type 0 where
  pub sound : IsSound d.path
  pub rec : IsRecord width Dir d.rec
  pub entries : AreNextEntries width d.path [] d.entries

own_there : (width : Width) (total : ℕ) (before ds : List Directory) (i : ℕ) (d : Directory) → AreNextDirectories width total before ds → slice_get ds i ≡ Some d → IsOwn width d
own_there width total before [] i d n there = absurd cc
own_there width total before (x ∷ ds) zero d n there = let same : x ≡ d = cc in subst (IsOwn width) same (record { sound = next_sound before x.path n.0.path; rec = n.0.rec; entries = n.0.entries })
own_there width total before (x ∷ ds) (suc i) d n there = own_there width total (before ++ x ∷ []) ds i d n.1 there

rows_fit : (width : Width) (d : Directory) → IsOwn width d → list_all row_fits_types (own_rows d) ≡ true
rows_fit width d h =
    and_from _ _ (and_from (list_all are_bytes d.path) (fits_types d.rec) h.sound.bytes (record_fits width Dir d.rec h.rec))
    (list_all-map row_fits_types (entry_row d.path) d.entries ∙ each_entry width (λ (e : Entry). row_fits_types (entry_row d.path e)) d.path (λ before e n.
    and_from (list_all are_bytes (d.path ++ e.name ∷ [])) (fits_types e.rec) (list_all-append are_bytes d.path (e.name ∷ []) ∙ and_from _ _ h.sound.bytes (and_from _ _ n.below.bytes refl)) (record_fits width e.rec.meta.kind e.rec n.rec)) [] d.entries h.entries)

rows_short : (width : Width) (d : Directory) → IsOwn width d → list_all is_short (own_rows d) ≡ true
rows_short width d h =
    and_from _ _ (ap not h.sound.short)
    (list_all-map is_short (entry_row d.path) d.entries ∙ each_entry width (λ (e : Entry). is_short (entry_row d.path e)) d.path (λ before e n. ap not n.below.short) [] d.entries h.entries)

entries_of : (width : Width) (tree : List Directory) (d : Directory) → IsOwn width d → list_all (λ (e : Entry). not (has_dir tree (d.path ++ e.name ∷ []))) d.entries ≡ true → list_all (is_entry_of tree d.path) d.entries ≡ true
entries_of width tree d h apart = all_from (is_entry_of tree d.path) d.entries (λ i e there.
    let own = each_entry width (λ (v : Entry). not (is_dir v.rec.meta.kind) && is_well_formed v.rec && is_name v.name) d.path (λ before v n. and_from _ _ (and_from _ _ (ap not n.apart) (record_sound width v.rec.meta.kind v.rec n.rec)) n.below.named) [] d.entries h.entries in
    and_from (not (is_dir e.rec.meta.kind) && is_well_formed e.rec && is_name e.name) (not (has_dir tree (d.path ++ e.name ∷ [])))
    (all_there (λ (v : Entry). not (is_dir v.rec.meta.kind) && is_well_formed v.rec && is_name v.name) d.entries i e own there)
    (all_there (λ (v : Entry). not (has_dir tree (d.path ++ v.name ∷ []))) d.entries i e apart there))

directory_of : (width : Width) (tree : List Directory) (i : ℕ) (d : Directory) → HasTreeShape tree → slice_get tree i ≡ Some d → IsOwn width d → is_directory_of tree d ≡ true
directory_of width tree i d shape there h =
    let parent = all_there (λ (v : Directory). has_dir tree (parent_path v.path)) tree i d shape.parents there in
    let up = all_there (λ (v : Directory). ascends entry_cmp v.entries) tree i d shape.entries there in
    let apart = all_there (λ (v : Directory). list_all (λ (e : Entry). not (has_dir tree (v.path ++ e.name ∷ []))) v.entries) tree i d shape.apart there in
    and_from _ _ (and_from _ _ (and_from _ _ (and_from _ _ (and_from _ _ (ap is_dir h.rec.meta.kind) (record_sound width Dir d.rec h.rec)) h.sound.named) parent) up) (entries_of width tree d h apart)

pub all_read : (tree : List Directory) (limit : ℕ) → AreAll tree limit → IsWritable tree limit
all_read tree limit h =
    let width = width_of tree in
    let front = next_front width _ [] tree (directories_none 0).front h.next in
    let shape = shape_from tree front h.some in
    let own = λ (i : ℕ) (d : Directory) (there : slice_get tree i ≡ Some d). own_there width _ [] tree i d h.next there in
    let small = or_from (ltb max_dirs (length tree)) _ (le-ltb max_dirs (length tree) h.few) (le-ltb max_entries _ h.entries) in
    record {
      sound = and_from _ _ (and_from _ _ (and_from _ _ shape.root shape.order) (all_from (is_directory_of tree) tree (λ i d there. directory_of width tree i d shape there (own i d there))))
          (rows_from row_fits_types tree (λ i d there. rows_fit width d (own i d there)));
      few = ap not small;
      short = rows_from is_short tree (λ i d there. rows_short width d (own i d there));
      fits = h.limit_fits;
    }
