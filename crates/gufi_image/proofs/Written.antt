-- The parts of an image as they are written.
use Rattle.std.proofs.Common.{◌≡◌, ℕ, zero, suc, ◌+◌, ◌<◌, ◌≤◌, ◌^◌, ◌-◌, Bool, true, false, not, ◌&&◌, ◌||◌, cond, eqb, leb, List, [], ◌∷◌, ◌++◌, length, take, get_or, Option, Some, None, refl, sym, ap, ◌∙◌, arith, length-append}
use Rattle.std.specs.Prelude.{bytes_eq, unwrap_or, option_map}
use Rattle.std.specs.List.{flat_map, list_all}
use Rattle.std.proofs.lemmas.Bool.{and_parts, false≢true, leb-true, ne_eqb}
use Rattle.std.proofs.lemmas.List.{append-nil, length-map, take_more}
use Rattle.std.proofs.lemmas.List.Concat.{flat_map-append}
use Rattle.std.proofs.lemmas.List.Sums.{sum_by_more, sum_by_more_le, sum_by-cons}
use Rattle.gufi_base.specs.declared.record.Rec.{Rec}
use Rattle.gufi_base.specs.Basics.{is_empty, last_of}
use Rattle.gufi_base.specs.Names.{is_name, is_name_byte, dot, dot_dot}
use Rattle.gufi_base.specs.Limits.{max_name}
use Rattle.gufi_base.specs.Paths.{Components, parent_path, base_name}
use Rattle.gufi_base.specs.PathTexts.{kept_text, closed_names}
use Rattle.gufi_base.proofs.Texts.{last_named}
use Rattle.gufi_tree.specs.declared.tree.Entry.{Entry}
use Rattle.gufi_tree.specs.Tree.{Directory, own_rows, entry_row, entry_count, place_of, HasTreeShape}
use Rattle.gufi_tree.specs.Places.{dir_id, path_at, parent_id}
use Rattle.gufi_tree.proofs.Linked.{root_first}
use Rattle.gufi_roll.specs.CanRoll.{can_roll}
use Rattle.gufi_image.specs.declared.width.Width.{Width}
use Rattle.gufi_image.specs.Image.{entry_image, entries_image, parent_number, parts_image, directory_image, directories_image}

-- the last name of a path, by its kept text
pub no_last_name : (path : Components) → length (kept_text path) ≤ 1 → [] ≡ last_of [] path
no_last_name [] short = refl
no_last_name (name ∷ path) short =
    let e : length (kept_text (name ∷ path)) ≡ suc (length ((name ++ 47 ∷ []) ++ closed_names path)) = refl in
    absurd (omega (arith, short, e, length-append (name ++ 47 ∷ []) (closed_names path), length-append name (47 ∷ [])))

pub some_last_name : (path : Components) → 1 < length (kept_text path) → base_name path ≡ last_of [] path
some_last_name [] long = absurd (omega (arith, long))
some_last_name (name ∷ path) long = refl

pub short_last_name : (path : Components) → list_all is_name path ≡ true → 1 < length (kept_text path) → length (base_name path) < 256
short_last_name [] named long = absurd (omega (arith, long))
short_last_name (name ∷ path) named long =
    let own = last_named (47 ∷ []) name path named in
    let n = base_name (name ∷ path) in
    let some = not (is_empty n) in
    let few = leb (length n) max_name in
    let bytes = list_all is_name_byte n in
    let front = (and_parts (some && few && bytes) (not (bytes_eq n dot || bytes_eq n dot_dot)) own).0 in
    let short : length n ≤ 255 = leb-true (length n) max_name (and_parts some few (and_parts (some && few) bytes front).0).1 in
    omega (arith, short)

-- the parent of a directory that isn't the root
none_is : (o : Option ℕ) → option_map dir_id o ≡ None → o ≡ None
none_is None e = refl
none_is (Some k) e = let no : Some (dir_id k) ≡ None = e in absurd cc

pub no_parent : (tree : List Directory) (k : ℕ) → HasTreeShape tree → is_empty (path_at tree k) ≡ false → parent_id tree k ≡ None → 0 ≡ parent_number tree (path_at tree k)
no_parent tree zero shape other e = absurd (false≢true (sym other ∙ ap (λ (p : Components). is_empty p) (root_first tree shape.order shape.root)))
no_parent tree (suc k) shape other e =
    let place = place_of tree (parent_path (path_at tree (suc k))) in
    let some : eqb (suc k) 0 ≡ false = ne_eqb (suc k) 0 (λ z. absurd (omega (arith, z))) in
    let none = none_is place (sym (ap (λ b. cond b None (option_map dir_id place)) some) ∙ e) in
    sym (ap (λ b. cond b (2 ^ 32 - 1) (unwrap_or place 0)) other ∙ ap (λ (o : Option ℕ). unwrap_or o 0) none)

-- a directory with the parts that are seen at a place
pub directory_there : (tree : List Directory) (i : ℕ) (d : Directory) → i < length tree → path_at tree i ≡ (get_or tree i d).path
directory_there [] i d lt = absurd (omega (arith, lt))
directory_there (x ∷ tree) zero d lt = refl
directory_there (x ∷ tree) (suc i) d lt = directory_there tree i d (omega (arith, lt))

-- one directory more
pub directories_more : (width : Width) (tree : List Directory) (limit i parent : ℕ) (flag : Bool) (path : Components) (rec : Rec) (es : List Entry)
    → parent ≡ parent_number tree (path_at tree i) → flag ≡ can_roll tree limit (path_at tree i) → path ≡ path_at tree i
    → ((d : Directory) → rec ≡ (get_or tree i d).rec) → ((d : Directory) → es ≡ (get_or tree i d).entries) → i < length tree
    → directories_image width tree limit (take (i + 1) tree) ≡ directories_image width tree limit (take i tree) ++ parts_image width parent flag path rec es
directories_more width tree limit i parent flag path rec es n f p r e lt =
    let d : Directory = record { path = path; rec = rec; entries = es } in
    let here = get_or tree i d in
    let at : path ≡ here.path = p ∙ directory_there tree i d lt in
    let own : directory_image width tree limit here ≡ parts_image width parent flag path rec es =
    ap (λ (q : Components). parts_image width (parent_number tree q) (can_roll tree limit q) q here.rec here.entries) (sym at)
    ∙ ap (λ (v : Rec). parts_image width (parent_number tree path) (can_roll tree limit path) path v here.entries) (sym (r d))
    ∙ ap (λ (v : List Entry). parts_image width (parent_number tree path) (can_roll tree limit path) path rec v) (sym (e d))
    ∙ ap (λ (q : Components). parts_image width (parent_number tree q) (can_roll tree limit path) path rec es) p
    ∙ ap (λ k. parts_image width k (can_roll tree limit path) path rec es) (sym n)
    ∙ ap (λ (q : Components). parts_image width parent (can_roll tree limit q) path rec es) p
    ∙ ap (λ b. parts_image width parent b path rec es) (sym f)
    in
    ap (directories_image width tree limit) (take_more tree i d lt)
    ∙ flat_map-append (directory_image width tree limit) (take i tree) (here ∷ [])
    ∙ ap (λ (t : List ℕ). directories_image width tree limit (take i tree) ++ t) (append-nil (directory_image width tree limit here) ∙ own)

-- one entry more
pub entries_more : (width : Width) (es : List Entry) (i : ℕ) (e : Entry) → ((d : Entry) → e ≡ get_or es i d) → i < length es → entries_image width (take (i + 1) es) ≡ entries_image width (take i es) ++ entry_image width e
entries_more width es i e is lt =
    ap (λ (xs : List Entry). entries_image width xs) (take_more es i e lt ∙ ap (λ (x : Entry). take i es ++ x ∷ []) (sym (is e)))
    ∙ flat_map-append (entry_image width) (take i es) (e ∷ [])
    ∙ ap (λ (t : List ℕ). entries_image width (take i es) ++ t) (append-nil (entry_image width e))

-- entries are counted
pub count_below : (tree : List Directory) → entry_count tree ≤ length (flat_map own_rows tree)
count_below [] = omega arith
count_below (d ∷ tree) =
    omega (arith, count_below tree, sum_by-cons (λ (x : Directory). length x.entries) d tree, length-append (own_rows d) (flat_map own_rows tree), length-map d.entries (entry_row d.path))

pub count_more : (tree : List Directory) (i : ℕ) (es : List Entry) → i < length tree → ((d : Directory) → es ≡ (get_or tree i d).entries) → entry_count (take (i + 1) tree) ≡ entry_count (take i tree) + length es
count_more [] i es lt e = absurd (omega (arith, lt))
count_more (x ∷ tree) i es lt e = sum_by_more (λ (v : Directory). length v.entries) (x ∷ tree) i x lt ∙ ap (λ (v : List Entry). entry_count (take i (x ∷ tree)) + length v) (sym (e x))

pub count_fits : (tree : List Directory) (i : ℕ) (es : List Entry) → i < length tree → ((d : Directory) → es ≡ (get_or tree i d).entries) → entry_count (take i tree) + length es ≤ length (flat_map own_rows tree)
count_fits [] i es lt e = absurd (omega (arith, lt))
count_fits (x ∷ tree) i es lt e =
    omega (arith, sum_by_more_le (λ (v : Directory). length v.entries) (x ∷ tree) i x lt, count_below (x ∷ tree), ap (λ (v : List Entry). length v) (e x))
