-- What is known of each line that is read.
use Rattle.std.proofs.Common.{◌≡◌, ◌≢◌, ℕ, ◌+◌, ◌≤◌, Bool, true, false, not, ◌||◌, cond, List, [], ◌∷◌, ◌++◌, length, drop, reverse, refl, sym, ap, ◌∙◌, subst, arith, length-append, ⊎_elim, inl, inr}
use Rattle.std.specs.Prelude.{Option, Some, None, Result, Ok, Err, nat_lt, ◌==◌}
use Rattle.std.specs.Result.{is_err, result_unwrap_or}
use Rattle.std.specs.List.{AllByRecursion, list_all, list_any}
use Rattle.std.proofs.lemmas.Bool.{and_parts, and_from, or_parts, not_from_false, not_from_true, cases_Bool, ltb-false, le-leb}
use Rattle.std.proofs.lemmas.List.Folds.{list_all-append}
use Rattle.std.proofs.lemmas.List.Sorted.{IsPermutation-reverse, IsPermutation-sym}
use Rattle.std.proofs.Math.Seq.{drop-append_seam}
use Rattle.gufi_base.specs.declared.record.Line.{Line}
use Rattle.gufi_base.specs.declared.record.Meta.{Meta}
use Rattle.gufi_base.specs.declared.path.PathFault.{PathFault}
use Rattle.gufi_base.specs.Limits.{max_dirs, max_entries, max_link, max_path, max_components}
use Rattle.gufi_base.specs.Basics.{split, part_at, result_map_err}
use Rattle.gufi_base.proofs.Parts.{has_no}
use Rattle.gufi_base.specs.Names.{is_name}
use Rattle.gufi_base.specs.Paths.{Components, read_path, is_prefix, path_text}
use Rattle.gufi_base.specs.Rows.{are_bytes, row_fits_types}
use Rattle.gufi_tree.specs.Tree.{is_well_formed}
use Rattle.gufi_tree.specs.Build.{is_dir_line}
use Rattle.gufi_tree.specs.Gathered.{row_of_line}
use Rattle.gufi_tree.proofs.Built.{Has}
use Rattle.gufi_tree.proofs.Flat.{is_prefix-rest}
use Rattle.gufi_tree.proofs.RowHomes.{Has-IsPermutation}
use Rattle.gufi_line.specs.declared.fault.TraceKind.{TraceKind}
use Rattle.gufi_line.specs.declared.fault.TraceKind.TheVariants.{BadPath, LongName, NotUnderRoot, Short}
use Rattle.gufi_line.specs.LineText.{is_bad_path, read_line, read_lines, fault_at}
use Rattle.gufi_acl.specs.AclTexts.{IsReadAcl}
use Rattle.gufi_line.specs.AttributeField.{xattrs_of}
use Rattle.gufi_line.specs.AclField.{acl_field}
use Rattle.gufi_line.specs.Fields.{Texts, fields_of, fields_in}
use Rattle.gufi_line.specs.Lines.{path_with_link, meta_in, dirs_of, entries_of, place_fault, unless_fault, below_root, line_in}
use Rattle.gufi_line.proofs.AttributeNames.{AreReadNames, names_read}
use Rattle.gufi_line.proofs.AclFields.{acl_read}
use Rattle.gufi_line.proofs.Counts.{dir_room, entry_room, count_yes, count_no, count_reversed}
use Rattle.gufi_line.proofs.LineIs.{line_is}
use Rattle.gufi_line.proofs.PathsRead.{size, slashed_size, split_all, at_all, path_bytes, path_read, IsReadPath}
use Rattle.gufi_line.proofs.MetaRead.{bound, passed, some_given, map_err_ok, IsReadMeta, meta_read}

-- ---- the fields

some_same : (x y : Texts) → Some x ≡ Some y → x ≡ y
some_same x y e = cc

-- what holds of all parts and of nothing holds of three fields
fields_hold : (q : List ℕ → Bool) → q [] ≡ true → (parts : List (List ℕ)) (f : Texts) → fields_of parts ≡ Some f → list_all q parts ≡ true → (q f.path ≡ true) × (q f.link ≡ true) × (q f.xattrs ≡ true)
unfolding fields_of
fields_hold q none [] f e h = absurd cc
fields_hold q none (a ∷ []) f e h = absurd cc
fields_hold q none (a ∷ b ∷ []) f e h = absurd cc
fields_hold q none (a ∷ b ∷ c ∷ []) f e h = absurd cc
fields_hold q none (a ∷ b ∷ c ∷ d ∷ []) f e h = absurd cc
fields_hold q none (a ∷ b ∷ c ∷ d ∷ g ∷ []) f e h = absurd cc
fields_hold q none (a ∷ b ∷ c ∷ d ∷ g ∷ i ∷ []) f e h = absurd cc
fields_hold q none (a ∷ b ∷ c ∷ d ∷ g ∷ i ∷ j ∷ []) f e h = absurd cc
fields_hold q none (a ∷ b ∷ c ∷ d ∷ g ∷ i ∷ j ∷ k ∷ []) f e h = absurd cc
fields_hold q none (a ∷ b ∷ c ∷ d ∷ g ∷ i ∷ j ∷ k ∷ l ∷ []) f e h = absurd cc
fields_hold q none (a ∷ b ∷ c ∷ d ∷ g ∷ i ∷ j ∷ k ∷ l ∷ m ∷ []) f e h = absurd cc
fields_hold q none (a ∷ b ∷ c ∷ d ∷ g ∷ i ∷ j ∷ k ∷ l ∷ m ∷ n ∷ []) f e h = absurd cc
fields_hold q none (a ∷ b ∷ c ∷ d ∷ g ∷ i ∷ j ∷ k ∷ l ∷ m ∷ n ∷ o ∷ []) f e h = absurd cc
fields_hold q none (a ∷ b ∷ c ∷ d ∷ g ∷ i ∷ j ∷ k ∷ l ∷ m ∷ n ∷ o ∷ p ∷ []) f e h = absurd cc
fields_hold q none (a ∷ b ∷ c ∷ d ∷ g ∷ i ∷ j ∷ k ∷ l ∷ m ∷ n ∷ o ∷ p ∷ r ∷ more) f e h =
    let parts : List (List ℕ) = a ∷ b ∷ c ∷ d ∷ g ∷ i ∷ j ∷ k ∷ l ∷ m ∷ n ∷ o ∷ p ∷ r ∷ more in
    let own : (q a ≡ true) × (q r ≡ true) × (q (part_at more 1) ≡ true) = (at_all q parts 0 [] h none, at_all q parts 13 [] h none, at_all q parts 14 [] h none) in
    subst (λ (v : Texts). (q v.path ≡ true) × (q v.link ≡ true) × (q v.xattrs ≡ true)) (some_same _ f e) own

-- ---- a path and a link

record IsReadLink (link : List ℕ) : Type 0 where
  short : length link ≤ max_link
  no_zero : list_any (λ b. b == 0) link ≡ false

read_whole : (r : Result Components PathFault) → is_err r ≡ false → (p : Components) → result_unwrap_or r [] ≡ p → r ≡ Ok p
read_whole (Ok q) e p h = ap (λ x. Ok x) h
read_whole (Err w) e p h = absurd cc

path_linked : (r : Result Components PathFault) (link : List ℕ) (path : Components) → path_with_link r link ≡ Ok path → (r ≡ Ok path) × IsReadLink link
path_linked r link path e =
    let first = passed (is_bad_path r || list_any (λ b. b == 0) link) BadPath _ path e in
    let second = passed (is_err r || nat_lt max_link (length link)) LongName _ path first.1 in
    let bad = or_parts (is_bad_path r) (list_any (λ b. b == 0) link) first.0 in
    let long = or_parts (is_err r) (nat_lt max_link (length link)) second.0 in
    let same : result_unwrap_or r [] ≡ path = cc (second.1) in
    (read_whole r long.0 path same, record { short = ltb-false _ _ long.1; no_zero = bad.1 })

-- ---- a line

-- a text without newlines, of bytes
pub record IsLineText (text : List ℕ) : Type 0 where
  pub bytes : are_bytes text ≡ true
  pub whole : has_no 10 text ≡ true

pub record IsReadLine (root : Components) (line : Line) : Type 0 where
  pub named : list_all is_name line.path ≡ true
  pub sound : is_well_formed line.rec ≡ true
  pub fits : row_fits_types (row_of_line line) ≡ true
  pub few : length line.path ≤ max_components
  pub close : length (path_text line.path) ≤ max_path + 1
  pub short : root ≢ [] → length (path_text line.path) ≤ max_path

-- a line at its place behind others
record IsNextLine (root : Components) (earlier : List Line) (line : Line) : Type 0 where
  sound : IsReadLine root line
  place : place_fault earlier line.rec.meta.kind line.path ≡ None

below_parts : (b : Bool) (n : ℕ) (path below : Components) → cond b (Ok (drop n path)) (Err NotUnderRoot) ≡ Ok below → (b ≡ true) × (drop n path ≡ below)
below_parts true n path below e = (refl, cc)
below_parts false n path below e = absurd cc

no_fault : (o : Option TraceKind) (x y : Line) → unless_fault o x ≡ Ok y → (o ≡ None) × (x ≡ y)
no_fault None x y e = (refl, cc)
no_fault (Some kind) x y e = absurd cc

text_size : (path : Components) (n : ℕ) → size path ≤ n → 1 ≤ n → length (path_text path) ≤ n
text_size [] n h k = k
text_size (name ∷ path) n h k = let e = slashed_size (name ∷ path) in omega arith

size-append : (p q : Components) → size (p ++ q) ≡ size p + size q
size-append [] q = omega arith
size-append (name ∷ p) q = let rest = size-append p q in omega arith

some_size : (root : Components) → root ≢ [] → 1 ≤ size root
some_size [] some = absurd (some refl)
some_size (name ∷ root) some = omega arith

-- a path below the root
below_read : (bytes : List ℕ) (root below : Components) (meta : Meta) (link names acl : List ℕ) (n : ℕ) → IsReadPath bytes (root ++ below) → are_bytes bytes ≡ true → IsReadMeta meta → IsReadLink link → are_bytes link ≡ true → has_no 10 link ≡ true → AreReadNames names → IsReadAcl acl
    → IsReadLine root (record { number = n; path = below; rec = record { meta = meta; link = link; xattrs = names; acl = acl } })
below_read bytes root below meta link attributes acl n path bytes_fit m l link_fits link_open x a =
    let named = and_parts (list_all is_name root) (list_all is_name below) (sym (list_all-append is_name root below) ∙ path.named) in
    let fits = and_parts (list_all are_bytes root) (list_all are_bytes below) (sym (list_all-append are_bytes root below) ∙ path.fits bytes_fit) in
    let names = length-append root below in
    let whole = size-append root below in
    let few = path.few in
    let close = path.close in
    record {
      named = named.1;
      sound = and_from _ _ (and_from _ _ (and_from _ _ (and_from _ _ m.mode (le-leb _ _ l.short)) (path_bytes link l.no_zero link_open)) x.sound) a.sound;
      fits = and_from _ _ fits.1 (m.fits link attributes acl link_fits x.bytes a.bytes);
      few = omega arith;
      close = text_size below (max_path + 1) (omega arith) (omega arith);
      short = λ some. let room = some_size root some in text_size below max_path (omega arith) (omega arith);
    }

line_read : (delim : ℕ) (root : Components) (earlier : List Line) (text : List ℕ) (line : Line) → IsLineText text → read_line delim root earlier text ≡ Ok line → IsNextLine root earlier line
unfolding line_in
line_read delim root earlier text line t e =
    let fields = bound (fields_in delim text) (line_in root earlier) line (sym (line_is delim root earlier text) ∙ e) in
    let f = fields.0 in
    let given = some_given (fields_of (split delim text)) Short f fields.1 in
    let fit = fields_hold are_bytes refl (split delim text) f given (split_all (λ b. nat_lt b 256) delim text t.bytes) in
    let whole_fields = fields_hold (has_no 10) refl (split delim text) f given (split_all (λ b. not (b == 10)) delim text t.whole) in
    let path = bound (path_with_link (read_path f.path) f.link) _ line fields.2 in
    let meta = bound (meta_in f) _ line path.2 in
    let names = bound (xattrs_of f.xattrs) _ line meta.2 in
    let acl = bound (acl_field f.acl) _ line names.2 in
    let below = bound (below_root root path.0) _ line acl.2 in
    let linked = path_linked (read_path f.path) f.link path.0 path.1 in
    let under = below_parts (is_prefix root path.0) (length root) path.0 below.0 below.1 in
    let rest = is_prefix-rest root path.0 under.0 in
    let same : rest.0 ≡ below.0 = sym (drop-append_seam root rest.0) ∙ ap (drop (length root)) (sym rest.1) ∙ under.1 in
    let whole : path.0 ≡ root ++ below.0 = rest.1 ∙ ap (λ (p : Components). root ++ p) same in
    let placed = no_fault (place_fault earlier meta.0.kind below.0) (record { number = length earlier + 1; path = below.0; rec = record { meta = meta.0; link = f.link; xattrs = names.0; acl = acl.0 } }) line below.2 in
    subst (IsNextLine root earlier) placed.1 (record {
      sound = below_read f.path root below.0 meta.0 f.link names.0 acl.0 (length earlier + 1) (subst (IsReadPath f.path) whole (path_read f.path path.0 linked.0)) fit.0 (meta_read f meta.0 meta.1) linked.1 fit.1 whole_fields.1 (names_read f.xattrs names.0 names.1 fit.2 whole_fields.2) (acl_read f.acl acl.0 acl.1);
      place = placed.0;
    })

-- ---- all lines

pub record AreReadLines (root : Components) (lines : List Line) : Type 0 where
  pub each : (line : Line) → Has lines line → IsReadLine root line
  pub dirs : dirs_of lines ≤ max_dirs
  pub entries : entries_of lines ≤ max_entries

reversed_lines : (root : Components) (lines : List Line) → AreReadLines root lines → AreReadLines root (reverse lines)
reversed_lines root lines h =
    let d = h.dirs in
    let n = h.entries in
    let a = count_reversed is_dir_line lines in
    let b = count_reversed (λ line. not (is_dir_line line)) lines in
    record {
      each = λ line k. h.each line (Has-IsPermutation line (reverse lines) lines (IsPermutation-sym _ _ (IsPermutation-reverse lines)) k);
      dirs = omega arith;
      entries = omega arith;
    }

next_lines : (root : Components) (earlier : List Line) (line : Line) → AreReadLines root earlier → IsNextLine root earlier line → AreReadLines root (line ∷ earlier)
next_lines root earlier line h n = record { each = each; dirs = counted.0; entries = counted.1 } where
  each : (l : Line) → Has (line ∷ earlier) l → IsReadLine root l
  each l (inl e) = subst (IsReadLine root) e n.sound
  each l (inr k) = h.each l k

  counted : (dirs_of (line ∷ earlier) ≤ max_dirs) × (entries_of (line ∷ earlier) ≤ max_entries)
  counted = ⊎_elim dir entry (cases_Bool (is_dir_line line)) where
    dir : is_dir_line line ≡ true → (dirs_of (line ∷ earlier) ≤ max_dirs) × (entries_of (line ∷ earlier) ≤ max_entries)
    dir e =
        let room = dir_room earlier line.rec.meta.kind line.path n.place e in
        let more = count_yes is_dir_line line earlier e in
        let same = count_no (λ l. not (is_dir_line l)) line earlier (not_from_true _ e) in
        let few = h.entries in
        (omega arith, omega arith)

    entry : is_dir_line line ≡ false → (dirs_of (line ∷ earlier) ≤ max_dirs) × (entries_of (line ∷ earlier) ≤ max_entries)
    entry e =
        let room = (entry_room earlier line.rec.meta.kind line.path n.place e).1 in
        let same = count_no is_dir_line line earlier e in
        let more = count_yes (λ l. not (is_dir_line l)) line earlier (not_from_false _ e) in
        let few = h.dirs in
        (omega arith, omega arith)

pub lines_read : (delim : ℕ) (root : Components) (texts : List (List ℕ)) (earlier lines : List Line) → AllByRecursion IsLineText texts → AreReadLines root earlier → read_lines delim root earlier texts ≡ Ok lines → AreReadLines root lines
unfolding read_lines
lines_read delim root [] earlier lines t h e =
    let same : reverse earlier ≡ lines = cc in
    subst (AreReadLines root) same (reversed_lines root earlier h)
lines_read delim root (text ∷ texts) earlier lines t h e =
    let w = bound (result_map_err (fault_at (length earlier + 1)) (read_line delim root earlier text)) _ lines e in
    let line = line_read delim root earlier text w.0 t.0 (map_err_ok _ (read_line delim root earlier text) w.0 w.1) in
    lines_read delim root texts (w.0 ∷ earlier) lines t.1 (next_lines root earlier w.0 h line) w.2
