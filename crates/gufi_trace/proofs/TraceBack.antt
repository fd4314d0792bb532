-- What is written is read again to the same tree.
use Rattle.std.proofs.Common.{◌≡◌, ℕ, Bool, true, false, ◌&&◌, ◌||◌, ltb, List, [], ◌∷◌, ◌++◌, length, map, reverse, refl, sym, ap, ◌∙◌, arith}
use Rattle.std.specs.Prelude.{Result, Ok}
use Rattle.std.specs.List.{AllByRecursion, list_all, list_any, flat_map, join_with_byte}
use Rattle.std.proofs.lemmas.Bool.{and_parts, and_from, or_parts, or_from, ltb-false, not-true, false≢true}
use Rattle.std.specs.Result.{result_unwrap_or}
use Rattle.std.proofs.lemmas.List.{append-nil}
use Rattle.std.proofs.lemmas.List.Concat.{flat_map-append}
use Rattle.std.proofs.lemmas.List.Folds.{list_all-append, list_any-append, flat_map-map}
use Rattle.gufi_base.specs.declared.record.Line.{Line}
use Rattle.gufi_base.specs.declared.record.Row.{Row}
use Rattle.gufi_base.specs.Basics.{part_at, ◌>>◌, refuse, result_map_err}
use Rattle.gufi_base.specs.declared.path.PathFault.{PathFault}
use Rattle.gufi_base.specs.Limits.{max_dirs, max_entries}
use Rattle.gufi_base.specs.Names.{is_name}
use Rattle.gufi_base.specs.Paths.{Components, is_too_long, path_text, read_path}
use Rattle.gufi_base.specs.Rows.{fits_types, are_bytes, row_fits_types}
use Rattle.gufi_line.specs.TraceRows.{row_fields, row_line}
use Rattle.gufi_base.specs.Delimiters.{may_delimit}
use Rattle.gufi_base.proofs.Parts.{closed_by, front_closed, last_closed}
use Rattle.gufi_tree.specs.Tree.{Directory, own_rows, dir_row, entry_row, is_tree, entry_count, is_well_formed, is_directory_of}
use Rattle.gufi_trace.specs.declared.writer.WriteTraceFault.TheVariants.{DelimUsed, TooLong}
use Rattle.gufi_line.specs.LineText.{root_of, read_lines}
use Rattle.gufi_trace.specs.TraceText.{whole_lines, cut_line, lines_so_far, trace_lines, trace_means, of_tree}
use Rattle.gufi_line.specs.TraceRows.{holds_byte, rec_holds, row_holds}
use Rattle.gufi_trace.specs.TraceWriting.{trace_text, TraceReadsBack}
use Rattle.gufi_line.proofs.FieldsBack.{split_joined}
use Rattle.gufi_line.proofs.PathsBack.{read_path-path_text}
use Rattle.gufi_line.proofs.LinesBack.{IsWritable, are_fields}
use Rattle.gufi_trace.proofs.RowsBack.{texts_of, taken, lines_back, rows-taken, texts_open, tree_placed}
use Rattle.gufi_trace.proofs.TreeBack.{TreeParts, tree_parts, directory_parts, list_all_weaken, all_own, all_entries, kinds_of, root_first, tree_back}

-- what was written, and that nothing refused it
written_parts : (a b : Bool) (t text : List ℕ) → (refuse a DelimUsed >> refuse b TooLong >> Ok t) ≡ Ok text → (a ≡ false) × (b ≡ false) × (t ≡ text)
written_parts true b t text e = absurd cc
written_parts false true t text e = absurd cc
written_parts false false t text e = (refl, refl, cc)

-- a row with a sound path and record
abbrev is_sound : Row → Bool
is_sound row = list_all is_name row.path && is_well_formed row.rec

sound_rows : (tree : List Directory) → TreeParts tree → list_all is_sound (flat_map own_rows tree) ≡ true
sound_rows tree t =
    all_own is_sound tree (list_all_weaken (is_directory_of tree) (λ d. list_all is_sound (own_rows d)) (λ d h.
    let own = directory_parts tree d h in
    and_from _ _ (and_from _ _ own.named own.sound)
    (all_entries is_sound d.path tree d.entries (λ e parts. and_from _ _ (list_all-append is_name d.path (e.name ∷ []) ∙ and_from _ _ own.named (and_from _ _ parts.named refl)) parts.sound) own.entries)) tree t.each)

writable : (root : Components) (delim : ℕ) → list_all is_name root ≡ true → list_any (holds_byte delim) root ≡ false → (rows : List Row) → list_any (row_holds delim) rows ≡ false → list_any (λ row. is_too_long (root ++ row.path)) rows ≡ false
    → list_all row_fits_types rows ≡ true → list_all is_sound rows ≡ true → AllByRecursion (IsWritable root delim) rows
writable root delim named apart [] holds long fits sound = tt
writable root delim named apart (row ∷ rows) holds long fits sound =
    let h = or_parts (row_holds delim row) (list_any (row_holds delim) rows) holds in
    let own = or_parts (list_any (holds_byte delim) row.path) (rec_holds delim row.rec) h.0 in
    let l = or_parts (is_too_long (root ++ row.path)) (list_any (λ (r : Row). is_too_long (root ++ r.path)) rows) long in
    let f = and_parts (row_fits_types row) (list_all row_fits_types rows) fits in
    let s = and_parts (is_sound row) (list_all is_sound rows) sound in
    let parts = and_parts (list_all is_name row.path) (is_well_formed row.rec) s.0 in (
      record {
        named = list_all-append is_name root row.path ∙ and_from _ _ named parts.0;
        apart = list_any-append (holds_byte delim) root row.path ∙ or_from _ _ apart own.0;
        short = l.0;
        rec_apart = own.1;
        sound = parts.1;
        fits = (and_parts (list_all are_bytes row.path) (fits_types row.rec) f.0).1;
      },
      writable root delim named apart rows h.1 l.1 f.1 s.1,
    )

-- the text is the rows' lines, each closed by a newline
text_rows : (tree : List Directory) (root : Components) (delim : ℕ) → trace_text tree root delim ≡ closed_by 10 (texts_of root delim (flat_map own_rows tree))
text_rows tree root delim = by tree ∙ sym (flat_map-map (λ (part : List ℕ). part ++ 10 ∷ []) (λ row. join_with_byte delim (row_fields root row)) (flat_map own_rows tree))
  where
    by : (ds : List Directory) → flat_map (λ d. flat_map (row_line delim root) (own_rows d)) ds ≡ flat_map (row_line delim root) (flat_map own_rows ds)
    by [] = refl
    by (d ∷ ds) = ap (λ (t : List ℕ). flat_map (row_line delim root) (own_rows d) ++ t) (by ds) ∙ sym (flat_map-append (row_line delim root) (own_rows d) (flat_map own_rows ds))

-- the root is that of the first line
pub root_back : (root : Components) (delim : ℕ) (row : Row) (rows : List Row) → may_delimit delim ≡ true → row.path ≡ [] → IsWritable root delim row → root_of delim (texts_of root delim (row ∷ rows)) ≡ root
root_back root delim row rows may first h =
    ap (λ (parts : List (List ℕ)). result_unwrap_or (read_path (part_at parts 1)) []) (split_joined delim (path_text (root ++ row.path)) _ (are_fields root delim row may h))
    ∙ ap (λ (r : Result Components PathFault). result_unwrap_or r []) (read_path-path_text (root ++ row.path) h.named h.short)
    ∙ ap (λ (p : Components). root ++ p) first ∙ append-nil root

rows_root : (tree : List Directory) (root : Components) (delim : ℕ) → may_delimit delim ≡ true → TreeParts tree → AllByRecursion (IsWritable root delim) (flat_map own_rows tree) → root_of delim (texts_of root delim (flat_map own_rows tree)) ≡ root
rows_root [] root delim may t h = absurd (false≢true t.root)
rows_root (d ∷ ds) root delim may t h = root_back root delim (dir_row d) (map (entry_row d.path) d.entries ++ flat_map own_rows ds) may (root_first d ds t) h.0

-- the lines of the text
pub text_lines_back : (tree : List Directory) (root : Components) (delim : ℕ) (lines : List Line) → may_delimit delim ≡ true → AllByRecursion (IsWritable root delim) (flat_map own_rows tree) → root_of delim (texts_of root delim (flat_map own_rows tree)) ≡ root
    → read_lines delim root [] (texts_of root delim (flat_map own_rows tree)) ≡ Ok lines → trace_lines delim (trace_text tree root delim) ≡ Ok lines
unfolding trace_lines
text_lines_back tree root delim lines may h is read =
    let texts = texts_of root delim (flat_map own_rows tree) in
    let no_newline = texts_open root delim may (flat_map own_rows tree) h in
    let text : trace_text tree root delim ≡ closed_by 10 texts ++ [] = text_rows tree root delim ∙ sym (append-nil (closed_by 10 texts)) in
    let whole : whole_lines (trace_text tree root delim) ≡ texts = ap whole_lines text ∙ front_closed 10 texts [] no_newline refl in
    let cut : cut_line (trace_text tree root delim) ≡ [] = ap cut_line text ∙ last_closed 10 texts [] no_newline refl in
    let so_far : lines_so_far delim (trace_text tree root delim) ≡ Ok lines =
    ap (λ (ls : List (List ℕ)). read_lines delim (root_of delim ls) [] ls) whole ∙ ap (λ (r : Components). read_lines delim r [] texts) is ∙ read in
    rw (so_far, cut) refl

pub trace_reads_back : TraceReadsBack
unfolding trace_means
trace_reads_back tree root delim text program small named may written =
    let rows = flat_map own_rows tree in
    let p = and_parts (is_tree tree) (list_all row_fits_types rows) program in
    let t = tree_parts tree p.0 in
    let w = written_parts (list_any (holds_byte delim) root || list_any (row_holds delim) rows) (list_any (λ (row : Row). is_too_long (root ++ row.path)) rows) (trace_text tree root delim) text written in
    let holds = or_parts (list_any (holds_byte delim) root) (list_any (row_holds delim) rows) w.0 in
    let h = writable root delim named holds.0 rows holds.1 w.1 p.1 (sound_rows tree t) in
    let few = or_parts (ltb max_dirs (length tree)) (ltb max_entries (entry_count tree)) (not-true _ small) in
    let dirs = ltb-false max_dirs (length tree) few.0 in
    let entries = ltb-false max_entries (entry_count tree) few.1 in
    let placed = tree_placed tree [] (kinds_of tree t) (omega arith) (omega arith) in
    let lines = reverse (taken [] rows) in
    let read = text_lines_back tree root delim lines may h (rows_root tree root delim may t h) (lines_back root delim may rows [] h placed) in
    rw (← w.2, read) (ap (result_map_err of_tree) (tree_back tree lines t (rows-taken rows [])))
