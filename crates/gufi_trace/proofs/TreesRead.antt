-- The tree that a trace means has sound records, within the limits.
use Rattle.std.proofs.Common.{◌≡◌, ℕ, ◌+◌, Bool, true, false, not, ◌&&◌, List, [], ◌∷◌, ◌++◌, length, map, refl, sym, ◌∙◌, subst, arith, inl, inr, length-append}
use Rattle.std.specs.Prelude.{Ok, nat_lt}
use Rattle.std.specs.List.{AllByRecursion, filter, flat_map, list_all}
use Rattle.std.proofs.lemmas.Bool.{and_parts, and_from, or_from, le-ltb, le-leb, not_from_false}
use Rattle.std.proofs.lemmas.List.{length-map}
use Rattle.std.proofs.lemmas.List.Folds.{list_all-append, list_all-map}
use Rattle.std.proofs.lemmas.List.Sorted.{length_permutation}
use Rattle.std.proofs.lemmas.List.Sums.{length-filter, sum_by-cons}
use Rattle.gufi_base.specs.declared.record.Line.{Line}
use Rattle.gufi_base.specs.declared.record.Row.{Row}
use Rattle.gufi_base.specs.Limits.{max_dirs, max_entries, max_path, max_components}
use Rattle.gufi_base.specs.Names.{is_name}
use Rattle.gufi_base.specs.Kinds.{is_dir}
use Rattle.gufi_base.specs.Basics.{is_empty, ascends, sort_by, split, result_map_err}
use Rattle.gufi_base.specs.Paths.{Components, parent_path, path_text, is_too_long}
use Rattle.gufi_base.specs.Rows.{are_bytes, row_fits_types}
use Rattle.gufi_base.proofs.Parts.{has_no}
use Rattle.gufi_base.proofs.Sorting.{IsPermutation-sort_by}
use Rattle.gufi_tree.specs.declared.tree.Entry.{Entry}
use Rattle.gufi_tree.specs.Tree.{Directory, dir_cmp, entry_cmp, dir_row, entry_row, own_rows, has_dir, is_kinded, entry_count, is_well_formed, is_entry_of, is_directory_of, is_tree, is_too_large, HasTreeShape}
use Rattle.gufi_tree.specs.Build.{is_dir_line, directory_of_line, directories_of_lines, tree_of}
use Rattle.gufi_tree.specs.Gathered.{row_of_line}
use Rattle.gufi_tree.proofs.Built.{Has}
use Rattle.gufi_tree.proofs.Faultless.{IsFaultless}
use Rattle.gufi_tree.proofs.Numbered.{both_counted}
use Rattle.gufi_tree.proofs.Placed.{list_all-IsPermutation, list_all-Has, list_all-from_Has}
use Rattle.gufi_line.specs.Lines.{dirs_of}
use Rattle.gufi_line.specs.LineText.{fault_at}
use Rattle.gufi_trace.specs.TraceText.{whole_lines, cut_line, lines_so_far, trace_lines, trace_means, of_line, of_tree}
use Rattle.gufi_line.specs.declared.fault.TraceKind.TheVariants.{CutLine}
use Rattle.gufi_trace.specs.TraceTrees.{trace_root, is_close, IsTraceTree, TracesMeanSoundTrees}
use Rattle.gufi_trace.proofs.LineTrees.{rows_of_lines, lines_shape, tree_given}
use Rattle.gufi_line.proofs.LinesRead.{IsLineText, IsReadLine, AreReadLines, lines_read}
use Rattle.gufi_line.proofs.MetaRead.{bound, passed, map_err_ok}
use Rattle.gufi_line.proofs.PathsRead.{split_all, split_apart, front_all}

-- ---- rows of a directory

own_all : (q : Row → Bool) (ds : List Directory) (d : Directory) → list_all q (flat_map own_rows ds) ≡ true → Has ds d → list_all q (own_rows d) ≡ true
own_all q [] d h k = absurd k
own_all q (v ∷ ds) d h k =
    let both = and_parts (list_all q (own_rows v)) (list_all q (flat_map own_rows ds)) (sym (list_all-append q (own_rows v) (flat_map own_rows ds)) ∙ h) in
    by k both.0 (own_all q ds d both.1) where
      by : Has (v ∷ ds) d → list_all q (own_rows v) ≡ true → (Has ds d → list_all q (own_rows d) ≡ true) → list_all q (own_rows d) ≡ true
      by (inl e) own rest = subst (λ (c : Directory). list_all q (own_rows c) ≡ true) e own
      by (inr j) own rest = rest j

abbrev is_sound : Row → Bool
is_sound row = list_all is_name row.path && is_well_formed row.rec

module _ (tree : List Directory) (shape : HasTreeShape tree) (sound : list_all is_sound (flat_map own_rows tree) ≡ true) where
  sound_entry : (d : Directory) → Has tree d → (e : Entry) → Has d.entries e → is_entry_of tree d.path e ≡ true
  sound_entry d k e m =
      let kinds = and_parts (is_dir d.rec.meta.kind) (list_all (λ (v : Entry). not (is_dir v.rec.meta.kind)) d.entries) (list_all-Has is_kinded tree d shape.kinds k) in
      let rows = and_parts (is_sound (dir_row d)) (list_all is_sound (map (entry_row d.path) d.entries)) (own_all is_sound tree d sound k) in
      let own = list_all-Has (λ (v : Entry). is_sound (entry_row d.path v)) d.entries e (sym (list_all-map is_sound (entry_row d.path) d.entries) ∙ rows.1) m in
      let both = and_parts (list_all is_name (d.path ++ e.name ∷ [])) (is_well_formed e.rec) own in
      let names = and_parts (list_all is_name d.path) (list_all is_name (e.name ∷ [])) (sym (list_all-append is_name d.path (e.name ∷ [])) ∙ both.0) in
      let apart = list_all-Has (λ (v : Directory). list_all (λ (w : Entry). not (has_dir tree (v.path ++ w.name ∷ []))) v.entries) tree d shape.apart k in
      and_from _ _ (and_from _ _ (and_from _ _ (list_all-Has (λ (v : Entry). not (is_dir v.rec.meta.kind)) d.entries e kinds.1 m) both.1) (and_parts (is_name e.name) true names.1).0)
      (list_all-Has (λ (w : Entry). not (has_dir tree (d.path ++ w.name ∷ []))) d.entries e apart m)

  sound_directory : (d : Directory) → Has tree d → is_directory_of tree d ≡ true
  sound_directory d k =
      let kinds = and_parts (is_dir d.rec.meta.kind) (list_all (λ (v : Entry). not (is_dir v.rec.meta.kind)) d.entries) (list_all-Has is_kinded tree d shape.kinds k) in
      let rows = and_parts (is_sound (dir_row d)) (list_all is_sound (map (entry_row d.path) d.entries)) (own_all is_sound tree d sound k) in
      let own = and_parts (list_all is_name d.path) (is_well_formed d.rec) rows.0 in
      and_from _ _ (and_from _ _ (and_from _ _ (and_from _ _ (and_from _ _ kinds.0 own.1) own.0) (list_all-Has (λ (v : Directory). has_dir tree (parent_path v.path)) tree d shape.parents k))
      (list_all-Has (λ (v : Directory). ascends entry_cmp v.entries) tree d shape.entries k))
      (list_all-from_Has (is_entry_of tree d.path) d.entries (λ e m. sound_entry d k e m))

  sound_tree : is_tree tree ≡ true
  sound_tree = and_from _ _ (and_from _ _ shape.root shape.order) (list_all-from_Has (is_directory_of tree) tree sound_directory)

-- ---- how many there are

rows_counted : (ds : List Directory) → length (flat_map own_rows ds) ≡ length ds + entry_count ds
rows_counted [] = refl
rows_counted (d ∷ ds) =
    let rest = rows_counted ds in
    let whole = length-append (own_rows d) (flat_map own_rows ds) in
    let own = length-map d.entries (entry_row d.path) in
    let count : entry_count (d ∷ ds) ≡ length d.entries + entry_count ds = sum_by-cons (λ (v : Directory). length v.entries) d ds in
    omega arith

module _ (root : Components) (lines : List Line) (sound : IsFaultless lines) (h : AreReadLines root lines) where
  few_dirs : length (directories_of_lines lines) ≡ dirs_of lines
  few_dirs =
      let dirs = filter is_dir_line lines in
      let ds = map (directory_of_line lines) dirs in
      length_permutation ds (sort_by dir_cmp ds) (IsPermutation-sort_by dir_cmp ds) ∙ length-map dirs (directory_of_line lines) ∙ length-filter is_dir_line lines

  small : is_too_large (directories_of_lines lines) ≡ false
  small =
      let tree = directories_of_lines lines in
      let moved = length_permutation (map row_of_line lines) (flat_map own_rows tree) (rows_of_lines lines sound) in
      let rows = length-map lines row_of_line in
      let counted = rows_counted tree in
      let both = both_counted lines in
      let dirs = few_dirs in
      let a = h.dirs in
      let b = h.entries in
      or_from _ _ (le-ltb max_dirs (length tree) (omega arith)) (le-ltb max_entries (entry_count tree) (omega arith))

  rows_all : (q : Row → Bool) → ((line : Line) → IsReadLine root line → q (row_of_line line) ≡ true) → list_all q (flat_map own_rows (directories_of_lines lines)) ≡ true
  rows_all q f =
      sym (list_all-IsPermutation q (map row_of_line lines) (flat_map own_rows (directories_of_lines lines)) (rows_of_lines lines sound))
      ∙ list_all-map q row_of_line lines ∙ list_all-from_Has (λ (line : Line). q (row_of_line line)) lines (λ line k. f line (h.each line k))

  trace_tree : IsTraceTree root (directories_of_lines lines)
  trace_tree =
      let tree = directories_of_lines lines in
      record {
        sound = and_from _ _ (sound_tree tree (lines_shape lines sound) (rows_all is_sound (λ line k. and_from _ _ k.named k.sound))) (rows_all row_fits_types (λ line k. k.fits));
        few = not_from_false _ small;
        close = rows_all (λ row. is_close row.path) (λ line k. and_from _ _ (le-leb _ _ k.few) (le-leb _ _ k.close));
        short = λ some. rows_all (λ row. not (is_too_long row.path)) (λ line k. not_from_false _ (or_from _ _ (le-ltb max_components (length line.path) k.few) (le-ltb max_path (length (path_text line.path)) (k.short some))));
      }

-- ---- the texts of the lines

line_texts : (texts : List (List ℕ)) → list_all are_bytes texts ≡ true → list_all (has_no 10) texts ≡ true → AllByRecursion IsLineText texts
line_texts [] bytes whole = tt
line_texts (text ∷ texts) bytes whole =
    let b = and_parts (are_bytes text) (list_all are_bytes texts) bytes in
    let o = and_parts (has_no 10 text) (list_all (has_no 10) texts) whole in
    (record { bytes = b.0; whole = o.0 }, line_texts texts b.1 o.1)

all_lines : (delim : ℕ) (bytes : List ℕ) (lines : List Line) → are_bytes bytes ≡ true → trace_lines delim bytes ≡ Ok lines → AreReadLines (trace_root delim bytes) lines
unfolding trace_lines
all_lines delim bytes lines fits e =
    let w = bound (lines_so_far delim bytes) _ lines e in
    let last = passed (not (is_empty (cut_line bytes))) (fault_at (length w.0 + 1) CutLine) (Ok w.0) lines w.2 in
    let same : w.0 ≡ lines = cc (last.1) in
    let texts = line_texts (whole_lines bytes) (front_all are_bytes (split 10 bytes) (split_all (λ b. nat_lt b 256) 10 bytes fits)) (front_all (has_no 10) (split 10 bytes) (split_apart 10 bytes)) in
    subst (AreReadLines (trace_root delim bytes)) same
    (lines_read delim (trace_root delim bytes) (whole_lines bytes) [] w.0 texts (record { each = λ line k. absurd k; dirs = omega arith; entries = omega arith }) w.1)

pub sound_trees : TracesMeanSoundTrees
unfolding trace_means
sound_trees delim bytes tree fits e =
    let w = bound (result_map_err of_line (trace_lines delim bytes)) _ tree e in
    let lines = w.0 in
    let given = tree_given lines tree (map_err_ok of_tree (tree_of lines) tree w.2) in
    subst (IsTraceTree (trace_root delim bytes)) given.1 (trace_tree (trace_root delim bytes) lines given.0 (all_lines delim bytes lines fits (map_err_ok of_line (trace_lines delim bytes) lines w.1)))
