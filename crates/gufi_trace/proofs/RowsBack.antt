-- Rows that are written one after another are read again, each at its place.
use Rattle.std.proofs.Common.{◌≡◌, ℕ, ◌+◌, ◌<◌, ◌≤◌, Bool, true, false, not, eqb, List, [], ◌∷◌, ◌++◌, length, map, reverse, refl, sym, ap, ◌∙◌, arith, append_assoc, Ok}
use Rattle.std.specs.Prelude.{None}
use Rattle.std.specs.List.{AllByRecursion, list_all, flat_map, join_with_byte}
use Rattle.std.proofs.lemmas.Bool.{and_parts, and_from, not-true, not_from_true, not_from_false, cond-true, cond-false, lt-leb}
use Rattle.std.proofs.lemmas.List.{append-nil, map-append, reverse-append}
use Rattle.std.proofs.lemmas.List.Sums.{sum_by-cons}
use Rattle.gufi_base.specs.declared.record.Kind.{Kind}
use Rattle.gufi_base.specs.declared.record.Line.{Line}
use Rattle.gufi_base.specs.declared.record.Row.{Row}
use Rattle.gufi_base.specs.Limits.{max_dirs, max_entries}
use Rattle.gufi_base.specs.Basics.{is_empty}
use Rattle.gufi_base.specs.Kinds.{is_dir}
use Rattle.gufi_base.specs.Paths.{Components, is_child_of}
use Rattle.gufi_line.specs.TraceRows.{row_fields}
use Rattle.gufi_base.specs.Delimiters.{may_delimit}
use Rattle.gufi_tree.specs.declared.tree.Entry.{Entry}
use Rattle.gufi_tree.specs.Tree.{Directory, dir_row, entry_row, own_rows, entry_count}
use Rattle.gufi_tree.specs.Build.{is_dir_line}
use Rattle.gufi_tree.specs.Tree.{is_kinded}
use Rattle.gufi_tree.specs.Gathered.{row_of_line}
use Rattle.gufi_tree.proofs.Built.{path_eq-refl, parent_path-child}
use Rattle.gufi_tree.specs.StanzaLines.{stanza_holds}
use Rattle.gufi_line.specs.LineText.{read_lines}
use Rattle.gufi_line.specs.Lines.{dirs_of, entries_of, place_fault}
use Rattle.gufi_line.proofs.Counts.{count_yes, count_no}
use Rattle.gufi_line.proofs.FieldsBack.{joined_line}
use Rattle.gufi_line.proofs.LinesBack.{IsWritable, are_fields, line_at, line_back}

abbrev pub texts_of : Components → ℕ → List Row → List (List ℕ)
texts_of root delim rows = map (λ row. join_with_byte delim (row_fields root row)) rows

-- the lines of the rows, the newest first
abbrev pub taken : List Line → List Row → List Line
taken earlier [] = earlier
taken earlier (row ∷ rows) = taken (line_at earlier row ∷ earlier) rows

-- each row stands at its place
abbrev pub Placed : List Line → List Row → Type 0
Placed earlier [] = Unit {0}
Placed earlier (row ∷ rows) = (place_fault earlier row.rec.meta.kind row.path ≡ None) × Placed (line_at earlier row ∷ earlier) rows

pub lines_back : (root : Components) (delim : ℕ) → may_delimit delim ≡ true → (rows : List Row) (earlier : List Line) → AllByRecursion (IsWritable root delim) rows → Placed earlier rows
    → read_lines delim root earlier (texts_of root delim rows) ≡ Ok (reverse (taken earlier rows))
unfolding read_lines
lines_back root delim may [] earlier h placed = refl
lines_back root delim may (row ∷ rows) earlier h placed =
    rw (line_back root delim earlier row may h.0 placed.0) (lines_back root delim may rows (line_at earlier row ∷ earlier) h.1 placed.1)

pub rows-taken : (rows : List Row) (earlier : List Line) → map row_of_line (reverse (taken earlier rows)) ≡ map row_of_line (reverse earlier) ++ rows
rows-taken [] earlier = sym (append-nil (map row_of_line (reverse earlier)))
rows-taken (row ∷ rows) earlier =
    rows-taken rows (line_at earlier row ∷ earlier)
    ∙ ap (λ (ls : List Line). map row_of_line ls ++ rows) (reverse-append (line_at earlier row ∷ []) earlier)
    ∙ ap (λ (rs : List Row). rs ++ rows) (map-append row_of_line (reverse earlier) (line_at earlier row ∷ []))
    ∙ append_assoc (map row_of_line (reverse earlier)) (row ∷ []) rows

-- no text holds a newline
pub texts_open : (root : Components) (delim : ℕ) → may_delimit delim ≡ true → (rows : List Row) → AllByRecursion (IsWritable root delim) rows → list_all (λ text. list_all (λ b. not (eqb b 10)) text) (texts_of root delim rows) ≡ true
texts_open root delim may [] h = refl
texts_open root delim may (row ∷ rows) h = and_from _ _ (joined_line delim may (row_fields root row) (are_fields root delim row may h.0)) (texts_open root delim may rows h.1)

-- the places of a directory and of its entries
dir_placed : (earlier : List Line) (kind : Kind) (path : Components) → is_dir kind ≡ true → dirs_of earlier < max_dirs → place_fault earlier kind path ≡ None
unfolding place_fault
dir_placed earlier kind path dir few = rw (dir, lt-leb max_dirs (dirs_of earlier) few) refl

entry_placed : (earlier : List Line) (kind : Kind) (path : Components) → is_dir kind ≡ false → stanza_holds earlier path ≡ true → entries_of earlier < max_entries → place_fault earlier kind path ≡ None
unfolding place_fault
entry_placed earlier kind path entry holds few = rw (entry, holds, lt-leb max_entries (entries_of earlier) few) refl

-- entries of the directory whose stanza is open
abbrev are_entries : List Entry → Bool
are_entries es = list_all (λ (e : Entry). not (is_dir e.rec.meta.kind)) es

record AfterEntries (earlier : List Line) (p : Components) (es : List Entry) : Type 0 where
  placed : Placed earlier (map (entry_row p) es)
  dirs : dirs_of (taken earlier (map (entry_row p) es)) ≡ dirs_of earlier
  entries : entries_of (taken earlier (map (entry_row p) es)) ≡ entries_of earlier + length es

after_entries : (p : Components) (es : List Entry) (earlier : List Line) → are_entries es ≡ true → ((name : List ℕ) → stanza_holds earlier (p ++ name ∷ []) ≡ true) → entries_of earlier + length es ≤ max_entries → AfterEntries earlier p es
after_entries p [] earlier kinds holds few = record { placed = tt; dirs = refl; entries = omega arith }
after_entries p (e ∷ es) earlier kinds holds few =
    let both = and_parts (not (is_dir e.rec.meta.kind)) (are_entries es) kinds in
    let entry : is_dir e.rec.meta.kind ≡ false = not-true _ both.0 in
    let line : Line = line_at earlier (entry_row p e) in
    let more : entries_of (line ∷ earlier) ≡ 1 + entries_of earlier = count_yes (λ l. not (is_dir_line l)) line earlier (not_from_false _ entry) in
    let same : dirs_of (line ∷ earlier) ≡ 0 + dirs_of earlier = count_no is_dir_line line earlier entry in
    let rest = after_entries p es (line ∷ earlier) both.1 (λ name. cond-false (is_dir_line line) _ _ entry ∙ holds name) (omega arith) in
    record {
      placed = (entry_placed earlier e.rec.meta.kind (p ++ e.name ∷ []) entry (holds e.name) (omega arith), rest.placed);
      dirs = omega (arith, rest.dirs, same);
      entries = omega (arith, rest.entries, more);
    }

placed_append : (earlier : List Line) (xs ys : List Row) → Placed earlier xs → Placed (taken earlier xs) ys → Placed earlier (xs ++ ys)
placed_append earlier [] ys h k = k
placed_append earlier (x ∷ xs) ys h k = (h.0, placed_append (line_at earlier x ∷ earlier) xs ys h.1 k)

pub some_path : (p : Components) (name : List ℕ) → is_empty (p ++ name ∷ []) ≡ false
some_path [] name = refl
some_path (n ∷ p) name = refl

pub child_of : (p : Components) (name : List ℕ) → is_child_of p (p ++ name ∷ []) ≡ true
child_of p name = rw (some_path p name, parent_path-child p name) (path_eq-refl p)

pub tree_placed : (tree : List Directory) (earlier : List Line) → list_all is_kinded tree ≡ true → dirs_of earlier + length tree ≤ max_dirs → entries_of earlier + entry_count tree ≤ max_entries → Placed earlier (flat_map own_rows tree)
tree_placed [] earlier kinds dirs entries = tt
tree_placed (d ∷ ds) earlier kinds dirs entries =
    let both = and_parts (is_kinded d) (list_all is_kinded ds) kinds in
    let own = and_parts (is_dir d.rec.meta.kind) (are_entries d.entries) both.0 in
    let line : Line = line_at earlier (dir_row d) in
    let count : entry_count (d ∷ ds) ≡ length d.entries + entry_count ds = sum_by-cons (λ (v : Directory). length v.entries) d ds in
    let more : dirs_of (line ∷ earlier) ≡ 1 + dirs_of earlier = count_yes is_dir_line line earlier own.0 in
    let same : entries_of (line ∷ earlier) ≡ 0 + entries_of earlier = count_no (λ l. not (is_dir_line l)) line earlier (not_from_true _ own.0) in
    let after = after_entries d.path d.entries (line ∷ earlier) own.1 (λ name. cond-true (is_dir_line line) _ _ own.0 ∙ child_of d.path name) (omega arith) in (
      dir_placed earlier d.rec.meta.kind d.path own.0 (omega arith),
      placed_append (line ∷ earlier) (map (entry_row d.path) d.entries) (flat_map own_rows ds) after.placed
          (tree_placed ds (taken (line ∷ earlier) (map (entry_row d.path) d.entries)) both.1 (omega (arith, after.dirs)) (omega (arith, after.entries))),
    )
