-- The lines that are kept, a row more at a time.
use Rattle.std.proofs.Common.{◌≡◌, ℕ, zero, suc, ◌+◌, ◌<◌, ◌≤◌, List, [], ◌∷◌, ◌++◌, map, length, take, drop, get_or, sym, ap, ◌∙◌, arith, append_assoc, length-append}
use Rattle.std.specs.List.{flat_map}
use Rattle.std.proofs.lemmas.List.{append-nil, length-map, map_push, take_more, get_or_default, length-take}
use Rattle.gufi_base.specs.declared.record.Line.{Line}
use Rattle.gufi_base.specs.declared.record.Row.{Row}
use Rattle.gufi_base.specs.Paths.{Components}
use Rattle.gufi_tree.specs.declared.tree.Entry.{Entry}
use Rattle.gufi_tree.specs.Tree.{Directory, entry_row, own_rows}
use Rattle.gufi_tree.specs.StanzaLines.{zip_lines}
use Rattle.gufi_tree.proofs.Numbered.{zip_more, zip_split}

abbrev line_of_row : ℕ → Row → Line
line_of_row place row = record { number = place + 1; path = row.path; rec = row.rec }

-- the line of one entry more
pub next_line : (old lines new : List Line) (ns : List ℕ) (at i : ℕ) (p : Components) (es : List Entry) (e : Entry) → lines ≡ old ++ zip_lines (drop at ns) (map (entry_row p) (take i es)) → at + i < length ns → i < length es
    → e ≡ get_or es i e → new ≡ lines ++ line_of_row (get_or ns (at + i) 0) (entry_row p e) ∷ [] → new ≡ old ++ zip_lines (drop at ns) (map (entry_row p) (take (i + 1) es))
next_line old lines new ns at i p es e so_far lt within is added =
    let rows : List Row = map (entry_row p) (take i es) in
    let row : Row = entry_row p e in
    let line : Line = line_of_row (get_or ns (at + i) 0) row in
    let count : at + i ≡ at + length rows = (let a = length-map (take i es) (entry_row p) in let b = length-take i es in omega (arith, a, b, within)) in
    let more : map (entry_row p) (take i es) ++ row ∷ [] ≡ map (entry_row p) (take (i + 1) es) =
    sym (map_push (entry_row p) (take i es) e) ∙ ap (map (entry_row p)) (ap (λ (x : Entry). take i es ++ x ∷ []) is ∙ sym (take_more es i e within)) in
    added ∙ ap (λ (ls : List Line). ls ++ line ∷ []) so_far
    ∙ append_assoc old (zip_lines (drop at ns) rows) (line ∷ [])
    ∙ ap (λ (ls : List Line). old ++ ls)
    (sym (zip_more ns at rows row (get_or ns (at + i) 0) (at + i) count lt (get_or_default ns (at + i) 0 (get_or ns (at + i) 0) lt)) ∙ ap (zip_lines (drop at ns)) more)

abbrev pub rows_of_dirs : List Directory → List Row
rows_of_dirs dirs = flat_map own_rows dirs

pub rows_within : (dirs : List Directory) (i : ℕ) (d : Directory) → i < length dirs → d ≡ get_or dirs i d → length (rows_of_dirs (take i dirs)) + length (own_rows d) ≤ length (rows_of_dirs dirs)
rows_within [] i d lt is = absurd (omega (arith, lt))
rows_within (x ∷ xs) zero d lt is =
    let a = length-append (own_rows x) (rows_of_dirs xs) in
    let b = ap (λ (v : Directory). length (own_rows v)) is in omega (arith, a, b)
rows_within (x ∷ xs) (suc i) d lt is =
    let a = length-append (own_rows x) (rows_of_dirs xs) in
    let b = length-append (own_rows x) (rows_of_dirs (take i xs)) in
    let h = rows_within xs i d (omega (arith, lt)) is in omega (arith, a, b, h)

rows_taken : (dirs : List Directory) (i : ℕ) (d : Directory) → i < length dirs → d ≡ get_or dirs i d → rows_of_dirs (take (i + 1) dirs) ≡ rows_of_dirs (take i dirs) ++ own_rows d
rows_taken [] i d lt is = absurd (omega (arith, lt))
rows_taken (x ∷ xs) zero d lt is = append-nil (own_rows x) ∙ ap own_rows (sym is)
rows_taken (x ∷ xs) (suc i) d lt is =
    let one : suc i + 1 ≡ suc (i + 1) = omega arith in
    ap (λ n. rows_of_dirs (take n (x ∷ xs))) one ∙ ap (λ (rs : List Row). own_rows x ++ rs) (rows_taken xs i d (omega (arith, lt)) is) ∙ sym (append_assoc (own_rows x) (rows_of_dirs (take i xs)) (own_rows d))

-- the lines of one directory more
pub lines_taken : (dirs : List Directory) (i at rows : ℕ) (d : Directory) (ns : List ℕ) (lines new : List Line) → i < length dirs → d ≡ get_or dirs i d
    → at ≡ length (rows_of_dirs (take i dirs)) → rows ≡ length (own_rows d) → lines ≡ zip_lines ns (rows_of_dirs (take i dirs)) → new ≡ lines ++ zip_lines (drop at ns) (own_rows d)
    → (at + rows ≡ length (rows_of_dirs (take (i + 1) dirs))) × (new ≡ zip_lines ns (rows_of_dirs (take (i + 1) dirs)))
lines_taken dirs i at rows d ns lines new lt is place count so_far added =
    let joined = rows_taken dirs i d lt is in
    let front = rows_of_dirs (take i dirs) in (
      let a = ap length joined in let b = length-append front (own_rows d) in omega (arith, a, b, place, count),
      added ∙ ap (λ (ls : List Line). ls ++ zip_lines (drop at ns) (own_rows d)) so_far ∙ ap (λ n. zip_lines ns front ++ zip_lines (drop n ns) (own_rows d)) place
          ∙ sym (zip_split ns front (own_rows d)) ∙ ap (zip_lines ns) (sym joined),
    )

pub dirs_few : (dirs : List Directory) → length dirs ≤ length (rows_of_dirs dirs)
dirs_few [] = omega arith
dirs_few (x ∷ xs) = let a = length-append (own_rows x) (rows_of_dirs xs) in let h = dirs_few xs in omega (arith, a, h)
