-- What is found in rows, with a row more.
use Rattle.std.proofs.Common.{◌≡◌, ℕ, ℤ, ◌+◌, ◌<◌, ◌≤◌, Bool, ◌||◌, List, [], ◌∷◌, ◌++◌, length, take, get_or, map, max, sym, ap, ◌∙◌, arith, append_assoc, append-nil}
use Rattle.std.specs.Prelude.{Some}
use Rattle.std.specs.List.{list_any, flat_map}
use Rattle.std.specs.Int.{int_min, int_max}
use Rattle.std.proofs.Math.Bool.{or-false}
use Rattle.std.proofs.lemmas.Grind.{flat_map-append}
use Rattle.std.proofs.lemmas.List.{take_more, map-append, length-append}
use Rattle.std.proofs.lemmas.List.Folds.{list_any-append}
use Rattle.std.proofs.lemmas.List.Sums.{sum_by_more, sum_by_more_le}
use Rattle.gufi_base.specs.declared.record.Rec.{Rec}
use Rattle.gufi_base.specs.declared.record.Row.{Row}
use Rattle.gufi_base.specs.Paths.{Components}
use Rattle.gufi_tree.specs.declared.tree.Entry.{Entry}
use Rattle.gufi_tree.specs.Tree.{Directory, dir_row, entry_row, own_rows, entry_count}
use Rattle.gufi_sums.specs.Total.{span, range_of}
use Rattle.gufi_sums.specs.Laws.{range_of-append, nat_max_assoc, nat_max_comm, int_min_assoc, int_max_assoc}
use Rattle.gufi_info.specs.declared.census.Census.{Census}
use Rattle.gufi_info.specs.Census.{deepest, has_list, has_names, census_of, with_record}

deepest-more : (rows : List Row) (row : Row) → deepest (rows ++ row ∷ []) ≡ max (deepest rows) (length row.path)
deepest-more [] row = nat_max_comm (length row.path) 0
deepest-more (first ∷ rows) row = ap (max (length first.path)) (deepest-more rows row) ∙ sym (nat_max_assoc (length first.path) (deepest rows) (length row.path))

times-more : (time : Row → ℤ) (rows : List Row) (row : Row) → range_of int_min int_max (map time (rows ++ row ∷ [])) ≡ span int_min int_max (range_of int_min int_max (map time rows)) (Some (time row, time row))
times-more time rows row = ap (range_of int_min int_max) (map-append time rows (row ∷ [])) ∙ range_of-append int_min int_max int_min_assoc int_max_assoc (map time rows) (time row ∷ [])

any-more : (test : Row → Bool) (rows : List Row) (row : Row) → list_any test (rows ++ row ∷ []) ≡ (list_any test rows || test row)
any-more test rows row = list_any-append test rows (row ∷ []) ∙ ap (λ b. list_any test rows || b) (or-false (test row))

census-more : (rows : List Row) (row : Row) → census_of (rows ++ row ∷ []) ≡ with_record (census_of rows) (length row.path) row.rec
census-more rows row = λ i. record {
  depth = deepest-more rows row i;
  atime = times-more (λ (r : Row). r.rec.meta.atime) rows row i;
  mtime = times-more (λ (r : Row). r.rec.meta.mtime) rows row i;
  ctime = times-more (λ (r : Row). r.rec.meta.ctime) rows row i;
  acls = any-more (λ (r : Row). has_list r.rec) rows row i;
  xattrs = any-more (λ (r : Row). has_names r.rec) rows row i;
}

-- one entry more
pub entries-more : (rows : List Row) (path : Components) (entries : List Entry) (k : ℕ) (entry : Entry) (rec : Rec) (census : Census) (depth : ℕ)
    → k < length entries → ((d : Entry) → entry ≡ get_or entries k d) → rec ≡ entry.rec → depth ≡ length path + 1
    → census ≡ census_of (rows ++ map (entry_row path) (take k entries)) → with_record census depth rec ≡ census_of (rows ++ map (entry_row path) (take (k + 1) entries))
entries-more rows path entries k entry rec census depth inside is same deep found =
    let before = rows ++ map (entry_row path) (take k entries) in
    let front : take (k + 1) entries ≡ take k entries ++ entry ∷ [] = take_more entries k entry inside ∙ ap (λ (e : Entry). take k entries ++ e ∷ []) (sym (is entry)) in
    let grown : rows ++ map (entry_row path) (take (k + 1) entries) ≡ before ++ entry_row path entry ∷ [] =
    ap (λ (es : List Entry). rows ++ map (entry_row path) es) front
    ∙ ap (λ (l : List Row). rows ++ l) (map-append (entry_row path) (take k entries) (entry ∷ []))
    ∙ sym (append_assoc rows (map (entry_row path) (take k entries)) (entry_row path entry ∷ [])) in
    let long : depth ≡ length (path ++ entry.name ∷ []) = deep ∙ sym (length-append path (entry.name ∷ [])) in
    ap (λ (c : Census). with_record c depth rec) found ∙ ap (λ (n : ℕ). with_record (census_of before) n rec) long ∙ ap (with_record (census_of before) (length (path ++ entry.name ∷ []))) same
    ∙ sym (census-more before (entry_row path entry)) ∙ sym (ap census_of grown)

-- a directory more, whose own row comes first
pub directory-first : (rows : List Row) (dir : Directory) (census : Census) (depth : ℕ) (rec : Rec) → census ≡ census_of rows → depth ≡ length dir.path → rec ≡ dir.rec
    → with_record census depth rec ≡ census_of (rows ++ dir_row dir ∷ [])
directory-first rows dir census depth rec found deep same =
    ap (λ (c : Census). with_record c depth rec) found ∙ ap (λ (n : ℕ). with_record (census_of rows) n rec) deep ∙ ap (with_record (census_of rows) (length dir.path)) same
    ∙ sym (census-more rows (dir_row dir))

pub directory-rest : (rows : List Row) (dir : Directory) → census_of ((rows ++ dir_row dir ∷ []) ++ map (entry_row dir.path) dir.entries) ≡ census_of (rows ++ own_rows dir)
directory-rest rows dir = ap census_of (append_assoc rows (dir_row dir ∷ []) (map (entry_row dir.path) dir.entries))

pub directories-more : (tree : List Directory) (k : ℕ) (dir : Directory) → k < length tree → ((d : Directory) → dir ≡ get_or tree k d)
    → census_of (flat_map own_rows (take k tree) ++ own_rows dir) ≡ census_of (flat_map own_rows (take (k + 1) tree))
directories-more tree k dir inside is =
    let front : take (k + 1) tree ≡ take k tree ++ dir ∷ [] = take_more tree k dir inside ∙ ap (λ (d : Directory). take k tree ++ d ∷ []) (sym (is dir)) in
    ap census_of (sym (ap (flat_map own_rows) front ∙ flat_map-append own_rows (take k tree) (dir ∷ []) ∙ ap (λ (l : List Row). flat_map own_rows (take k tree) ++ l) (append-nil (own_rows dir))))

-- ---- entries

pub count_more : (tree : List Directory) (k : ℕ) (entries : List Entry) → k < length tree → ((d : Directory) → entries ≡ (get_or tree k d).entries) → entry_count (take (k + 1) tree) ≡ entry_count (take k tree) + length entries
count_more [] k entries inside is = absurd (omega (arith, inside))
count_more (dir ∷ tree) k entries inside is =
    sum_by_more (λ (d : Directory). length d.entries) (dir ∷ tree) k dir inside ∙ ap (λ (es : List Entry). entry_count (take k (dir ∷ tree)) + length es) (sym (is dir))

pub count_within : (tree : List Directory) (k : ℕ) (entries : List Entry) → k < length tree → ((d : Directory) → entries ≡ (get_or tree k d).entries) → entry_count (take k tree) + length entries ≤ entry_count tree
count_within [] k entries inside is = absurd (omega (arith, inside))
count_within (dir ∷ tree) k entries inside is = omega (arith, sum_by_more_le (λ (d : Directory). length d.entries) (dir ∷ tree) k dir inside, ap (λ (es : List Entry). length es) (is dir))
