-- Directories below which there is none.
use Rattle.std.proofs.Common.{◌≡◌, ℕ, ◌+◌, ◌<◌, Bool, true, false, not, cond, List, [], ◌∷◌, ◌++◌, length, take, drop, get_or, refl, sym, ap, ◌∙◌, inl, inr, arith, append-nil, length-append}
use Rattle.std.specs.Prelude.{◌&&◌, ◌||◌, nat_lt}
use Rattle.std.specs.declared.cmp.Ordering.TheVariants.{Less}
use Rattle.std.specs.Ordering.{is_lt}
use Rattle.std.specs.List.{filter, flat_map, AllByRecursion}
use Rattle.std.proofs.lemmas.Bool.{cases_Bool, false≢true}
use Rattle.std.proofs.lemmas.Bool.Decides.{nat_tests}
use Rattle.std.proofs.lemmas.List.{take_more, drop_more, take-append-drop}
use Rattle.std.proofs.lemmas.List.Folds.{list_any-append}
use Rattle.std.proofs.lemmas.List.Elements.{filter-append}
use Rattle.std.proofs.lemmas.List.Concat.{flat_map-append}
use Rattle.gufi_base.specs.declared.record.Row.{Row}
use Rattle.gufi_base.specs.Paths.{Components, path_cmp, path_text, is_prefix, is_proper_prefix}
use Rattle.gufi_base.specs.Rows.{row_cmp, is_dir_row}
use Rattle.gufi_base.specs.Basics.{ascends, line}
use Rattle.gufi_base.proofs.Orders.{path_cmp-same}
use Rattle.gufi_base.proofs.Prefixes.{rows_total, front_and_rest, prefix_stands_before, stands_after_subtree}
use Rattle.gufi_base.proofs.SortedOnce.{below_all, ascends-tail, less_turned}
use Rattle.gufi_stats.specs.Reports.{is_leaf, leaf_lines}
use Rattle.gufi_stats.specs.Leaves.{is_above_any, leaf_line}

-- whether a row is a directory below another
abbrev pub is_below : Row → Row → Bool
is_below row other = is_dir_row other && is_proper_prefix row.path other.path

and-false : (b : Bool) → (b && false) ≡ false
and-false true = refl
and-false false = refl

longer : (p rest : Components) → path_cmp p (p ++ rest) ≡ Less → nat_lt (length p) (length (p ++ rest)) ≡ true
longer p [] behind = absurd (false≢true (ap is_lt (sym (path_cmp-same p) ∙ ap (path_cmp p) (sym (append-nil p)) ∙ behind)))
longer p (name ∷ rest) behind =
    let more = length-append p (name ∷ rest) in
    grind (arith, nat_tests)

-- a path that stands behind another is a proper continuation where it is one at all
proper : (p q : Components) → path_cmp p q ≡ Less → is_proper_prefix p q ≡ is_prefix p q
proper p q behind =
    elim (cases_Bool (is_prefix p q)) [
      | inl there ↦
          let whole = front_and_rest p q there in
          let long : nat_lt (length p) (length q) ≡ true =
          ap (λ (r : Components). nat_lt (length p) (length r)) whole ∙ longer p (drop (length p) q) (ap (path_cmp p) (sym whole) ∙ behind) in
          rw (there, long) refl
      | inr off ↦ rw off refl
    ]

-- what stands before a row in path order is not below it, and neither is the row
before-not-below : (row other : Row) → row_cmp other row ≡ Less → is_below row other ≡ false
before-not-below row other before =
    elim (cases_Bool (is_prefix row.path other.path)) [
      | inl there ↦ absurd (prefix_stands_before row.path other.path there before)
      | inr off ↦ rw off (and-false (is_dir_row other))
    ]

self-not-below : (row : Row) → is_below row row ≡ false
self-not-below row =
    let same : nat_lt (length row.path) (length row.path) ≡ false = grind (arith, nat_tests) in
    rw (same, and-false (is_prefix row.path row.path)) (and-false (is_dir_row row))

all-there : (P : Row → Type 0) (front : List Row) (row : Row) (more : List Row) → AllByRecursion P (front ++ row ∷ more) → P row
all-there P [] row more all = all.0
all-there P (first ∷ front) row more all = all-there P front row more all.1

ascends-behind : (front rows : List Row) → ascends row_cmp (front ++ rows) ≡ true → ascends row_cmp rows ≡ true
ascends-behind [] rows up = up
ascends-behind (first ∷ front) rows up = ascends-behind front rows (ascends-tail row_cmp rows_total first (front ++ rows) up)

none-before : (front : List Row) (row : Row) (more : List Row) → ascends row_cmp (front ++ row ∷ more) ≡ true → is_above_any row front ≡ false
none-before [] row more up = refl
none-before (first ∷ front) row more up =
    let before : row_cmp first row ≡ Less = all-there (λ other. row_cmp first other ≡ Less) front row more (below_all row_cmp rows_total first (front ++ row ∷ more) up) in
    rw (before-not-below row first before) (none-before front row more (ascends-tail row_cmp rows_total first (front ++ row ∷ more) up))

-- of the directories below a row only those behind it need to be looked for
pub only-behind : (front : List Row) (row : Row) (more : List Row) → ascends row_cmp (front ++ row ∷ more) ≡ true → is_above_any row (front ++ row ∷ more) ≡ is_above_any row more
only-behind front row more up =
    list_any-append (is_below row) front (row ∷ more)
    ∙ ap (λ b. b || (is_below row row || is_above_any row more)) (none-before front row more up)
    ∙ ap (λ b. b || is_above_any row more) (self-not-below row)

-- behind a row that isn't below another none is
none-behind : (row next : Row) → row_cmp row next ≡ Less → is_prefix row.path next.path ≡ false
    → (more : List Row) → AllByRecursion (λ other. row_cmp next other ≡ Less) more → is_above_any row more ≡ false
none-behind row next behind off [] all = refl
none-behind row next behind off (other ∷ more) all =
    elim (cases_Bool (is_prefix row.path other.path)) [
      | inl there ↦
          let whole = front_and_rest row.path other.path there in
          let before : row_cmp other next ≡ Less =
          ap (λ (p : Components). path_cmp p next.path) whole ∙ stands_after_subtree row.path next.path (drop (length row.path) other.path) behind off in
          absurd (false≢true (ap is_lt (sym (less_turned row_cmp rows_total next other all.0) ∙ before)))
      | inr away ↦ rw (away, and-false (is_dir_row other)) (none-behind row next behind off more all.1)
    ]

-- the next directory tells
pub next-tells : (row : Row) (front : List Row) (next : Row) (more : List Row) → is_above_any row front ≡ false → is_dir_row next ≡ true
    → ascends row_cmp (row ∷ (front ++ next ∷ more)) ≡ true → is_above_any row (front ++ next ∷ more) ≡ is_prefix row.path next.path
next-tells row front next more none directory up =
    let rest : ascends row_cmp (front ++ next ∷ more) ≡ true = ascends-tail row_cmp rows_total row (front ++ next ∷ more) up in
    let behind : row_cmp row next ≡ Less = all-there (λ other. row_cmp row other ≡ Less) front next more (below_all row_cmp rows_total row (front ++ next ∷ more) up) in
    let after = below_all row_cmp rows_total next more (ascends-behind front (next ∷ more) rest) in
    let same : is_below row next ≡ is_prefix row.path next.path = ap (λ b. b && is_proper_prefix row.path next.path) directory ∙ proper row.path next.path behind in
    list_any-append (is_below row) front (next ∷ more)
    ∙ ap (λ b. b || (is_below row next || is_above_any row more)) none
    ∙ ap (λ b. b || is_above_any row more) same
    ∙ elim (cases_Bool (is_prefix row.path next.path)) [
      | inl there ↦ rw there refl
      | inr off ↦ rw off (none-behind row next behind off more after)
    ]

-- a row that is no directory isn't below any
pub one-more : (row : Row) (rows : List Row) (i : ℕ) (next : Row) → i < length rows → next ≡ get_or rows i next → is_dir_row next ≡ false
    → is_above_any row (take i rows) ≡ false → is_above_any row (take (i + 1) rows) ≡ false
one-more row rows i next within is other none =
    let more : take (i + 1) rows ≡ take i rows ++ next ∷ [] = take_more rows i next within ∙ ap (λ (r : Row). take i rows ++ r ∷ []) (sym is) in
    ap (is_above_any row) more ∙ list_any-append (is_below row) (take i rows) (next ∷ [])
    ∙ ap (λ b. b || (is_below row next || false)) none
    ∙ ap (λ b. (b && is_proper_prefix row.path next.path) || false) other

pub parted : (rows : List Row) (i : ℕ) (row : Row) → i < length rows → row ≡ get_or rows i row → rows ≡ take i rows ++ row ∷ drop (i + 1) rows
parted rows i row within is =
    sym (take-append-drop i rows) ∙ ap (λ (rs : List Row). take i rows ++ rs) (drop_more rows i row within ∙ ap (λ (r : Row). r ∷ drop (i + 1) rows) (sym is))

pub next-here : (row : Row) (rows : List Row) (i : ℕ) (next : Row) → i < length rows → next ≡ get_or rows i next → is_dir_row next ≡ true → is_above_any row (take i rows) ≡ false
    → ascends row_cmp (row ∷ rows) ≡ true → is_above_any row rows ≡ is_prefix row.path next.path
next-here row rows i next within is directory none up =
    let whole = parted rows i next within is in
    ap (is_above_any row) whole
    ∙ next-tells row (take i rows) next (drop (i + 1) rows) none directory (ap (λ (rs : List Row). ascends row_cmp (row ∷ rs)) (sym whole) ∙ up)

-- ---- the lines of the leaves among the first rows

abbrev pub leaf_text : List Row → List Row → List ℕ
leaf_text rows front = flat_map (λ row. line (path_text row.path)) (filter (is_leaf rows) front)

leaf-more : (rows : List Row) (i : ℕ) (row : Row) → i < length rows → row ≡ get_or rows i row → leaf_text rows (take (i + 1) rows) ≡ leaf_text rows (take i rows) ++ cond (is_leaf rows row) (line (path_text row.path)) []
leaf-more rows i row within is =
    let more : take (i + 1) rows ≡ take i rows ++ row ∷ [] = take_more rows i row within ∙ ap (λ (r : Row). take i rows ++ r ∷ []) (sym is) in
    let put : Row → List ℕ = λ r. line (path_text r.path) in
    ap (leaf_text rows) more ∙ ap (flat_map put) (filter-append (is_leaf rows) (take i rows) (row ∷ []))
    ∙ flat_map-append put (filter (is_leaf rows) (take i rows)) (filter (is_leaf rows) (row ∷ []))
    ∙ ap (λ (t : List ℕ). leaf_text rows (take i rows) ++ t)
    (elim (cases_Bool (is_leaf rows row)) [
      | inl there ↦ rw there (append-nil (put row))
      | inr off ↦ rw off refl
    ])

-- whether a row is a leaf, by the rows behind it
leaf-here : (rows : List Row) (i : ℕ) (row : Row) → i < length rows → row ≡ get_or rows i row → ascends row_cmp rows ≡ true
    → is_leaf rows row ≡ (is_dir_row row && not (is_above_any row (drop (i + 1) rows)))
leaf-here rows i row within is up =
    let whole = parted rows i row within is in
    ap (λ b. is_dir_row row && not b)
    (ap (is_above_any row) whole ∙ only-behind (take i rows) row (drop (i + 1) rows) (ap (ascends row_cmp) (sym whole) ∙ up))

pub rest-ascends : (rows : List Row) (i : ℕ) (row : Row) → i < length rows → row ≡ get_or rows i row → ascends row_cmp rows ≡ true → ascends row_cmp (row ∷ drop (i + 1) rows) ≡ true
rest-ascends rows i row within is up = ascends-behind (take i rows) (row ∷ drop (i + 1) rows) (ap (ascends row_cmp) (sym (parted rows i row within is)) ∙ up)

pub leaf-taken : (rows : List Row) (i : ℕ) (row : Row) (text : List ℕ) → i < length rows → row ≡ get_or rows i row → ascends row_cmp rows ≡ true → text ≡ leaf_text rows (take i rows)
    → text ++ leaf_line row (drop (i + 1) rows) ≡ leaf_text rows (take (i + 1) rows)
leaf-taken rows i row text within is up so_far =
    ap (λ (t : List ℕ). t ++ leaf_line row (drop (i + 1) rows)) so_far
    ∙ ap (λ b. leaf_text rows (take i rows) ++ cond b (line (path_text row.path)) []) (sym (leaf-here rows i row within is up))
    ∙ sym (leaf-more rows i row within is)

-- ---- the directories among the rows have the same leaves

above-any-dirs : (row : Row) (rows : List Row) → is_above_any row (filter is_dir_row rows) ≡ is_above_any row rows
above-any-dirs row [] = refl
above-any-dirs row (other ∷ rows) =
    elim (cases_Bool (is_dir_row other)) [
      | inl directory ↦ rw (directory, directory) (ap (λ b. is_proper_prefix row.path other.path || b) (above-any-dirs row rows))
      | inr off ↦ rw off (above-any-dirs row rows)
    ]

leaf-text-dirs : (all rows : List Row) → leaf_text (filter is_dir_row all) (filter is_dir_row rows) ≡ leaf_text all rows
leaf-text-dirs all [] = refl
leaf-text-dirs all (row ∷ rows) =
    elim (cases_Bool (is_dir_row row)) [
      | inl directory ↦ elim (cases_Bool (is_above_any row all)) [
        | inl above ↦ rw (directory, directory, above-any-dirs row all, above) (leaf-text-dirs all rows)
        | inr none ↦ rw (directory, directory, above-any-dirs row all, none) (ap (λ (t : List ℕ). line (path_text row.path) ++ t) (leaf-text-dirs all rows))
      ]
      | inr off ↦ rw off (leaf-text-dirs all rows)
    ]

pub leaves-of-dirs : (directories rows : List Row) → directories ≡ filter is_dir_row rows → leaf_lines directories ≡ leaf_lines rows
leaves-of-dirs directories rows is = ap leaf_lines is ∙ leaf-text-dirs rows rows
