-- Rows whose paths are too long.
use Rattle.std.proofs.Common.{◌≡◌, ℕ, ◌+◌, ◌*◌, ◌-◌, ◌<◌, ◌≤◌, ◌⊎◌, inl, inr, Bool, true, false, not, ◌&&◌, ◌||◌, ltb, leb, List, [], ◌∷◌, ◌++◌, length, map, take, drop, get_or, refl, sym, ap, ◌∙◌, arith, length-drop}
use Rattle.std.specs.Prelude.{All, bytes_eq}
use Rattle.std.specs.List.{list_any, list_all, flat_map}
use Rattle.std.proofs.lemmas.Bool.{or_from, and_parts, leb-true, le-ltb, lt-ltb, ltb-true, ltb-false}
use Rattle.std.proofs.lemmas.List.{append-nil, length-append, length-take, length-take-le, take_all, take_more, drop_all, drop-append-le, get_or-drop, get_or-take}
use Rattle.std.proofs.lemmas.List.Concat.{flat_map-append}
use Rattle.std.proofs.lemmas.List.Elements.{All-drop, All-map, All-take, All-weaker}
use Rattle.std.proofs.lemmas.List.Folds.{list_any-append, list_any_none, list_any_at, list_any_more}
use Rattle.gufi_base.specs.declared.record.Row.{Row}
use Rattle.gufi_base.specs.Basics.{is_empty}
use Rattle.gufi_base.specs.Names.{is_name, is_name_byte, dot, dot_dot}
use Rattle.gufi_base.specs.Paths.{Components, slashed_text, is_too_long}
use Rattle.gufi_base.specs.PathTexts.{kept_text}
use Rattle.gufi_base.proofs.Texts.{slashed_text-closed}
use Rattle.gufi_tree.specs.declared.tree.Entry.{Entry}
use Rattle.gufi_tree.specs.declared.bundle.Packed.{Packed}
use Rattle.gufi_tree.specs.Bundles.{entries_in, entry_in, name_in, IsPacked, IsShort}
use Rattle.gufi_tree.specs.Graft.{put_below, is_over, leaves_room, has_long_row, is_too_deep, graft}
use Rattle.gufi_tree.specs.Places.{path_at}
use Rattle.gufi_tree.specs.Tree.{Directory, own_rows, entry_row, HasTreeShape}
use Rattle.gufi_tree.proofs.Below.{below_dirs}
use Rattle.gufi_tree.proofs.Grafted.{grafted}

-- ---- names

some_byte : (n : List ℕ) → not (is_empty n) ≡ true → 0 < length n
some_byte [] h = absurd (cc)
some_byte (b ∷ n) h = omega arith

-- a name has a byte at least, and 255 at most
name_sizes : (n : List ℕ) → is_name n ≡ true → (0 < length n) × (length n ≤ 255)
name_sizes n h =
    let outer = and_parts (not (is_empty n) && leb (length n) 255 && list_all is_name_byte n) (not (bytes_eq n dot || bytes_eq n dot_dot)) h in
    let inner = and_parts (not (is_empty n) && leb (length n) 255) (list_all is_name_byte n) outer.0 in
    let parts = and_parts (not (is_empty n)) (leb (length n) 255) inner.0 in
    (some_byte n parts.0, leb-true (length n) 255 parts.1)

abbrev pub name_over : ℕ → Entry → Bool
name_over bytes e = ltb bytes (length e.name)

-- no name has so many bytes
pub none_over : (text : List ℕ) (rows : List Packed) (bytes : ℕ) → 255 ≤ bytes → All (IsPacked text) rows → list_any (name_over bytes) (entries_in text rows) ≡ false
none_over text rows bytes enough all =
    list_any_none (name_over bytes) (entries_in text rows)
    (All-map (λ (e : Entry). name_over bytes e ≡ false) (entry_in text) rows
    (All-weaker (IsPacked text) (λ (p : Packed). name_over bytes (entry_in text p) ≡ false) (λ (p : Packed) (h : IsPacked text p). le-ltb bytes (length (name_in text p)) (omega (arith, enough, (name_sizes (name_in text p) h.name).1))) rows all))

-- ---- the sizes of paths

too_long_is : (path : Components) → is_too_long path ≡ is_over (length path) (length (slashed_text path))
too_long_is [] = refl
too_long_is (name ∷ path) = refl

over_same : (m n j k : ℕ) → m ≡ n → j ≡ k → is_over m j ≡ is_over n k
over_same m n j k e f = ap (λ x. is_over x j) e ∙ ap (λ y. is_over n y) f

length-slashed : (p q : Components) → length (slashed_text (p ++ q)) ≡ length (slashed_text p) + length (slashed_text q)
length-slashed p q = ap length (flat_map-append (λ (n : List ℕ). 47 ∷ n) p q) ∙ length-append (slashed_text p) (slashed_text q)

length-kept : (path : Components) → length (kept_text path) ≡ length (slashed_text path) + 1
length-kept path = sym (ap length (slashed_text-closed path)) ∙ length-append (slashed_text path) (47 ∷ [])

two_a_name : (path : Components) → list_all is_name path ≡ true → 2 * length path ≤ length (slashed_text path)
two_a_name [] h = omega arith
two_a_name (n ∷ path) h =
    let parts = and_parts (is_name n) (list_all is_name path) h in
    let own = (name_sizes n parts.0).0 in
    let rest = two_a_name path parts.1 in
    let size = length-append n (slashed_text path) in
    omega arith

-- a path with a short text leaves room
pub short_leaves_room : (p q : Components) (bytes : ℕ) → list_all is_name p ≡ true → list_all is_name q ≡ true → bytes + 2 ≡ length (kept_text p) + length (kept_text q) → bytes ≤ 510
    → leaves_room (length p + length q) bytes ≡ true
short_leaves_room p q bytes h k size short =
    let a = two_a_name p h in
    let b = two_a_name q k in
    let i = length-kept p in
    let j = length-kept q in
    let few : ltb (length p + length q) 256 ≡ true = lt-ltb (length p + length q) 256 (omega arith) in
    let less : ltb bytes 4096 ≡ true = lt-ltb bytes 4096 (omega arith) in
    ap (λ (x : Bool). x && ltb bytes 4096) few ∙ less

-- ---- the rows of a directory

-- a name more
abbrev entry_over : ℕ → ℕ → Entry → Bool
entry_over names bytes e = is_over (names + 1) (bytes + 1 + length e.name)

entries_over : (q : Components) (names bytes : ℕ) → names ≡ length q → bytes ≡ length (slashed_text q) → (es : List Entry)
    → list_any (λ (row : Row). is_too_long row.path) (map (entry_row q) es) ≡ list_any (entry_over names bytes) es
entries_over q names bytes n b [] = refl
entries_over q names bytes n b (e ∷ es) =
    let count : length (q ++ e.name ∷ []) ≡ names + 1 = let i = length-append q (e.name ∷ []) in omega (arith, i, n) in
    let size : length (slashed_text (q ++ e.name ∷ [])) ≡ bytes + 1 + length e.name = let i = length-slashed q (e.name ∷ []) in let k = ap length (append-nil (47 ∷ e.name)) in omega (arith, i, k, b) in
    ap (λ (x : Bool). x || list_any (λ (row : Row). is_too_long row.path) (map (entry_row q) es)) (too_long_is (q ++ e.name ∷ []) ∙ over_same _ _ _ _ count size)
    ∙ ap (λ (x : Bool). entry_over names bytes e || x) (entries_over q names bytes n b es)

rows_over : (p : Components) (d : Directory) (names bytes : ℕ) → names ≡ length p + length d.path → bytes + 2 ≡ length (kept_text p) + length (kept_text d.path)
    → has_long_row p d ≡ (is_over names bytes || list_any (entry_over names bytes) d.entries)
rows_over p d names bytes n b =
    let q = p ++ d.path in
    let count : names ≡ length q = let i = length-append p d.path in omega (arith, i, n) in
    let size : bytes ≡ length (slashed_text q) = let i = length-slashed p d.path in let j = length-kept p in let k = length-kept d.path in omega (arith, i, j, k, b) in
    ap (λ (x : Bool). x || list_any (λ (row : Row). is_too_long row.path) (map (entry_row q) d.entries)) (too_long_is q ∙ over_same _ _ _ _ (sym count) (sym size))
    ∙ ap (λ (x : Bool). is_over names bytes || x) (entries_over q names bytes count size d.entries)

-- ---- looked for among some

module _ {X : Type 0} (test : X → Bool) where
  nothing_else : (xs : List X) (n : ℕ) → length xs ≤ n → list_any test (take n xs) ≡ list_any test xs
  nothing_else xs n enough = ap (list_any test) (take_all n xs enough)

  pub none_at_all : (xs : List X) (n : ℕ) → length xs ≤ n → list_any test (take n xs) ≡ false → false ≡ list_any test xs
  none_at_all xs n enough none = sym (sym (nothing_else xs n enough) ∙ none)

  pub one_found : (xs : List X) (k : ℕ) (x : X) → k < length xs → ((d : X) → x ≡ get_or xs k d) → test x ≡ true → true ≡ list_any test xs
  one_found xs k x lt is h = sym (list_any_at test xs k x lt (ap test (sym (is x)) ∙ h))

  pub none_found : (xs : List X) (k : ℕ) (x : X) → k < length xs → ((d : X) → x ≡ get_or xs k d) → list_any test (take k xs) ≡ false → test x ≡ false → list_any test (take (k + 1) xs) ≡ false
  none_found xs k x lt is before h = list_any_more test xs k x lt ∙ or_from _ _ before (ap test (sym (is x)) ∙ h)

-- the same of those between two places
module _ {X : Type 0} (test : X → Bool) (xs : List X) (from : ℕ) where
  pub none_yet : list_any test (drop from (take from xs)) ≡ false
  none_yet = ap (list_any test) (drop_all from (take from xs) (let e = length-take from xs in omega arith))

  pub one_between : (end k : ℕ) (x : X) → from ≤ k → k < end → end ≤ length xs → ((d : X) → x ≡ get_or xs k d) → test x ≡ true → true ≡ list_any test (drop from (take end xs))
  one_between end k x behind before within is h =
      let there : from + (k - from) ≡ k = omega arith in
      let at : get_or (drop from (take end xs)) (k - from) x ≡ x =
      get_or-drop from (take end xs) (k - from) x ∙ ap (λ (i : ℕ). get_or (take end xs) i x) there ∙ get_or-take end xs k x before ∙ sym (is x) in
      let size = length-drop from (take end xs) in
      let whole = length-take-le end xs within in
      sym (list_any_at test (drop from (take end xs)) (k - from) x (omega arith) (ap test at ∙ h))

  pub none_between : (k : ℕ) (x : X) → from ≤ k → k < length xs → ((d : X) → x ≡ get_or xs k d) → list_any test (drop from (take k xs)) ≡ false → test x ≡ false → list_any test (drop from (take (k + 1) xs)) ≡ false
  none_between k x behind within is before h =
      let size = length-take-le k xs (omega arith) in
      ap (λ (l : List X). list_any test (drop from l)) (take_more xs k x within)
      ∙ ap (list_any test) (drop-append-le from (take k xs) (get_or xs k x ∷ []) (omega arith))
      ∙ list_any-append test (drop from (take k xs)) (get_or xs k x ∷ [])
      ∙ or_from _ _ before (or_from _ _ (ap test (sym (is x)) ∙ h) refl)

-- ---- the parts of a directory's rows

either_true : (b : Bool) → (b || true) ≡ true
either_true true = refl
either_true false = refl

-- below a path that leaves room a row is too long by an entry's name alone
with_room : (names bytes : ℕ) → names < 256 → bytes < 4096 → (es : List Entry) → list_any (entry_over names bytes) es ≡ list_any (name_over (4095 - bytes)) es
with_room names bytes n b [] = refl
with_room names bytes n b (e ∷ es) =
    ap (λ (x : Bool). (x || ltb 4096 (bytes + 1 + length e.name)) || list_any (entry_over names bytes) es) (le-ltb 256 (names + 1) (omega arith))
    ∙ ap (λ (x : Bool). x || list_any (entry_over names bytes) es) (by (cases (4095 - bytes) (length e.name)))
    ∙ ap (λ (x : Bool). name_over (4095 - bytes) e || x) (with_room names bytes n b es)
  where
    cases : (m k : ℕ) → (m < k) ⊎ (k ≤ m)
    cases m k = by_ltb (ltb m k) refl
      where
        by_ltb : (x : Bool) → ltb m k ≡ x → (m < k) ⊎ (k ≤ m)
        by_ltb true h = inl (ltb-true m k h)
        by_ltb false h = inr (ltb-false m k h)

    by : (4095 - bytes < length e.name) ⊎ (length e.name ≤ 4095 - bytes) → ltb 4096 (bytes + 1 + length e.name) ≡ ltb (4095 - bytes) (length e.name)
    by (inl h) = lt-ltb 4096 (bytes + 1 + length e.name) (omega arith) ∙ sym (lt-ltb (4095 - bytes) (length e.name) h)
    by (inr h) = le-ltb 4096 (bytes + 1 + length e.name) (omega arith) ∙ sym (le-ltb (4095 - bytes) (length e.name) h)

rows_with_room : (p : Components) (d : Directory) (bytes : ℕ) → bytes + 2 ≡ length (kept_text p) + length (kept_text d.path) → leaves_room (length p + length d.path) bytes ≡ true
    → has_long_row p d ≡ list_any (name_over (4095 - bytes)) d.entries
rows_with_room p d bytes size room =
    let names = length p + length d.path in
    let parts = and_parts (ltb names 256) (ltb bytes 4096) room in
    let few = ltb-true names 256 parts.0 in
    let short = ltb-true bytes 4096 parts.1 in
    rows_over p d names bytes refl size
    ∙ ap (λ (x : Bool). x || list_any (entry_over names bytes) d.entries) (or_from _ _ (le-ltb 256 names (omega arith)) (le-ltb 4096 bytes (omega arith)))
    ∙ with_room names bytes few short d.entries

-- where there is no room, each entry's path is too long
no_room : (names bytes : ℕ) → leaves_room names bytes ≡ false → (es : List Entry) → list_any (entry_over names bytes) es ≡ ltb 0 (length es)
no_room names bytes none [] = refl
no_room names bytes none (e ∷ es) = ap (λ (x : Bool). x || list_any (entry_over names bytes) es) (by (ltb names 256) refl none) ∙ sym (lt-ltb 0 (length (e ∷ es)) (omega arith))
  where
    by : (x : Bool) → ltb names 256 ≡ x → (x && ltb bytes 4096) ≡ false → entry_over names bytes e ≡ true
    by true h k =
        let long = ltb-false bytes 4096 k in
        ap (λ (y : Bool). ltb 256 (names + 1) || y) (lt-ltb 4096 (bytes + 1 + length e.name) (omega arith)) ∙ either_true (ltb 256 (names + 1))
    by false h k =
        let many = ltb-false names 256 h in
        ap (λ (y : Bool). y || ltb 4096 (bytes + 1 + length e.name)) (lt-ltb 256 (names + 1) (omega arith))

rows_without : (p : Components) (d : Directory) (bytes : ℕ) → bytes + 2 ≡ length (kept_text p) + length (kept_text d.path) → leaves_room (length p + length d.path) bytes ≡ false
    → has_long_row p d ≡ (is_over (length p + length d.path) bytes || ltb 0 (length d.entries))
rows_without p d bytes size none =
    let names = length p + length d.path in
    rows_over p d names bytes refl size ∙ ap (λ (x : Bool). is_over names bytes || x) (no_room names bytes none d.entries)

-- the same of a directory's path and entries as they were found
module _ (p : Components) (d : Directory) (q : Components) (es : List Entry) (front text : List ℕ) (path : q ≡ d.path) (entries : es ≡ d.entries) (above : front ≡ kept_text p) (own : text ≡ kept_text q) where
  found_size : length front + length text - 2 + 2 ≡ length (kept_text p) + length (kept_text d.path)
  found_size = let a = ap length above in let b = ap length (own ∙ ap kept_text path) in omega (arith, a, b)

  found_room : (r : Bool) (bytes : ℕ) → leaves_room (length p + length q) bytes ≡ r → leaves_room (length p + length d.path) bytes ≡ r
  found_room r bytes h = ap (λ (c : Components). leaves_room (length p + length c) bytes) (sym path) ∙ h

  pub found_with_room : leaves_room (length p + length q) (length front + length text - 2) ≡ true → list_any (name_over (4095 - (length front + length text - 2))) es ≡ has_long_row p d
  found_with_room room =
      let bytes = length front + length text - 2 in
      ap (list_any (name_over (4095 - bytes))) entries ∙ sym (rows_with_room p d bytes found_size (found_room true bytes room))

  pub found_without : leaves_room (length p + length q) (length front + length text - 2) ≡ false
      → (is_over (length p + length q) (length front + length text - 2) || ltb 0 (length es)) ≡ has_long_row p d
  found_without none =
      let bytes = length front + length text - 2 in
      ap (λ (c : Components). is_over (length p + length c) bytes || ltb 0 (length es)) path
      ∙ ap (λ (l : List Entry). is_over (length p + length d.path) bytes || ltb 0 (length l)) entries
      ∙ sym (rows_without p d bytes found_size (found_room false bytes none))

-- ---- all rows of a graft

-- what is looked for in the rows of directories
rows_of_all : (ds : List Directory) → is_too_deep ds ≡ list_any (has_long_row []) ds
rows_of_all [] = refl
rows_of_all (d ∷ ds) =
    list_any-append (λ (row : Row). is_too_long row.path) (own_rows d) (flat_map own_rows ds) ∙ ap (λ (x : Bool). has_long_row [] d || x) (rows_of_all ds)

rows_put_below : (p : Components) (ds : List Directory) → list_any (has_long_row []) (map (put_below p) ds) ≡ list_any (has_long_row p) ds
rows_put_below p [] = refl
rows_put_below p (d ∷ ds) = ap (λ (x : Bool). has_long_row p d || x) (rows_put_below p ds)

or_turned : (a b c : Bool) → (a || (b || c)) ≡ (b || (a || c))
or_turned true true c = refl
or_turned true false c = refl
or_turned false b c = refl

-- the rows of a graft are those of the part, of what stands before and of what stands behind
graft_rows : (tree part : List Directory) (at : ℕ) → HasTreeShape tree → HasTreeShape part → at < length tree
    → is_too_deep (graft tree (path_at tree at) part)
    ≡ (list_any (has_long_row (path_at tree at)) part || (list_any (has_long_row []) (take at tree) || list_any (has_long_row []) (drop (at + length (below_dirs tree (path_at tree at))) tree)))
graft_rows tree part at shape own within =
    let p = path_at tree at in
    let n = length (below_dirs tree p) in
    ap is_too_deep (grafted tree part at shape.order own.order within)
    ∙ rows_of_all (take at tree ++ (map (put_below p) part ++ drop (at + n) tree))
    ∙ list_any-append (has_long_row []) (take at tree) (map (put_below p) part ++ drop (at + n) tree)
    ∙ ap (λ (x : Bool). list_any (has_long_row []) (take at tree) || x)
    (list_any-append (has_long_row []) (map (put_below p) part) (drop (at + n) tree) ∙ ap (λ (x : Bool). x || list_any (has_long_row []) (drop (at + n) tree)) (rows_put_below p part))
    ∙ or_turned (list_any (has_long_row []) (take at tree)) (list_any (has_long_row p) part) (list_any (has_long_row []) (drop (at + n) tree))

-- the same of a tree's and a part's own directories, as they are kept
module _ (tree part kept put : List Directory) (at count n : ℕ) (p : Components) (shape : HasTreeShape tree) (own : HasTreeShape part) (within : at < length tree)
    (counted : count ≡ length (below_dirs tree (path_at tree at))) (same : kept ≡ tree) (same_part : put ≡ part) (path : p ≡ path_at tree at) (all : n ≡ length put) where
  abbrev of_part : Bool
  of_part = list_any (has_long_row p) (drop 0 (take n put))

  abbrev of_tree : Bool
  of_tree = list_any (has_long_row []) (take at kept) || list_any (has_long_row []) (drop (at + count) kept)

  of_graft : is_too_deep (graft tree (path_at tree at) part) ≡ (of_part || of_tree)
  of_graft =
      let ours : list_any (has_long_row (path_at tree at)) part ≡ of_part =
      ap (list_any (has_long_row (path_at tree at))) (sym same_part) ∙ ap (λ (q : Components). list_any (has_long_row q) put) (sym path)
      ∙ ap (list_any (has_long_row p)) (sym (take_all n put (omega arith))) in
      graft_rows tree part at shape own within
      ∙ ap (λ (m : ℕ). list_any (has_long_row (path_at tree at)) part || (list_any (has_long_row []) (take at tree) || list_any (has_long_row []) (drop (at + m) tree))) (sym counted)
      ∙ ap (λ (t : List Directory). list_any (has_long_row (path_at tree at)) part || (list_any (has_long_row []) (take at t) || list_any (has_long_row []) (drop (at + count) t))) (sym same)
      ∙ ap (λ (x : Bool). x || of_tree) ours

  pub part_too_long : of_part ≡ true → of_part ≡ is_too_deep (graft tree (path_at tree at) part)
  part_too_long h = h ∙ sym (of_graft ∙ ap (λ (x : Bool). x || of_tree) h)

  pub tree_too_long : of_part ≡ false → of_tree ≡ is_too_deep (graft tree (path_at tree at) part)
  tree_too_long h = sym (of_graft ∙ ap (λ (x : Bool). x || of_tree) h)

-- no row of a directory with a short path is too long
short_row : (p : Components) (longest : ℕ) (d : Directory) → list_all is_name p ≡ true → length (kept_text p) + longest ≤ 512 → IsShort longest d → has_long_row p d ≡ false
short_row p longest d named room short =
    let bytes = length (kept_text p) + length (kept_text d.path) - 2 in
    let path = short.path in
    let a = length-kept p in
    let b = length-kept d.path in
    let size : bytes + 2 ≡ length (kept_text p) + length (kept_text d.path) = omega arith in
    let few : bytes ≤ 510 = omega arith in
    rows_with_room p d bytes size (short_leaves_room p d.path bytes named short.names size few)
    ∙ list_any_none (name_over (4095 - bytes)) d.entries
    (All-weaker (λ (e : Entry). is_name e.name ≡ true) (λ (e : Entry). name_over (4095 - bytes) e ≡ false)
    (λ (e : Entry) (h : is_name e.name ≡ true). le-ltb (4095 - bytes) (length e.name) (let most = (name_sizes e.name h).1 in omega arith)) d.entries short.entries)

pub short_rows : (p : Components) (longest : ℕ) (ds : List Directory) → list_all is_name p ≡ true → length (kept_text p) + longest ≤ 512 → All (IsShort longest) ds → All (λ (d : Directory). has_long_row p d ≡ false) ds
short_rows p longest ds named room = All-weaker (IsShort longest) (λ (d : Directory). has_long_row p d ≡ false) (λ (d : Directory) (short : IsShort longest d). short_row p longest d named room short) ds

pub none_of_range : (p : Components) (ds : List Directory) (from end : ℕ) → All (λ (d : Directory). has_long_row p d ≡ false) ds → false ≡ list_any (has_long_row p) (drop from (take end ds))
none_of_range p ds from end none =
    sym (list_any_none (has_long_row p) (drop from (take end ds))
    (All-drop (λ (d : Directory). has_long_row p d ≡ false) from (take end ds) (All-take (λ (d : Directory). has_long_row p d ≡ false) end ds none)))
