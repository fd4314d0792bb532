-- What stands at and below a path once a subtree is replaced: outside of the subtree the same as before, inside of it what the part has, put below.
use Rattle.std.proofs.Common.{◌≡◌, ℕ, ◌+◌, ◌<◌, Bool, true, false, not, ◌&&◌, cond, List, [], ◌∷◌, ◌++◌, map, length, take, drop, get_or, refl, sym, ap, ◌∙◌, arith, length-drop}
use Rattle.std.specs.List.{filter, flat_map}
use Rattle.std.proofs.lemmas.Bool.{true≢false, false≢true, false_from_ne_true, not-true, and_parts, and_from}
use Rattle.std.proofs.lemmas.List.{append_assoc, append-nil, map-append, length-append, length-map, length-take, get_or_append_left, get_or-append-add, get_or-map, get_or-take, get_or-drop}
use Rattle.std.proofs.lemmas.List.Elements.{filter-append}
use Rattle.std.proofs.lemmas.Slice.Eq.{bytes_eq-Decides}
use Rattle.gufi_base.specs.declared.record.Row.{Row}
use Rattle.gufi_base.specs.Paths.{Components, is_prefix}
use Rattle.gufi_tree.specs.declared.tree.Entry.{Entry}
use Rattle.gufi_tree.specs.Tree.{Directory, entry_row, own_rows, HasTreeShape}
use Rattle.gufi_tree.specs.Places.{path_at}
use Rattle.gufi_tree.specs.Graft.{put_below, graft}
use Rattle.gufi_tree.proofs.Below.{below_dirs}
use Rattle.gufi_tree.proofs.Filters.{filter-none, Has-filter}
use Rattle.gufi_tree.proofs.Flat.{is_prefix-append}
use Rattle.gufi_tree.proofs.Grafted.{grafted}
use Rattle.gufi_tree.proofs.Kids.{at_place, rows_under}
use Rattle.gufi_tree.proofs.Linked.{path_at-get}
use Rattle.gufi_tree.proofs.Ranges.{other_dirs, other_range, below_within}
use Rattle.gufi_tree.proofs.Rests.{bytes_eq-refl}

-- ---- prefixes

-- of two paths below the same one each leads to the other where what is left does
pub same_prefix : (p a b : Components) → is_prefix (p ++ a) (p ++ b) ≡ is_prefix a b
same_prefix [] a b = refl
same_prefix (n ∷ p) a b = ap (λ t. t && is_prefix (p ++ a) (p ++ b)) (bytes_eq-refl n) ∙ same_prefix p a b

-- of two paths that lead to the same one, one leads to the other
pub one_leads : (a b path : Components) → is_prefix a path ≡ true → is_prefix b path ≡ true → is_prefix a b ≡ false → is_prefix b a ≡ true
one_leads [] b path h k out = absurd (true≢false out)
one_leads (n ∷ a) [] path h k out = refl
one_leads (n ∷ a) (m ∷ b) [] h k out = absurd (false≢true h)
one_leads (n ∷ a) (m ∷ b) (c ∷ path) h k out =
    let first = and_parts _ _ h in
    let second = and_parts _ _ k in
    let same : n ≡ m = (bytes_eq-Decides n c).0 first.0 ∙ sym ((bytes_eq-Decides m c).0 second.0) in
    let rest : is_prefix a b ≡ false = sym (ap (λ t. t && is_prefix a b) ((bytes_eq-Decides n m).1 same)) ∙ out in
    and_from _ _ ((bytes_eq-Decides m n).1 (sym same)) (one_leads a b path first.1 second.1 rest)

-- what leads to a longer path leads to the path
pub longer_prefix : (p q path : Components) → is_prefix (p ++ q) path ≡ true → is_prefix p path ≡ true
longer_prefix [] q path h = refl
longer_prefix (n ∷ p) q [] h = absurd (false≢true h)
longer_prefix (n ∷ p) q (m ∷ path) h = let both = and_parts _ _ h in and_from _ _ both.0 (longer_prefix p q path both.1)

-- ---- filters

module _ {X : Type 0} where
  -- what another test leaves out passes none
  pub filter-within : (p q : X → Bool) (xs : List X) → ((x : X) → q x ≡ false → p x ≡ false) → filter p xs ≡ filter p (filter q xs)
  filter-within p q [] h = refl
  filter-within p q (x ∷ xs) h = by (q x) refl (filter-within p q xs h) where
    by : (b : Bool) → q x ≡ b → filter p xs ≡ filter p (filter q xs) → cond (p x) (x ∷ filter p xs) (filter p xs) ≡ filter p (cond b (x ∷ filter q xs) (filter q xs))
    by true e ih = ap (λ l. cond (p x) (x ∷ l) l) ih
    by false e ih = rw (h x e) ih

  pub both_empty : (xs ys : List X) → xs ++ ys ≡ [] → (xs ≡ []) × (ys ≡ [])
  both_empty [] ys e = (refl, e)
  both_empty (x ∷ xs) ys e = absurd (cc e)

-- ---- what stands below a path

module _ (p : Components) where
  -- of the directories put below a path those below a longer one
  moved_below : (path : Components) (ds : List Directory) → below_dirs (map (put_below p) ds) (p ++ path) ≡ map (put_below p) (below_dirs ds path)
  moved_below path [] = refl
  moved_below path (d ∷ ds) = rw (same_prefix p path d.path) (by (is_prefix path d.path) (moved_below path ds)) where
    by : (b : Bool) → below_dirs (map (put_below p) ds) (p ++ path) ≡ map (put_below p) (below_dirs ds path)
        → cond b (put_below p d ∷ below_dirs (map (put_below p) ds) (p ++ path)) (below_dirs (map (put_below p) ds) (p ++ path)) ≡ map (put_below p) (cond b (d ∷ below_dirs ds path) (below_dirs ds path))
    by true e = ap (λ l. put_below p d ∷ l) e
    by false e = e

  -- and none below one that neither leads to the path nor lies below it
  none_moved : (path : Components) (ds : List Directory) → is_prefix path p ≡ false → is_prefix p path ≡ false → below_dirs (map (put_below p) ds) path ≡ []
  none_moved path [] out apart = refl
  none_moved path (d ∷ ds) out apart =
      let here : is_prefix path (p ++ d.path) ≡ false = false_from_ne_true _ (λ h.
      true≢false (sym (one_leads path p (p ++ d.path) h (is_prefix-append p d.path) out) ∙ apart)) in
      rw here (none_moved path ds out apart)

module _ (tree part : List Directory) (k : ℕ) (shape : HasTreeShape tree) (own : HasTreeShape part) (within : k < length tree) where
  abbrev place : Components
  place = path_at tree k

  abbrev rest : List Directory
  rest = drop (k + length (below_dirs tree (path_at tree k))) tree

  abbrev moved_part : List Directory
  moved_part = map (put_below (path_at tree k)) part

  three_parts : (path : Components) → below_dirs (graft tree (path_at tree k) part) path ≡ below_dirs (take k tree) path ++ (below_dirs moved_part path ++ below_dirs rest path)
  three_parts path =
      ap (λ (ds : List Directory). below_dirs ds path) (grafted tree part k shape.order own.order within)
      ∙ filter-append (λ (dir : Directory). is_prefix path dir.path) (take k tree) (moved_part ++ rest)
      ∙ ap (λ l. below_dirs (take k tree) path ++ l) (filter-append (λ (dir : Directory). is_prefix path dir.path) moved_part rest)

  -- of the others none lies below what is below the replaced path
  none_outside : (path : Components) → (below_dirs (take k tree) (path_at tree k ++ path) ≡ []) × (below_dirs rest (path_at tree k ++ path) ≡ [])
  none_outside path =
      let test : Directory → Bool = λ dir. is_prefix (path_at tree k ++ path) dir.path in
      both_empty (filter test (take k tree)) (filter test rest)
      (sym (filter-append test (take k tree) rest)
      ∙ ap (filter test) (sym (other_range tree k shape.order within))
      ∙ filter-none test (other_dirs tree (path_at tree k)) (λ d h. false_from_ne_true _ (λ e.
      true≢false (sym (longer_prefix (path_at tree k) path d.path e) ∙ not-true _ (Has-filter (λ (dir : Directory). not (is_prefix (path_at tree k) dir.path)) tree d h).1))))

  -- ---- places

  -- as many directories as before, without those replaced, and with those of the part
  pub graft_length : length (graft tree (path_at tree k) part) + length (below_dirs tree (path_at tree k)) ≡ length tree + length part
  graft_length =
      let whole = ap (λ (ds : List Directory). length ds) (grafted tree part k shape.order own.order within) in
      let outer = length-append (take k tree) (moved_part ++ rest) in
      let inner = length-append moved_part rest in
      omega (arith, whole, outer, inner, length-take k tree, length-drop (k + length (below_dirs tree (path_at tree k))) tree, length-map part (put_below (path_at tree k)), below_within tree k shape.order within)

  -- the directory before the replaced ones
  pub graft_before : (j : ℕ) (d : Directory) → j < k → get_or (graft tree (path_at tree k) part) j d ≡ get_or tree j d
  graft_before j d h =
      let in' : j < length (take k tree) = omega (arith, length-take k tree) in
      ap (λ (ds : List Directory). get_or ds j d) (grafted tree part k shape.order own.order within)
      ∙ get_or_append_left (take k tree) (moved_part ++ rest) d j in' ∙ get_or-take k tree j d h

  past_front : (j : ℕ) (d : Directory) → get_or (graft tree (path_at tree k) part) (k + j) d ≡ get_or (moved_part ++ rest) j d
  past_front j d =
      let n : k + j ≡ length (take k tree) + j = omega (arith, length-take k tree) in
      ap (λ (ds : List Directory). get_or ds (k + j) d) (grafted tree part k shape.order own.order within)
      ∙ ap (λ (i : ℕ). get_or (take k tree ++ (moved_part ++ rest)) i d) n ∙ get_or-append-add (take k tree) (moved_part ++ rest) j d

  -- one of the part's
  pub graft_in : (j : ℕ) (d : Directory) → j < length part → get_or (graft tree (path_at tree k) part) (k + j) d ≡ put_below (path_at tree k) (get_or part j d)
  graft_in j d h =
      let in' : j < length moved_part = omega (arith, length-map part (put_below (path_at tree k))) in
      past_front j d ∙ get_or_append_left moved_part rest d j in' ∙ get_or-map (put_below (path_at tree k)) part j d d h

  -- one behind them
  pub graft_behind : (j : ℕ) (d : Directory) → get_or (graft tree (path_at tree k) part) (k + (length part + j)) d ≡ get_or tree (k + length (below_dirs tree (path_at tree k)) + j) d
  graft_behind j d =
      let n : length part + j ≡ length moved_part + j = omega (arith, length-map part (put_below (path_at tree k))) in
      past_front (length part + j) d ∙ ap (λ (i : ℕ). get_or (moved_part ++ rest) i d) n ∙ get_or-append-add moved_part rest j d
      ∙ get_or-drop (k + length (below_dirs tree (path_at tree k))) tree j d

  -- the same of paths
  pub path_before : (j : ℕ) → j < k → path_at (graft tree (path_at tree k) part) j ≡ path_at tree j
  path_before j h =
      let d = (at_place tree k within).0 in
      let in' : j < length (graft tree (path_at tree k) part) = omega (arith, graft_length, below_within tree k shape.order within) in
      path_at-get (graft tree (path_at tree k) part) j d in' ∙ ap (λ (e : Directory). e.path) (graft_before j d h) ∙ sym (path_at-get tree j d (omega arith))

  pub path_in : (j : ℕ) → j < length part → path_at (graft tree (path_at tree k) part) (k + j) ≡ path_at tree k ++ path_at part j
  path_in j h =
      let d = (at_place tree k within).0 in
      let in' : k + j < length (graft tree (path_at tree k) part) = omega (arith, graft_length, below_within tree k shape.order within) in
      path_at-get (graft tree (path_at tree k) part) (k + j) d in' ∙ ap (λ (e : Directory). e.path) (graft_in j d h)
      ∙ ap (λ (q : Components). path_at tree k ++ q) (sym (path_at-get part j d h))

  pub path_behind : (j : ℕ) → k + length (below_dirs tree (path_at tree k)) + j < length tree
      → path_at (graft tree (path_at tree k) part) (k + (length part + j)) ≡ path_at tree (k + length (below_dirs tree (path_at tree k)) + j)
  path_behind j h =
      let d = (at_place tree k within).0 in
      let in' : k + (length part + j) < length (graft tree (path_at tree k) part) = omega (arith, graft_length) in
      path_at-get (graft tree (path_at tree k) part) (k + (length part + j)) d in' ∙ ap (λ (e : Directory). e.path) (graft_behind j d)
      ∙ sym (path_at-get tree (k + length (below_dirs tree (path_at tree k)) + j) d h)

-- Below a path that neither leads to the replaced directory nor lies in it nothing changes.
pub below_outside : (tree part : List Directory) (k : ℕ) (path : Components) → HasTreeShape tree → HasTreeShape part → k < length tree
    → is_prefix path (path_at tree k) ≡ false → is_prefix (path_at tree k) path ≡ false
    → below_dirs (graft tree (path_at tree k) part) path ≡ below_dirs tree path
below_outside tree part k path shape own within out apart =
    let p = path_at tree k in
    let front = take k tree in
    let behind = drop (k + length (below_dirs tree (path_at tree k))) tree in
    let whole : below_dirs tree path ≡ below_dirs front path ++ below_dirs behind path =
    filter-within (λ (dir : Directory). is_prefix path dir.path) (λ (dir : Directory). not (is_prefix p dir.path)) tree (λ d e. left_out d.path e)
    ∙ ap (λ (ds : List Directory). below_dirs ds path) (other_range tree k shape.order within)
    ∙ filter-append (λ (dir : Directory). is_prefix path dir.path) front behind in
    three_parts tree part k shape own within path
    ∙ ap (λ (l : List Directory). below_dirs front path ++ (l ++ below_dirs behind path)) (none_moved p path part out apart)
    ∙ sym whole where
      by : (b : Bool) → not b ≡ false → b ≡ true
      by true e = refl
      by false e = absurd (true≢false e)

      left_out : (q : Components) → not (is_prefix (path_at tree k) q) ≡ false → is_prefix path q ≡ false
      left_out q e = false_from_ne_true _ (λ h. true≢false (sym (one_leads path (path_at tree k) q h (by (is_prefix (path_at tree k) q) e) out) ∙ apart))

-- Below a path of the part stand the part's directories, put below.
pub below_inside : (tree part : List Directory) (k : ℕ) (path : Components) → HasTreeShape tree → HasTreeShape part → k < length tree
    → below_dirs (graft tree (path_at tree k) part) (path_at tree k ++ path) ≡ map (put_below (path_at tree k)) (below_dirs part path)
below_inside tree part k path shape own within =
    let p = path_at tree k in
    let behind = drop (k + length (below_dirs tree (path_at tree k))) tree in
    let none = none_outside tree part k shape own within path in
    three_parts tree part k shape own within (p ++ path)
    ∙ ap (λ (l : List Directory). l ++ (below_dirs (map (put_below p) part) (p ++ path) ++ below_dirs behind (p ++ path))) none.0
    ∙ ap (λ (l : List Directory). below_dirs (map (put_below p) part) (p ++ path) ++ l) none.1
    ∙ append-nil (below_dirs (map (put_below p) part) (p ++ path))
    ∙ moved_below p path part

-- ---- rows

-- the row with its path put below another
abbrev pub put_row_below : Components → Row → Row
put_row_below path row = record { path = path ++ row.path; rec = row.rec }

module _ (p : Components) where
  pub own_rows-below : (d : Directory) → own_rows (put_below p d) ≡ map (put_row_below p) (own_rows d)
  own_rows-below d = ap (λ (l : List Row). put_row_below p (record { path = d.path; rec = d.rec }) ∷ l) (each d.entries) where
    each : (es : List Entry) → map (entry_row (p ++ d.path)) es ≡ map (put_row_below p) (map (entry_row d.path) es)
    each [] = refl
    each (e ∷ es) =
        ap (λ (q : Components). record { path = q; rec = e.rec } ∷ map (entry_row (p ++ d.path)) es) (append_assoc p d.path (e.name ∷ []))
        ∙ ap (λ (l : List Row). put_row_below p (entry_row d.path e) ∷ l) (each es)

  pub rows-below : (ds : List Directory) → flat_map own_rows (map (put_below p) ds) ≡ map (put_row_below p) (flat_map own_rows ds)
  rows-below [] = refl
  rows-below (d ∷ ds) =
      ap (λ (l : List Row). l ++ flat_map own_rows (map (put_below p) ds)) (own_rows-below d)
      ∙ ap (λ (l : List Row). map (put_row_below p) (own_rows d) ++ l) (rows-below ds)
      ∙ sym (map-append (put_row_below p) (own_rows d) (flat_map own_rows ds))

-- The same of the rows at and below the path.
pub rows_outside : (tree part : List Directory) (k : ℕ) (path : Components) → HasTreeShape tree → HasTreeShape part → k < length tree
    → is_prefix path (path_at tree k) ≡ false → is_prefix (path_at tree k) path ≡ false
    → rows_under (graft tree (path_at tree k) part) path ≡ rows_under tree path
rows_outside tree part k path shape own within out apart = ap (flat_map own_rows) (below_outside tree part k path shape own within out apart)

pub rows_inside : (tree part : List Directory) (k : ℕ) (path : Components) → HasTreeShape tree → HasTreeShape part → k < length tree
    → rows_under (graft tree (path_at tree k) part) (path_at tree k ++ path) ≡ map (put_row_below (path_at tree k)) (rows_under part path)
rows_inside tree part k path shape own within =
    ap (flat_map own_rows) (below_inside tree part k path shape own within) ∙ rows-below (path_at tree k) (below_dirs part path)
