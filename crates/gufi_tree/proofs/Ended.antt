-- Stanzas that begin, grow and end.
use Rattle.std.proofs.Common.{◌≡◌, ℕ, ◌+◌, ◌<◌, ◌^◌, Bool, true, false, not, List, [], ◌∷◌, ◌++◌, map, length, reverse, Option, Some, None, Ok, refl, sym, ap, ◌∙◌, subst, arith, append_assoc, length-append}
use Rattle.std.specs.Prelude.{count_by, nat_lt}
use Rattle.std.specs.List.{list_all, flat_map}
use Rattle.std.specs.List.Sorted.{IsPermutation, IsSortedBy}
use Rattle.std.specs.Ordering.{is_lt}
use Rattle.std.proofs.lemmas.Bool.{and_parts, and_from, cond-true, not_from_false}
use Rattle.std.proofs.lemmas.List.{append-nil, length-map, map_push, reverse-append}
use Rattle.std.proofs.lemmas.List.Concat.{flat_map-append}
use Rattle.std.proofs.lemmas.List.Folds.{list_all-append, list_all-map}
use Rattle.std.proofs.lemmas.List.Sorted.{IsPermutation-sym, IsPermutation-trans, IsPermutation-cons, IsPermutation-map, IsPermutation-append, IsPermutation-reverse, length_permutation}
use Rattle.gufi_base.specs.declared.record.Line.{Line}
use Rattle.gufi_base.specs.declared.record.Row.{Row}
use Rattle.gufi_base.specs.Basics.{ascends, sort_by}
use Rattle.gufi_base.specs.Kinds.{is_dir}
use Rattle.gufi_base.specs.Paths.{Components, base_name, is_child_of}
use Rattle.gufi_base.proofs.Sorting.{IsPermutation-sort_by}
use Rattle.gufi_base.proofs.Permutations.{IsPermutation-flat_map}
use Rattle.gufi_base.proofs.SortedOnce.{sort_by-to, same_from_sorted}
use Rattle.gufi_tree.specs.declared.closed.Begun.{Begun}
use Rattle.gufi_tree.specs.Packs.{Placed}
use Rattle.gufi_tree.specs.declared.tree.Entry.{Entry}
use Rattle.gufi_tree.specs.declared.fault.TreeFault.{TreeFault}
use Rattle.gufi_tree.specs.Tree.{Directory, entry_row, entry_cmp, own_rows, is_kinded}
use Rattle.gufi_tree.specs.Build.{is_dir_line, unless, directories_of_lines, tree_of}
use Rattle.gufi_tree.specs.Gathered.{row_of_line}
use Rattle.gufi_tree.specs.Shape.{are_distinct, IsOrdered}
use Rattle.gufi_tree.specs.StanzaLines.{stanza_holds, line_cmp, zip_lines, placed_line, lines_in, AreNumbered, are_few, is_begun_kinded, AreClosed, IsWhole, AreKept, HasTaken, HasEnded}
use Rattle.gufi_tree.proofs.Built.{directories_are, All-from_Has}
use Rattle.gufi_tree.proofs.Faultless.{none_from_faultless}
use Rattle.gufi_tree.proofs.Numbered.{line_total, numbered_ascends, numbered_push, numbers_bound, zip_append, zip_rows, places_few, is_entry, holds_behind, dirs_push, entries_push}
use Rattle.gufi_tree.proofs.Placed.{list_all-IsPermutation, list_all-Has}
use Rattle.gufi_tree.proofs.Pushed.{child_path}
use Rattle.gufi_tree.proofs.Shaped.{faultless_from_shape}

-- entries with their places, as rows and as lines
zip_placed : (p : Components) (own : List Placed) → zip_lines (map (λ (x : Placed). x.place) own) (map (entry_row p) (map (λ (x : Placed). x.entry) own)) ≡ map (placed_line p) own
zip_placed p [] = refl
zip_placed p (x ∷ own) = ap (λ (ls : List Line). placed_line p x ∷ ls) (zip_placed p own)

abbrev begun_line : Begun → Line
begun_line b = record { number = b.place + 1; path = b.path; rec = b.rec }

none_dirs : (own : List Placed) → list_all (λ (x : Placed). not (is_dir x.entry.rec.meta.kind)) own ≡ true → list_all (λ (e : Entry). not (is_dir e.rec.meta.kind)) (map (λ (x : Placed). x.entry) own) ≡ true
none_dirs own h = list_all-map (λ (e : Entry). not (is_dir e.rec.meta.kind)) (λ (x : Placed). x.entry) own ∙ h

rows_pushed : (old : List Directory) (dir : Directory) → flat_map own_rows (old ++ dir ∷ []) ≡ flat_map own_rows old ++ own_rows dir
rows_pushed old dir = flat_map-append own_rows old (dir ∷ []) ∙ ap (λ (us : List Row). flat_map own_rows old ++ us) (append-nil (own_rows dir))

all_pushed : (q : Directory → Bool) (old : List Directory) (dir : Directory) → list_all q old ≡ true → q dir ≡ true → list_all q (old ++ dir ∷ []) ≡ true
all_pushed q old dir h k = list_all-append q old (dir ∷ []) ∙ and_from _ _ h (and_from _ _ k refl)

module _ (old new : List Directory) (before after : List ℕ) (was is : Bool) (b : Begun) (entries : List Placed) (t : HasTaken old new before after was is b entries) where
  own_is : own_rows t.dir ≡ record { path = b.path; rec = b.rec } ∷ map (entry_row b.path) (map (λ (x : Placed). x.entry) t.own)
  own_is = rw (t.path, t.rec, t.taken) refl

  module _ (h : AreClosed old before was) (kinds : is_begun_kinded (Some b) entries ≡ true) (numbered : AreNumbered 1 (lines_in old before (Some b) entries)) where
    zipped : zip_lines after (flat_map own_rows new) ≡ zip_lines before (flat_map own_rows old) ++ begun_line b ∷ map (placed_line b.path) t.own
    zipped =
        ap (λ (ss : List Directory). zip_lines after (flat_map own_rows ss)) t.dirs
        ∙ ap (zip_lines after) (rows_pushed old t.dir ∙ ap (λ (us : List Row). flat_map own_rows old ++ us) own_is)
        ∙ ap (λ (ns : List ℕ). zip_lines ns (flat_map own_rows old ++ record { path = b.path; rec = b.rec } ∷ map (entry_row b.path) (map (λ (x : Placed). x.entry) t.own))) t.places
        ∙ zip_append before (b.place ∷ map (λ (x : Placed). x.place) t.own) (flat_map own_rows old) (record { path = b.path; rec = b.rec } ∷ map (entry_row b.path) (map (λ (x : Placed). x.entry) t.own)) h.whole
        ∙ ap (λ (ls : List Line). zip_lines before (flat_map own_rows old) ++ begun_line b ∷ ls) (zip_placed b.path t.own)

    lines_moved : IsPermutation (zip_lines after (flat_map own_rows new)) (lines_in old before (Some b) entries)
    lines_moved =
        subst (λ (ls : List Line). IsPermutation ls (lines_in old before (Some b) entries)) (sym zipped)
        (IsPermutation-append (zip_lines before (flat_map own_rows old)) (sort_by line_cmp (zip_lines before (flat_map own_rows old))) (begun_line b ∷ map (placed_line b.path) t.own) (begun_line b ∷ map (placed_line b.path) entries)
        (IsPermutation-sort_by line_cmp (zip_lines before (flat_map own_rows old)))
        (IsPermutation-cons (begun_line b) (map (placed_line b.path) t.own) (map (placed_line b.path) entries) (IsPermutation-map (placed_line b.path) t.own entries (IsPermutation-sym entries t.own t.moved))))

    kinded : is_kinded t.dir ≡ true
    kinded =
        let both = and_parts (is_dir b.rec.meta.kind) (list_all (λ (x : Placed). not (is_dir x.entry.rec.meta.kind)) entries) kinds in
        let own : list_all (λ (x : Placed). not (is_dir x.entry.rec.meta.kind)) t.own ≡ true = sym (list_all-IsPermutation (λ (x : Placed). not (is_dir x.entry.rec.meta.kind)) entries t.own t.moved) ∙ both.1 in
        rw (t.rec, t.taken) (and_from _ _ both.0 (none_dirs t.own own))

    taken_whole : IsWhole (lines_in old before (Some b) entries) new after is
    taken_whole = record {
      is = sort_by-to line_cmp line_total (zip_lines after (flat_map own_rows new)) (lines_in old before (Some b) entries) lines_moved (numbered_ascends 1 (lines_in old before (Some b) entries) numbered);
      numbered = numbered;
      closed = record {
        whole =
            (let a = ap length t.places in
            let c = length-append before (b.place ∷ map (λ (x : Placed). x.place) t.own) in
            let d = length-map t.own (λ (x : Placed). x.place) in
            let e = ap (λ (ss : List Directory). length (flat_map own_rows ss)) t.dirs in
            let f = ap length (rows_pushed old t.dir) in
            let g = length-append (flat_map own_rows old) (own_rows t.dir) in
            let i = ap length own_is in
            let j = length-map (map (λ (x : Placed). x.entry) t.own) (entry_row b.path) in
            let k = length-map t.own (λ (x : Placed). x.entry) in
            omega (arith, a, c, d, e, f, g, i, j, k, h.whole));
        kinds = ap (λ (ss : List Directory). list_all is_kinded ss) t.dirs ∙ all_pushed is_kinded old t.dir h.kinds kinded;
        apart = λ yes. ap (λ (ss : List Directory). are_distinct ss) t.dirs ∙ all_pushed (λ (d : Directory). ascends entry_cmp d.entries) old t.dir (h.apart (t.before_apart yes)) (t.apart yes);
      };
    }

-- the last stanza has ended
pub ended_whole : (old new : List Directory) (before after : List ℕ) (was is : Bool) (begun : Option Begun) (entries : List Placed) (count dir_count : ℕ)
    → AreKept old before was begun entries count dir_count → HasEnded old new before after was is begun entries → IsWhole (lines_in old before begun entries) new after is
ended_whole old new before after was is None entries count dir_count h e =
    let none = e.none refl in
    let whole : IsWhole (lines_in old before None entries) old before was = record {
      is = sym (append-nil (sort_by line_cmp (zip_lines before (flat_map own_rows old))));
      numbered = h.numbered;
      closed = h.closed;
    } in
    let P : List Directory → Type 0 = λ ss. IsWhole (lines_in old before None entries) ss before was in
    let Q : List ℕ → Type 0 = λ ns. IsWhole (lines_in old before None entries) new ns was in
    let R : Bool → Type 0 = λ x. IsWhole (lines_in old before None entries) new after x in
    subst R (sym none.2) (subst Q (sym none.1) (subst P (sym none.0) whole))
ended_whole old new before after was is (Some b) entries count dir_count h e = taken_whole old new before after was is b entries (e.some b refl) h.closed h.kinds h.numbered

-- a stanza begins behind those that have ended
module _ (lines : List Line) (dirs : List Directory) (places : List ℕ) (distinct : Bool) (b : Begun) (count dir_count : ℕ) (whole : IsWhole lines dirs places distinct) (counted : length lines ≡ count) (counts : count_by is_dir_line lines ≡ dir_count)
    (kind : is_dir b.rec.meta.kind ≡ true) (place : b.place ≡ count) where
  pub begun_is : lines_in dirs places (Some b) [] ≡ lines ++ begun_line b ∷ []
  begun_is = ap (λ (ls : List Line). ls ++ begun_line b ∷ []) whole.is

  pub begun_kept : AreKept dirs places distinct (Some b) [] (count + 1) (dir_count + 1)
  begun_kept = record {
    closed = whole.closed;
    kinds = and_from _ _ kind refl;
    numbered = subst (AreNumbered 1) (sym begun_is) (numbered_push 1 lines (begun_line b) whole.numbered (omega (arith, place, counted)));
    counted = ap length begun_is ∙ (let e = length-append lines (begun_line b ∷ []) in omega (arith, e, counted));
    dir_lines = ap (count_by is_dir_line) begun_is ∙ dirs_push lines (begun_line b) dir_count kind counts;
    empty = λ e. absurd cc;
  }

more_is : (dirs : List Directory) (places : List ℕ) (b : Begun) (entries : List Placed) (x : Placed) → lines_in dirs places (Some b) (entries ++ x ∷ []) ≡ lines_in dirs places (Some b) entries ++ placed_line b.path x ∷ []
more_is dirs places b entries x =
    ap (λ (ls : List Line). sort_by line_cmp (zip_lines places (flat_map own_rows dirs)) ++ begun_line b ∷ ls) (map_push (placed_line b.path) entries x)
    ∙ sym (append_assoc (sort_by line_cmp (zip_lines places (flat_map own_rows dirs))) (begun_line b ∷ map (placed_line b.path) entries) (placed_line b.path x ∷ []))

pub entry_kept : (dirs : List Directory) (places : List ℕ) (distinct : Bool) (begun : Option Begun) (entries : List Placed) (x : Placed) (count dir_count : ℕ) → AreKept dirs places distinct begun entries count dir_count
    → 0 < count → x.place ≡ count → is_dir x.entry.rec.meta.kind ≡ false → AreKept dirs places distinct begun (entries ++ x ∷ []) (count + 1) dir_count
entry_kept dirs places distinct None entries x count dir_count h some place kind =
    let none : length (lines_in dirs places None entries) ≡ 0 = ap length (h.empty refl) in
    absurd (omega (arith, none, h.counted, some))
entry_kept dirs places distinct (Some b) entries x count dir_count h some place kind =
    let both = and_parts (is_dir b.rec.meta.kind) (list_all (λ (v : Placed). not (is_dir v.entry.rec.meta.kind)) entries) h.kinds in
    let is = more_is dirs places b entries x in
    record {
      closed = h.closed;
      kinds = and_from _ _ both.0 (list_all-append (λ (v : Placed). not (is_dir v.entry.rec.meta.kind)) entries (x ∷ []) ∙ and_from _ _ both.1 (and_from _ _ (not_from_false _ kind) refl));
      numbered = subst (AreNumbered 1) (sym (more_is dirs places b entries x)) (numbered_push 1 (lines_in dirs places (Some b) entries) (placed_line b.path x) h.numbered (omega (arith, place, h.counted)));
      counted = ap length is ∙ (let e = length-append (lines_in dirs places (Some b) entries) (placed_line b.path x ∷ []) in omega (arith, e, h.counted));
      dir_lines = ap (count_by is_dir_line) is ∙ entries_push (lines_in dirs places (Some b) entries) (placed_line b.path x) dir_count kind h.dir_lines;
      empty = λ e. absurd cc;
    }

entries_only : (p : Components) (entries : List Placed) → list_all (λ (v : Placed). not (is_dir v.entry.rec.meta.kind)) entries ≡ true → list_all is_entry (map (placed_line p) entries) ≡ true
entries_only p entries h = list_all-map is_entry (placed_line p) entries ∙ h

-- what the lines say of the last stanza
pub holds_begun : (dirs : List Directory) (places : List ℕ) (b : Begun) (entries : List Placed) (c : Components) → is_begun_kinded (Some b) entries ≡ true → stanza_holds (reverse (lines_in dirs places (Some b) entries)) c ≡ is_child_of b.path c
holds_begun dirs places b entries c kinds =
    let both = and_parts (is_dir b.rec.meta.kind) (list_all (λ (v : Placed). not (is_dir v.entry.rec.meta.kind)) entries) kinds in
    let front = sort_by line_cmp (zip_lines places (flat_map own_rows dirs)) in
    let es = map (placed_line b.path) entries in
    let turned : reverse (lines_in dirs places (Some b) entries) ≡ reverse (map (placed_line b.path) entries) ++ begun_line b ∷ reverse (sort_by line_cmp (zip_lines places (flat_map own_rows dirs))) =
    reverse-append front (begun_line b ∷ es) ∙ ap (λ (ls : List Line). ls ++ reverse front) (reverse-append (begun_line b ∷ []) es) ∙ append_assoc (reverse es) (begun_line b ∷ []) (reverse front) in
    ap (λ (ls : List Line). stanza_holds ls c) turned
    ∙ holds_behind (reverse es) (begun_line b ∷ reverse front) c (sym (list_all-IsPermutation is_entry es (reverse es) (IsPermutation-reverse es)) ∙ entries_only b.path entries both.1)
    ∙ cond-true (is_dir_line (begun_line b)) (is_child_of b.path c) (stanza_holds (reverse front) c) both.0

-- the same, where a stanza is known to have begun
pub holds_of : (dirs : List Directory) (places : List ℕ) (begun : Option Begun) (b : Begun) (entries : List Placed) (c : Components) → begun ≡ Some b → is_begun_kinded begun entries ≡ true
    → stanza_holds (reverse (lines_in dirs places begun entries)) c ≡ is_child_of b.path c
holds_of dirs places begun b entries c is =
    let P : Option Begun → Type 0 = λ o. is_begun_kinded o entries ≡ true → stanza_holds (reverse (lines_in dirs places o entries)) c ≡ is_child_of b.path c in
    subst P (sym is) (holds_begun dirs places b entries c)

pub entry_pushed : (dirs : List Directory) (places : List ℕ) (distinct : Bool) (begun : Option Begun) (entries : List Placed) (x : Placed) (count dir_count : ℕ) (path : Components) → AreKept dirs places distinct begun entries count dir_count
    → 0 < count → x.place ≡ count → stanza_holds (reverse (lines_in dirs places begun entries)) path ≡ true → base_name path ≡ x.entry.name
    → lines_in dirs places begun (entries ++ x ∷ []) ≡ lines_in dirs places begun entries ++ record { number = count + 1; path = path; rec = x.entry.rec } ∷ []
entry_pushed dirs places distinct None entries x count dir_count path h some place holds name =
    let none : length (lines_in dirs places None entries) ≡ 0 = ap length (h.empty refl) in
    absurd (omega (arith, none, h.counted, some))
entry_pushed dirs places distinct (Some b) entries x count dir_count path h some place holds name =
    let child : is_child_of b.path path ≡ true = sym (holds_begun dirs places b entries path h.kinds) ∙ holds in
    let same : b.path ++ x.entry.name ∷ [] ≡ path = ap (λ (n : List ℕ). b.path ++ n ∷ []) (sym name) ∙ child_path b.path path child in
    more_is dirs places b entries x
    ∙ ap (λ n. lines_in dirs places (Some b) entries ++ record { number = n + 1; path = b.path ++ x.entry.name ∷ []; rec = x.entry.rec } ∷ []) place
    ∙ ap (λ (p : Components). lines_in dirs places (Some b) entries ++ record { number = count + 1; path = p; rec = x.entry.rec } ∷ []) same

-- all lines, from those that are kept
module _ (lines : List Line) (dirs : List Directory) (places : List ℕ) (distinct : Bool) (h : IsWhole lines dirs places distinct) where
  zip_moved : IsPermutation (zip_lines places (flat_map own_rows dirs)) lines
  zip_moved = subst (λ (ls : List Line). IsPermutation (zip_lines places (flat_map own_rows dirs)) ls) h.is (IsPermutation-sort_by line_cmp (zip_lines places (flat_map own_rows dirs)))

  pub whole_rows : IsPermutation (map row_of_line lines) (flat_map own_rows dirs)
  whole_rows =
      subst (λ (us : List Row). IsPermutation (map row_of_line lines) us) (zip_rows places (flat_map own_rows dirs) h.closed.whole)
      (IsPermutation-map row_of_line lines (zip_lines places (flat_map own_rows dirs)) (IsPermutation-sym (zip_lines places (flat_map own_rows dirs)) lines zip_moved))

  pub whole_few : length lines < 2 ^ 32 → are_few places ≡ true
  whole_few few =
      places_few places (flat_map own_rows dirs) h.closed.whole
      (list_all-IsPermutation (λ (l : Line). nat_lt l.number (2 ^ 32)) (zip_lines places (flat_map own_rows dirs)) lines zip_moved ∙ numbers_bound 1 (2 ^ 32) lines h.numbered (omega (arith, few)))

  pub whole_sorted : (sorted : List Line) → IsPermutation (zip_lines places (flat_map own_rows dirs)) sorted → IsSortedBy (λ x y. is_lt (line_cmp x y)) sorted → sorted ≡ lines
  whole_sorted sorted moved up =
      same_from_sorted line_cmp line_total lines sorted (numbered_ascends 1 lines h.numbered)
      (IsPermutation-trans lines (zip_lines places (flat_map own_rows dirs)) sorted (IsPermutation-sym (zip_lines places (flat_map own_rows dirs)) lines zip_moved) moved) up

  module _ (ordered : List Directory) (parents : List ℕ) (o : IsOrdered dirs ordered parents) where
    ordered_rows : IsPermutation (map row_of_line lines) (flat_map own_rows ordered)
    ordered_rows =
        IsPermutation-trans (map row_of_line lines) (flat_map own_rows dirs) (flat_map own_rows ordered) whole_rows
        (IsPermutation-flat_map own_rows dirs ordered o.moved)

    pub ordered_count : length (flat_map own_rows ordered) ≡ length lines
    ordered_count = length_permutation (map row_of_line lines) (flat_map own_rows ordered) ordered_rows ∙ length-map lines row_of_line

    pub ordered_tree : tree_of lines ≡ Ok ordered
    unfolding tree_of
    ordered_tree =
        let shape = o.tree.shape in
        let sorted = All-from_Has (λ (d : Directory). ascends entry_cmp d.entries ≡ true) ordered (λ d k. list_all-Has (λ (v : Directory). ascends entry_cmp v.entries) ordered d shape.entries k) in
        ap (λ (f : Option TreeFault). unless f (directories_of_lines lines)) (none_from_faultless lines (faultless_from_shape ordered shape lines ordered_rows))
        ∙ ap Ok (directories_are lines ordered ordered_rows shape.kinds shape.order sorted)
