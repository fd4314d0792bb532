-- Directories read one after the other, from bytes that come in pieces.
use Rattle.std.proofs.Common.{◌≡◌, ℕ, suc, ◌+◌, ◌-◌, ◌<◌, ◌≤◌, Bool, true, false, ◌&&◌, ◌||◌, List, [], ◌∷◌, ◌++◌, length, map, get_or, length-append, Result, Ok, Err, refl, sym, ap, subst, ◌∙◌, arith}
use Rattle.std.specs.Prelude.{Option, Some, None}
use Rattle.std.proofs.lemmas.List.{map-append}
use Rattle.std.proofs.lemmas.List.Folds.{list_any-append}
use Rattle.std.proofs.Math.Seq.{get_or-append_seam}
use Rattle.gufi_base.specs.Basics.{◌>>=◌}
use Rattle.gufi_tree.specs.declared.tree.Entry.{Entry}
use Rattle.gufi_tree.specs.Packs.{Placed, entries_of}
use Rattle.gufi_tree.specs.Tree.{Directory, entry_count}
use Rattle.gufi_image.specs.declared.width.Width.{Width}
use Rattle.gufi_image.specs.declared.fault.Flaw.{Flaw}
use Rattle.gufi_image.specs.declared.fault.Refused.{Refused}
use Rattle.gufi_image.specs.declared.fault.Refused.TheVariants as refusals
use Rattle.gufi_image.specs.declared.directory.Flag.{Flag}
use Rattle.gufi_image.specs.declared.directory.Open.{Open}
use Rattle.gufi_image.specs.declared.head.Head.{Head}
use Rattle.gufi_image.specs.declared.progress.Directories.{Directories as Kept}
use Rattle.gufi_image.specs.declared.progress.Progress.{Progress}
use Rattle.gufi_image.specs.Fields.{Refuses}
use Rattle.gufi_image.specs.Entries.{entries_at, one_entry}
use Rattle.gufi_image.specs.Directories.{Heading, Flagged, Front, with_entries, with_one, one_directory, directory_at, heading_at}
use Rattle.gufi_image.specs.Widths.{has_names, directory_needs, tree_needs}
use Rattle.gufi_image.specs.Repeated.{repeated}
use Rattle.gufi_image.specs.Views.{directory_in, heading, headed, nearer, front_near}
use Rattle.gufi_image.specs.Placed.{IsNext, IsPart}
use Rattle.gufi_image.specs.Pieces.{Stops, OnFlaw, UnlessMemory, entries_from, rest_from, rest_with, rest_behind, rest_of, IsRead, IsNextOpen}
use Rattle.gufi_image.proofs.Fronts.{or_none}
use Rattle.gufi_image.proofs.Longer.{heading_goes}
use Rattle.gufi_image.proofs.Parents.{parents_push}
use Rattle.gufi_image.proofs.Shape.{count_push, directories_push}

-- ---- the heading of the next one

pub heading_had : (width : Width) (total room : ℕ) (dirs : List Directory) (bytes after : List ℕ) (part kept : Open) → heading_at width total dirs bytes ≡ Ok (heading part, after)
    → kept ≡ record part { flag = record { set = part.flag.set; left = part.flag.left + room } }
    → (more : List ℕ) → length more ≤ room → heading_at width total dirs (bytes ++ more) ≡ Ok (headed (room - length more) kept, after ++ more)
heading_had width total room dirs bytes after part kept h is more within =
    let left : part.flag.left + length more ≡ part.flag.left + room - (room - length more) = omega (arith, within) in
    (heading_goes more width total dirs bytes).ok (heading part, after) h
    ∙ ap (λ n. let g : Heading = record { path = part.path; rec = part.rec; flag = record { set = part.flag.set; left = n }; count = part.count } in Ok (g, after ++ more)) left
    ∙ ap (λ (o : Open). Ok (headed (room - length more) o, after ++ more)) (sym is)

pub heading_refused : (width : Width) (total : ℕ) (dirs : List Directory) (bytes : List ℕ) (e : Refused) → Refuses e (heading_at width total dirs bytes)
    → OnFlaw e (λ f. (more : List ℕ) → Stops f more (heading_at width total dirs (bytes ++ more)))
heading_refused width total dirs bytes refusals.Memory h = tt
heading_refused width total dirs bytes (refusals.Flaw f) h = λ more only. (heading_goes more width total dirs bytes).err f h only

-- ---- what is still to come

module _ (k : ℕ) (head : Head) (before : Kept) where
  -- behind a heading its entries come
  pub rest_opened : (part : Open) (bytes after : List ℕ) → length before.packing.dirs < head.dirs → heading_at head.width head.entries before.packing.dirs bytes ≡ Ok (headed k part, after) → before.packing.pending ≡ []
      → rest_behind k head before None bytes ≡ rest_behind k head before (Some part) after
  unfolding directory_at entries_at
  rest_opened part bytes after lt h none =
      let n = head.dirs - (length before.packing.dirs + 1) in
      let left : head.dirs - length before.packing.dirs ≡ suc n = omega arith in
      let none_yet : part.count - 0 ≡ part.count = omega arith in
      let own : entries_from head.width part.path part.count (entries_of before.packing.pending) after ≡ entries_at head.width part.count part.path after =
      ap (λ (ps : List Placed). entries_from head.width part.path part.count (entries_of ps) after) none ∙ ap (λ m. repeated (one_entry head.width part.path) m [] after) none_yet
      in
      let all : rest_with head.width head.entries head.dirs k (front_near k before) part (entries_at head.width part.count part.path after) ≡ rest_behind k head before (Some part) after = ap (rest_with head.width head.entries head.dirs k (front_near k before) part) (sym own) in
      rw (left, h) (by n (entries_at head.width part.count part.path after) (λ es. omega (arith, length-append before.packing.dirs ((with_entries (headed k part) es).dir ∷ []))) ∙ all)
    where
      closing : List Entry × List ℕ → Result (Flagged × List ℕ) Flaw
      closing es = Ok (with_entries (headed k part) es.0, es.1)

      pushing : Flagged × List ℕ → Result (Front × List ℕ) Flaw
      pushing found = Ok (with_one (front_near k before) found.0, found.1)

      going : ℕ → Front × List ℕ → Result (Front × List ℕ) Flaw
      going n more = repeated (one_directory head.width head.entries) n more.0 more.1

      by : (n : ℕ) (r : Result (List Entry × List ℕ) Flaw) → ((es : List Entry) → n ≡ head.dirs - length (before.packing.dirs ++ (with_entries (headed k part) es).dir ∷ []))
          → (((r >>= closing) >>= pushing) >>= going n) ≡ rest_with head.width head.entries head.dirs k (front_near k before) part r
      by n (Ok es) count = ap (λ m. repeated (one_directory head.width head.entries) m (with_one (front_near k before) (with_entries (headed k part) es.0)) es.1) (count es.0)
      by n (Err f) count = refl

  pub unopened_stops : (f : Flaw) (bytes more : List ℕ) → length before.packing.dirs < head.dirs → Stops f more (heading_at head.width head.entries before.packing.dirs bytes) → Stops f more (rest_behind k head before None bytes)
  unfolding directory_at
  unopened_stops f bytes more lt h only =
      let left : head.dirs - length before.packing.dirs ≡ suc (head.dirs - (length before.packing.dirs + 1)) = omega arith in
      let fault = h only in
      rw (left, fault) refl

  -- behind its last entry the next directory comes
  pub rest_closed : (part : Open) (pushed : Kept) (bytes : List ℕ) → part.count ≤ length (entries_of before.packing.pending) → pushed.packing.dirs ≡ before.packing.dirs ++ directory_in part (entries_of before.packing.pending) ∷ [] → pushed.flags.items ≡ before.flags.items ++ part.flag ∷ []
      → rest_behind k head before (Some part) bytes ≡ rest_behind k head pushed None bytes
  rest_closed part pushed bytes whole push flag =
      let none : part.count - length (entries_of before.packing.pending) ≡ 0 = omega arith in
      let own : entries_from head.width part.path part.count (entries_of before.packing.pending) bytes ≡ Ok (entries_of before.packing.pending, bytes) = rw none refl in
      let flags : map (nearer k) pushed.flags.items ≡ map (nearer k) before.flags.items ++ nearer k part.flag ∷ [] = ap (map (nearer k)) flag ∙ map-append (nearer k) before.flags.items (part.flag ∷ []) in
      let more : front_near k pushed ≡ with_one (front_near k before) (with_entries (headed k part) (entries_of before.packing.pending)) =
      ap (λ (ds : List Directory). front_of ds (map (nearer k) pushed.flags.items)) push ∙ ap (front_of (before.packing.dirs ++ directory_in part (entries_of before.packing.pending) ∷ [])) flags in
      ap (rest_with head.width head.entries head.dirs k (front_near k before) part) own ∙ ap (λ (f : Front). rest_from head.width head.entries head.dirs f bytes) (sym more)
    where
      front_of : List Directory → List Flag → Front
      front_of dirs flags = record { dirs = dirs; flags = flags }

-- more of the entries of a directory were read
pub rest_filled : (k : ℕ) (head : Head) (old new : Kept) (part : Open) (bytes after : List ℕ) → new.packing.dirs ≡ old.packing.dirs → new.flags.items ≡ old.flags.items
    → entries_from head.width part.path part.count (entries_of old.packing.pending) bytes ≡ entries_from head.width part.path part.count (entries_of new.packing.pending) after
    → rest_behind k head old (Some part) bytes ≡ rest_behind k head new (Some part) after
rest_filled k head old new part bytes after dirs flags same =
    let front : front_near k new ≡ front_near k old = λ i. record { dirs = dirs i; flags = map (nearer k) (flags i) } in
    ap (rest_with head.width head.entries head.dirs k (front_near k old) part) same
    ∙ ap (λ (f : Front). rest_with head.width head.entries head.dirs k f part (entries_from head.width part.path part.count (entries_of new.packing.pending) after)) (sym front)

-- all are read
pub rest_none : (k : ℕ) (p : Progress) (bytes : List ℕ) → IsRead p → p.head.dirs ≤ length p.directories.packing.dirs → rest_of k p bytes ≡ Ok (front_near k p.directories, bytes)
rest_none k p bytes h whole = by p.part h.part where
  by : (part : Option Open) → IsNextOpen p.head.dirs p.head.entries p.directories.packing part → rest_behind k p.head p.directories part bytes ≡ Ok (front_near k p.directories, bytes)
  by None is = let none : p.head.dirs - length p.directories.packing.dirs ≡ 0 = omega arith in rw none refl
  by (Some part) is = absurd (omega (arith, is.0))

-- ---- what was read

pub next_of : (total : ℕ) (dirs : List Directory) (part : Open) (entries : List Entry) → IsPart total dirs part entries → IsNext total dirs (directory_in part entries)
next_of total dirs part entries h = record { few = omega (arith, h.heading.few, h.within); kind = h.heading.kind; entries = h.entries_are; placed = h.heading.placed }

-- one directory more has what no lesser width holds, or hasn't
needed_push : (b : Bool) (width : Width) (dirs : List Directory) (dir : Directory) → (b && tree_needs width (dirs ++ dir ∷ [])) ≡ (b && tree_needs width dirs || b && directory_needs width dir)
needed_push false width dirs dir = refl
needed_push true width dirs dir = list_any-append (directory_needs width) dirs (dir ∷ []) ∙ ap (λ b. tree_needs width dirs || b) (or_none (directory_needs width dir))

last_pushed : (dirs : List Directory) (d : Directory) → get_or (dirs ++ d ∷ []) (length (dirs ++ d ∷ []) - 1) d ≡ d
last_pushed dirs d =
    let k : length (dirs ++ d ∷ []) - 1 ≡ length dirs = omega (arith, length-append dirs (d ∷ [])) in
    ap (λ n. get_or (dirs ++ d ∷ []) n d) k ∙ get_or-append_seam dirs d [] d

pub needed_close : (seen b needed : Bool) (width : Width) (dirs pushed : List Directory) (d dir : Directory) → pushed ≡ dirs ++ d ∷ [] → d ≡ dir → needed ≡ (seen || b && directory_needs width (get_or pushed (length pushed - 1) d))
    → needed ≡ (seen || b && directory_needs width dir)
needed_close seen b needed width dirs pushed d dir push same is =
    is ∙ ap (λ (ds : List Directory). seen || b && directory_needs width (get_or ds (length ds - 1) d)) push ∙ ap (λ (v : Directory). seen || b && directory_needs width v) (last_pushed dirs d ∙ same)

pub closed_read : (p closed : Progress) (part : Open) (entries : List Entry) → IsRead p → IsPart p.head.entries p.directories.packing.dirs part entries → length p.directories.packing.dirs < p.head.dirs
    → closed.head ≡ p.head → closed.part ≡ None
    → closed.directories.packing.dirs ≡ p.directories.packing.dirs ++ directory_in part entries ∷ [] → closed.directories.packing.pending ≡ [] → closed.directories.parents.items ≡ p.directories.parents.items ++ part.parent ∷ []
    → closed.directories.entries ≡ p.directories.entries + length entries → closed.directories.needed ≡ (p.directories.needed || has_names p.head.width && directory_needs p.head.width (directory_in part entries)) → IsRead closed
closed_read p closed part entries h o lt same none push empty grown more seen =
    let dirs = p.directories.packing.dirs in
    let dir = directory_in part entries in
    let len : length closed.directories.packing.dirs ≡ length dirs + 1 = omega (arith, ap (λ (ds : List Directory). length ds) push, length-append dirs (dir ∷ [])) in
    let next = next_of p.head.entries dirs part entries o in
    let counted : entry_count closed.directories.packing.dirs ≡ entry_count (dirs ++ dir ∷ []) = ap (λ (ds : List Directory). entry_count ds) push in
    let all = directories_push (length dirs) p.head.entries dirs closed.directories.packing.dirs dir push h.directories next in
    record {
      head = rw same h.head;
      directories = rw (same, len) all;
      parents = parents_push dirs closed.directories.packing.dirs p.directories.parents.items closed.directories.parents.items dir part.parent push grown h.parents next.placed o.heading.parent;
      count = omega (arith, more, counted, count_push dirs dir, h.count);
      needed = rw (same, push) (seen ∙ ap (λ b. b || has_names p.head.width && directory_needs p.head.width dir) h.needed ∙ sym (needed_push (has_names p.head.width) p.head.width dirs dir));
      part = rw (none, same, len) (omega arith, empty);
    }

-- the one whose entries are being read
pub part_read : (p : Progress) (part : Open) → IsRead p → p.part ≡ Some part → (length p.directories.packing.dirs < p.head.dirs) × IsPart p.head.entries p.directories.packing.dirs part (entries_of p.directories.packing.pending)
part_read p part h is = subst (λ (o : Option Open). IsNextOpen p.head.dirs p.head.entries p.directories.packing o) is h.part

-- none is
pub none_read : (p : Progress) → IsRead p → p.part ≡ None → p.directories.packing.pending ≡ []
none_read p h is = (subst (λ (o : Option Open). IsNextOpen p.head.dirs p.head.entries p.directories.packing o) is h.part).1

-- ---- one reading behind the other

pub unless_map : (r : Result (Unit {0}) Refused) (P Q : Type 0) → (P → Q) → UnlessMemory r P → UnlessMemory r Q
unless_map (Ok u) P Q f h = f h
unless_map (Err refusals.Memory) P Q f h = tt
unless_map (Err (refusals.Flaw d)) P Q f h = f h

pub refusal_map : (e : Refused) (P Q : Flaw → Type 0) → ((f : Flaw) → P f → Q f) → OnFlaw e P → OnFlaw e Q
refusal_map refusals.Memory P Q then h = tt
refusal_map (refusals.Flaw f) P Q then h = then f h

-- ---- the directory whose entries are being read

pub few_read : (p : Progress) → IsRead p → length p.directories.packing.dirs ≤ p.head.dirs
few_read p h = by p.part h.part where
  by : (part : Option Open) → IsNextOpen p.head.dirs p.head.entries p.directories.packing part → length p.directories.packing.dirs ≤ p.head.dirs
  by None is = is.0
  by (Some part) is = omega (arith, is.0)

pub rest_at : (k : ℕ) (p : Progress) (part : Option Open) (bytes : List ℕ) → p.part ≡ part → rest_of k p bytes ≡ rest_behind k p.head p.directories part bytes
rest_at k p part bytes is = ap (λ (o : Option Open). rest_behind k p.head p.directories o bytes) is
