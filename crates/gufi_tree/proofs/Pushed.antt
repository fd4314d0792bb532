-- One line more, among directories and lines that are left.
use Rattle.std.proofs.Common.{◌≡◌, ℕ, zero, suc, ◌<◌, true, false, not, List, [], ◌∷◌, ◌++◌, map, length, get_or, set, refl, sym, ap, ◌∙◌, subst, arith, append_assoc}
use Rattle.std.specs.Prelude.{Result, Ok, Err, OnOk}
use Rattle.std.specs.List.{flat_map, list_all}
use Rattle.std.specs.List.Sorted.{IsPermutation}
use Rattle.std.proofs.lemmas.Bool.{and_parts, and_from, false≢true}
use Rattle.std.proofs.lemmas.List.{map_push}
use Rattle.std.proofs.lemmas.List.Concat.{flat_map-append}
use Rattle.std.proofs.lemmas.List.Folds.{list_all-append}
use Rattle.std.proofs.lemmas.List.Sorted.{IsPermutation-trans, IsPermutation-append_left, IsPermutation-append_right, IsPermutation-append_comm}
use Rattle.gufi_base.specs.declared.record.Line.{Line}
use Rattle.gufi_base.specs.declared.record.Row.{Row}
use Rattle.gufi_base.specs.Paths.{Components, parent_path, base_name, is_child_of}
use Rattle.gufi_base.specs.Kinds.{is_dir}
use Rattle.gufi_base.proofs.Cuts.{all_but_last_and_last}
use Rattle.gufi_tree.specs.declared.tree.Entry.{Entry}
use Rattle.gufi_tree.specs.declared.tree.Stored.{Stored}
use Rattle.gufi_tree.specs.Tree.{Directory, dir_row, entry_row, own_rows, is_kinded}
use Rattle.gufi_tree.specs.Stored.{directories_of}
use Rattle.gufi_tree.specs.Build.{is_dir_line, entry_of_line}
use Rattle.gufi_tree.specs.StanzaLines.{HasOneMore}
use Rattle.gufi_tree.specs.Gathered.{row_of_line, rows_of, IsGathered}
use Rattle.gufi_tree.proofs.Built.{path_eq-Decides}

-- a child's path is its parent's and its own name
pub child_path : (p c : Components) → is_child_of p c ≡ true → p ++ base_name c ∷ [] ≡ c
child_path p [] h = absurd (false≢true h)
child_path p (n ∷ c) h =
    ap (λ (q : Components). q ++ base_name (n ∷ c) ∷ []) ((path_eq-Decides p (parent_path (n ∷ c))).0 h) ∙ all_but_last_and_last (47 ∷ []) n c

module _ (old new : Stored) (e : Entry) (more : HasOneMore old new e) where
  own_more : own_rows (record { path = new.path; rec = new.rec; entries = new.entries.items }) ≡ own_rows (record { path = old.path; rec = old.rec; entries = old.entries.items }) ++ entry_row old.path e ∷ []
  own_more =
      rw (more.path, more.rec, more.entries)
      (ap (λ (us : List Row). dir_row (record { path = old.path; rec = old.rec; entries = old.entries.items }) ∷ us) (map_push (entry_row old.path) old.entries.items e))

  own_kinded : is_kinded (record { path = old.path; rec = old.rec; entries = old.entries.items }) ≡ true → not (is_dir e.rec.meta.kind) ≡ true → is_kinded (record { path = new.path; rec = new.rec; entries = new.entries.items }) ≡ true
  own_kinded h k =
      let both = and_parts (is_dir old.rec.meta.kind) (list_all (λ (v : Entry). not (is_dir v.rec.meta.kind)) old.entries.items) h in
      rw (more.rec, more.entries)
      (and_from _ _ both.0 (list_all-append (λ (v : Entry). not (is_dir v.rec.meta.kind)) old.entries.items (e ∷ []) ∙ and_from _ _ both.1 (and_from _ _ k refl)))

rows_at : (stored : List Stored) (k : ℕ) (old new : Stored) (e : Entry) → k < length stored → old ≡ get_or stored k old → HasOneMore old new e
    → IsPermutation (rows_of stored ++ entry_row old.path e ∷ []) (rows_of (set stored k new))
rows_at [] k old new e lt is more = absurd (omega arith)
rows_at (s ∷ stored) zero old new e lt is more =
    let own : own_rows (record { path = new.path; rec = new.rec; entries = new.entries.items }) ≡ own_rows (record { path = s.path; rec = s.rec; entries = s.entries.items }) ++ entry_row old.path e ∷ [] =
    own_more old new e more ∙ ap (λ (v : Stored). own_rows (record { path = v.path; rec = v.rec; entries = v.entries.items }) ++ entry_row old.path e ∷ []) is in
    let first = own_rows (record { path = s.path; rec = s.rec; entries = s.entries.items }) in
    let one = entry_row old.path e ∷ [] in
    let moved : IsPermutation ((first ++ rows_of stored) ++ one) ((first ++ one) ++ rows_of stored) =
    subst (λ (us : List Row). IsPermutation us ((first ++ one) ++ rows_of stored)) (sym (append_assoc first (rows_of stored) one))
    (subst (λ (us : List Row). IsPermutation (first ++ (rows_of stored ++ one)) us) (sym (append_assoc first one (rows_of stored)))
    (IsPermutation-append_right first (rows_of stored ++ one) (one ++ rows_of stored) (IsPermutation-append_comm (rows_of stored) one))) in
    subst (λ (us : List Row). IsPermutation ((first ++ rows_of stored) ++ one) (us ++ rows_of stored)) (sym own) moved
rows_at (s ∷ stored) (suc k) old new e lt is more =
    let first = own_rows (record { path = s.path; rec = s.rec; entries = s.entries.items }) in
    let one = entry_row old.path e ∷ [] in
    subst (λ (us : List Row). IsPermutation us (first ++ rows_of (set stored k new))) (sym (append_assoc first (rows_of stored) one))
    (IsPermutation-append_right first (rows_of stored ++ one) (rows_of (set stored k new)) (rows_at stored k old new e (omega arith) is more))

pub rows_pushed : (stored : List Stored) (k : ℕ) (old new : Stored) (line : Line) → k < length stored → old ≡ get_or stored k old → HasOneMore old new (entry_of_line line) → is_child_of old.path line.path ≡ true
    → IsPermutation (rows_of stored ++ row_of_line line ∷ []) (rows_of (set stored k new))
rows_pushed stored k old new line lt is more child =
    subst (λ (p : Components). IsPermutation (rows_of stored ++ record { path = p; rec = line.rec } ∷ []) (rows_of (set stored k new))) (child_path old.path line.path child)
    (rows_at stored k old new (entry_of_line line) lt is more)

pub kinds_pushed : (stored : List Stored) (k : ℕ) (old new : Stored) (e : Entry) → k < length stored → old ≡ get_or stored k old → HasOneMore old new e
    → not (is_dir e.rec.meta.kind) ≡ true → list_all is_kinded (directories_of stored) ≡ true → list_all is_kinded (directories_of (set stored k new)) ≡ true
kinds_pushed [] k old new e lt is more kind h = absurd (omega arith)
kinds_pushed (s ∷ stored) zero old new e lt is more kind h =
    let both = and_parts (is_kinded (record { path = s.path; rec = s.rec; entries = s.entries.items })) (list_all is_kinded (directories_of stored)) h in
    let P : Stored → Type 0 = λ v. is_kinded (record { path = v.path; rec = v.rec; entries = v.entries.items }) ≡ true in
    and_from _ _ (own_kinded old new e more (subst P (sym is) both.0) kind) both.1
kinds_pushed (s ∷ stored) (suc k) old new e lt is more kind h =
    let both = and_parts (is_kinded (record { path = s.path; rec = s.rec; entries = s.entries.items })) (list_all is_kinded (directories_of stored)) h in
    and_from _ _ both.0 (kinds_pushed stored k old new e (omega arith) is more kind both.1)

-- the paths of directories stay
pub paths_pushed : (stored : List Stored) (k : ℕ) (old new : Stored) → old ≡ get_or stored k old → new.path ≡ old.path → map (λ (s : Stored). s.path) (set stored k new) ≡ map (λ (s : Stored). s.path) stored
paths_pushed [] k old new is same = refl
paths_pushed (s ∷ stored) zero old new is same = ap (λ (p : Components). p ∷ map (λ (v : Stored). v.path) stored) (same ∙ ap (λ (v : Stored). v.path) is)
paths_pushed (s ∷ stored) (suc k) old new is same = ap (λ (ps : List Components). s.path ∷ ps) (paths_pushed stored k old new is same)

module _ (lines : List Line) (line : Line) where
  row_more : (stored rest : List Row) → IsPermutation (map row_of_line lines) (stored ++ rest) → IsPermutation (map row_of_line (lines ++ line ∷ [])) ((stored ++ row_of_line line ∷ []) ++ rest)
  row_more stored rest h =
      let one = row_of_line line ∷ [] in
      subst (λ (us : List Row). IsPermutation us ((stored ++ one) ++ rest)) (sym (map_push row_of_line lines line))
      (IsPermutation-trans (map row_of_line lines ++ one) ((stored ++ rest) ++ one) ((stored ++ one) ++ rest) (IsPermutation-append_left one (map row_of_line lines) (stored ++ rest) h)
      (subst (λ (us : List Row). IsPermutation us ((stored ++ one) ++ rest)) (sym (append_assoc stored rest one))
      (subst (λ (us : List Row). IsPermutation (stored ++ (rest ++ one)) us) (sym (append_assoc stored one rest))
      (IsPermutation-append_right stored (rest ++ one) (one ++ rest) (IsPermutation-append_comm rest one)))))

  -- a line that begins a directory
  pub gathered_begun : (old new : List Stored) (loose : List Line) → directories_of new ≡ directories_of old ++ record { path = line.path; rec = line.rec; entries = [] } ∷ []
      → is_dir_line line ≡ true → IsGathered lines old loose → IsGathered (lines ++ line ∷ []) new loose
  gathered_begun old new loose e kind h =
      let one : Directory = record { path = line.path; rec = line.rec; entries = [] } in
      let same : rows_of new ≡ rows_of old ++ row_of_line line ∷ [] = ap (flat_map own_rows) e ∙ flat_map-append own_rows (directories_of old) (one ∷ []) in
      record {
        rows = subst (λ (us : List Row). IsPermutation (map row_of_line (lines ++ line ∷ [])) (us ++ map row_of_line loose)) (sym same) (row_more (rows_of old) (map row_of_line loose) h.rows);
        kinds = ap (list_all is_kinded) e ∙ list_all-append is_kinded (directories_of old) (one ∷ []) ∙ and_from _ _ h.kinds (and_from _ _ (and_from _ _ kind refl) refl);
        entries = h.entries;
      }

  -- a line that goes into a directory
  pub gathered_kept : (old new : List Stored) (loose : List Line) → IsPermutation (rows_of old ++ row_of_line line ∷ []) (rows_of new)
      → list_all is_kinded (directories_of new) ≡ true → IsGathered lines old loose → IsGathered (lines ++ line ∷ []) new loose
  gathered_kept old new loose moved kinds h =
      record {
        rows = IsPermutation-trans _ _ _ (row_more (rows_of old) (map row_of_line loose) h.rows) (IsPermutation-append_left (map row_of_line loose) (rows_of old ++ row_of_line line ∷ []) (rows_of new) moved);
        kinds = kinds;
        entries = h.entries;
      }

  -- a line that is left
  pub gathered_left : (stored : List Stored) (loose : List Line) → is_dir_line line ≡ false → IsGathered lines stored loose → IsGathered (lines ++ line ∷ []) stored (loose ++ line ∷ [])
  gathered_left stored loose kind h =
      let one = row_of_line line ∷ [] in
      record {
        rows = subst (λ (us : List Row). IsPermutation (map row_of_line (lines ++ line ∷ [])) (rows_of stored ++ us)) (sym (map_push row_of_line loose line))
            (subst (λ (us : List Row). IsPermutation (map row_of_line (lines ++ line ∷ [])) us) (append_assoc (rows_of stored) (map row_of_line loose) one)
            (subst (λ (us : List Row). IsPermutation us ((rows_of stored ++ map row_of_line loose) ++ one)) (sym (map_push row_of_line lines line))
            (IsPermutation-append_left one (map row_of_line lines) (rows_of stored ++ map row_of_line loose) h.rows)));
        kinds = h.kinds;
        entries = list_all-append (λ (v : Line). not (is_dir_line v)) loose (line ∷ []) ∙ and_from _ _ h.entries (and_from _ _ (ap not kind) refl);
      }

pub on_ok_both : {A E : Type 0} {P Q R : Type 0} (r : Result A E) → (P → Q → R) → OnOk r P → OnOk r Q → OnOk r R
on_ok_both (Ok x) f p q = f p q
on_ok_both (Err e) f p q = tt
