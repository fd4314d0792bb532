-- No entry has the name of a subdirectory.
use Rattle.std.proofs.Common.{◌≡◌, ◌+◌, ◌≤◌, inl, inr, Bool, true, false, not, ◌||◌, cond, List, [], ◌∷◌, ◌++◌, map, refl, sym, subst, arith}
use Rattle.std.specs.Ordering.{is_eq}
use Rattle.std.specs.List.{flat_map, list_all}
use Rattle.std.specs.List.Sorted.{IsPermutation}
use Rattle.std.proofs.lemmas.Bool.{false≢true, false_from_ne_true, not_from_false}
use Rattle.std.proofs.lemmas.Cmp.{tied_itself}
use Rattle.gufi_base.specs.declared.record.Line.{Line}
use Rattle.gufi_base.specs.declared.record.Row.{Row}
use Rattle.gufi_base.specs.Paths.{Components, path_cmp, path_eq}
use Rattle.gufi_base.proofs.SortedOnce.{times}
use Rattle.gufi_tree.specs.declared.tree.Entry.{Entry}
use Rattle.gufi_tree.specs.Gathered.{row_of_line}
use Rattle.gufi_tree.specs.Tree.{Directory, entry_row, own_rows, has_dir, is_kinded}
use Rattle.gufi_tree.proofs.Built.{path_cmp-total, Has}
use Rattle.gufi_tree.proofs.Faultless.{IsFaultless, alike, is_eq-path_cmp}
use Rattle.gufi_tree.proofs.Placed.{times-append, list_all-from_Has, once_rows}

abbrev entry_rows : Directory → List Row
entry_rows d = map (entry_row d.path) d.entries

-- all rows are those of directories and those of entries
dirs_and_entries : (z : Row) (tree : List Directory)
    → times (alike z) (flat_map own_rows tree) ≡ times (λ (v : Directory). is_eq (path_cmp z.path v.path)) tree + times (alike z) (flat_map entry_rows tree)
dirs_and_entries z [] = omega arith
dirs_and_entries z (d ∷ ds) =
    let ih : times (alike z) (flat_map own_rows ds) ≡ times (λ (v : Directory). is_eq (path_cmp z.path v.path)) ds + times (alike z) (flat_map entry_rows ds) = dirs_and_entries z ds in
    let all : times (alike z) (own_rows d ++ flat_map own_rows ds) ≡ times (alike z) (own_rows d) + times (alike z) (flat_map own_rows ds) = times-append (alike z) (own_rows d) (flat_map own_rows ds) in
    let one : times (alike z) (own_rows d) ≡ cond (is_eq (path_cmp z.path d.path)) 1 0 + times (alike z) (entry_rows d) = refl in
    let rest : times (alike z) (entry_rows d ++ flat_map entry_rows ds) ≡ times (alike z) (entry_rows d) + times (alike z) (flat_map entry_rows ds) = times-append (alike z) (entry_rows d) (flat_map entry_rows ds) in
    omega arith

one_dir : (p : Components) (tree : List Directory) → has_dir tree p ≡ true → 1 ≤ times (λ (v : Directory). is_eq (path_cmp p v.path)) tree
one_dir p [] h = absurd (false≢true h)
one_dir p (d ∷ ds) h = by (path_eq p d.path) (is_eq-path_cmp p d.path) h (one_dir p ds) where
  by : (b : Bool) → is_eq (path_cmp p d.path) ≡ b → (b || has_dir ds p) ≡ true → (has_dir ds p ≡ true → 1 ≤ times (λ (v : Directory). is_eq (path_cmp p v.path)) ds)
      → 1 ≤ cond (is_eq (path_cmp p d.path)) 1 0 + times (λ (v : Directory). is_eq (path_cmp p v.path)) ds
  by true e k rest = rw e (omega arith)
  by false e k rest = let more : 1 ≤ times (λ (v : Directory). is_eq (path_cmp p v.path)) ds = rest k in omega arith

own_entry : (p : Components) (es : List Entry) (e : Entry) → Has es e → 1 ≤ times (alike (entry_row p e)) (map (entry_row p) es)
own_entry p [] e k = absurd k
own_entry p (v ∷ es) e (inl k) =
    let P : Entry → Type 0 = λ w. 1 ≤ cond (is_eq (path_cmp (p ++ w.name ∷ []) (p ++ v.name ∷ []))) 1 0 + times (alike (entry_row p w)) (map (entry_row p) es) in
    subst P k (rw (tied_itself path_cmp-total (p ++ v.name ∷ [])) (omega arith))
own_entry p (v ∷ es) e (inr k) = let more : 1 ≤ times (alike (entry_row p e)) (map (entry_row p) es) = own_entry p es e k in omega arith

one_entry : (tree : List Directory) (d : Directory) (e : Entry) → Has tree d → Has d.entries e → 1 ≤ times (alike (entry_row d.path e)) (flat_map entry_rows tree)
one_entry [] d e k m = absurd k
one_entry (c ∷ ds) d e (inl k) m =
    let P : Directory → Type 0 = λ v. 1 ≤ times (alike (entry_row v.path e)) (entry_rows v ++ flat_map entry_rows ds) in
    let Q : Directory → Type 0 = λ v. Has v.entries e in
    let here : 1 ≤ times (alike (entry_row c.path e)) (entry_rows c) = own_entry c.path c.entries e (subst Q (sym k) m) in
    let all : times (alike (entry_row c.path e)) (entry_rows c ++ flat_map entry_rows ds) ≡ times (alike (entry_row c.path e)) (entry_rows c) + times (alike (entry_row c.path e)) (flat_map entry_rows ds) = times-append (alike (entry_row c.path e)) (entry_rows c) (flat_map entry_rows ds) in
    let first : P c = omega arith in
    let R : Directory → Type 0 = λ v. 1 ≤ times (alike (entry_row v.path e)) (entry_rows c ++ flat_map entry_rows ds) in
    subst R k first
one_entry (c ∷ ds) d e (inr k) m =
    let more : 1 ≤ times (alike (entry_row d.path e)) (flat_map entry_rows ds) = one_entry ds d e k m in
    let all : times (alike (entry_row d.path e)) (entry_rows c ++ flat_map entry_rows ds) ≡ times (alike (entry_row d.path e)) (entry_rows c) + times (alike (entry_row d.path e)) (flat_map entry_rows ds) = times-append (alike (entry_row d.path e)) (entry_rows c) (flat_map entry_rows ds) in
    omega arith

pub entries_apart : (lines : List Line) (tree : List Directory) → IsPermutation (map row_of_line lines) (flat_map own_rows tree) → list_all is_kinded tree ≡ true → IsFaultless lines
    → list_all (λ (d : Directory). list_all (λ (e : Entry). not (has_dir tree (d.path ++ e.name ∷ []))) d.entries) tree ≡ true
entries_apart lines tree rows kinds sound =
    list_all-from_Has (λ (d : Directory). list_all (λ (e : Entry). not (has_dir tree (d.path ++ e.name ∷ []))) d.entries) tree (λ d k.
    list_all-from_Has (λ (e : Entry). not (has_dir tree (d.path ++ e.name ∷ []))) d.entries (λ e m.
    not_from_false (has_dir tree (d.path ++ e.name ∷ [])) (false_from_ne_true (has_dir tree (d.path ++ e.name ∷ [])) (λ h.
    let few : times (alike (entry_row d.path e)) (flat_map own_rows tree) ≤ 1 = once_rows lines tree rows kinds sound (entry_row d.path e) in
    let split : times (alike (entry_row d.path e)) (flat_map own_rows tree) ≡ times (λ (v : Directory). is_eq (path_cmp (d.path ++ e.name ∷ []) v.path)) tree + times (alike (entry_row d.path e)) (flat_map entry_rows tree) = dirs_and_entries (entry_row d.path e) tree in
    let a : 1 ≤ times (λ (v : Directory). is_eq (path_cmp (d.path ++ e.name ∷ []) v.path)) tree = one_dir (d.path ++ e.name ∷ []) tree h in
    let b : 1 ≤ times (alike (entry_row d.path e)) (flat_map entry_rows tree) = one_entry tree d e k m in
    omega arith))))
