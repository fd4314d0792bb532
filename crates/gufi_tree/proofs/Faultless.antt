-- Lines without a fault: the root is there, no two paths are equal, and each parent is there.
use Rattle.std.proofs.Common.{◌≡◌, ℕ, ◌+◌, ◌≤◌, Bool, true, false, not, ◌||◌, cond, List, [], ◌∷◌, ◌++◌, map, Option, Some, None, refl, sym, ap, ◌∙◌, subst, arith}
use Rattle.std.specs.declared.cmp.Ordering.{Ordering}
use Rattle.std.specs.declared.cmp.Ordering.TheVariants.{Less, Equal, Greater}
use Rattle.std.specs.Ordering.{nat_cmp, ordering_then, is_eq}
use Rattle.std.specs.Cmp.Lexicographic.{slice_cmp}
use Rattle.std.specs.List.{list_any, list_all}
use Rattle.std.specs.Option.{option_or}
use Rattle.std.proofs.lemmas.Bool.{false≢true, and_parts, and_from, or_parts, not-true, not_from_false}
use Rattle.std.proofs.lemmas.Bool.Decides.{same_from_decides}
use Rattle.std.proofs.lemmas.Cmp.{nat_list_cmp_total, tied_itself}
use Rattle.std.proofs.lemmas.Map.Lookups.{exact_bytes}
use Rattle.gufi_base.specs.declared.record.Line.{Line}
use Rattle.gufi_base.specs.declared.record.Row.{Row}
use Rattle.gufi_base.specs.Paths.{Components, path_cmp, path_eq}
use Rattle.gufi_base.specs.Rows.{row_cmp}
use Rattle.gufi_base.proofs.SortedOnce.{times, Once}
use Rattle.gufi_tree.specs.declared.fault.TreeFault.{TreeFault}
use Rattle.gufi_tree.specs.declared.fault.TreeFault.TheVariants.{NoRoot, Duplicate, Orphan}
use Rattle.gufi_tree.specs.Build.{names_dir, is_duplicate, is_orphan, line_fault, least_fault, tree_fault}
use Rattle.gufi_tree.specs.Gathered.{row_of_line}
use Rattle.gufi_tree.proofs.Built.{path_eq-Decides, path_cmp-total}

then_equal : (a b : Ordering) → ordering_then a b ≡ Equal → (a ≡ Equal) × (b ≡ Equal)
then_equal Less b e = absurd cc
then_equal Equal b e = (refl, e)
then_equal Greater b e = absurd cc

-- paths that compare alike are one
pub exact_paths : (p q : Components) → path_cmp p q ≡ Equal → p ≡ q
exact_paths [] [] e = refl
exact_paths [] (n ∷ q) e = absurd cc
exact_paths (n ∷ p) [] e = absurd cc
exact_paths (n ∷ p) (m ∷ q) e =
    let both = then_equal (slice_cmp nat_cmp n m) (path_cmp p q) e in
    ap (λ (x : List ℕ). x ∷ p) (exact_bytes n m both.0) ∙ ap (λ (xs : Components). m ∷ xs) (exact_paths p q both.1)

is_equal : (o : Ordering) → is_eq o ≡ true → o ≡ Equal
is_equal Less e = absurd (false≢true e)
is_equal Equal e = refl
is_equal Greater e = absurd (false≢true e)

pub is_eq-path_cmp : (p q : Components) → is_eq (path_cmp p q) ≡ path_eq p q
is_eq-path_cmp p q =
    same_from_decides (is_eq (path_cmp p q)) (path_eq p q)
    ((λ e. exact_paths p q (is_equal (path_cmp p q) e)), (λ e. ap is_eq (ap (λ (x : Components). path_cmp x q) e ∙ tied_itself path_cmp-total q)))
    (path_eq-Decides p q)

-- two names in one directory
pub path_cmp-child : (p : Components) (a b : List ℕ) → path_cmp (p ++ a ∷ []) (p ++ b ∷ []) ≡ slice_cmp nat_cmp a b
path_cmp-child [] a b = by (slice_cmp nat_cmp a b) where
  by : (o : Ordering) → ordering_then o Equal ≡ o
  by Less = refl
  by Equal = refl
  by Greater = refl
path_cmp-child (n ∷ p) a b =
    ap (λ o. ordering_then o (path_cmp (p ++ a ∷ []) (p ++ b ∷ []))) (tied_itself nat_list_cmp_total n) ∙ path_cmp-child p a b

pub record IsFaultless (lines : List Line) : Type 0 where
  pub root : names_dir lines [] ≡ true
  pub once : Once row_cmp (map row_of_line lines)
  pub parents : list_all (λ line. not (is_orphan lines line)) lines ≡ true

abbrev pub alike : Row → Row → Bool
alike z row = is_eq (row_cmp z row)

-- no line with the path, as a count
none_alike : (z : Row) (lines : List Line) → list_any (λ (other : Line). path_eq z.path other.path) lines ≡ false → times (alike z) (map row_of_line lines) ≡ 0
none_alike z [] h = refl
none_alike z (line ∷ lines) h =
    let both = or_parts (path_eq z.path line.path) (list_any (λ (other : Line). path_eq z.path other.path) lines) h in
    let rest : times (alike z) (map row_of_line lines) ≡ 0 = none_alike z lines both.1 in
    rw (is_eq-path_cmp z.path line.path, both.0) (omega arith)

alike_none : (z : Row) (lines : List Line) → times (alike z) (map row_of_line lines) ≤ 0 → list_any (λ (other : Line). path_eq z.path other.path) lines ≡ false
alike_none z [] h = refl
alike_none z (line ∷ lines) h = by (path_eq z.path line.path) (sym (is_eq-path_cmp z.path line.path)) (alike_none z lines) h where
  by : (b : Bool) → b ≡ is_eq (path_cmp z.path line.path) → (times (alike z) (map row_of_line lines) ≤ 0 → list_any (λ (other : Line). path_eq z.path other.path) lines ≡ false)
      → cond (is_eq (path_cmp z.path line.path)) 1 0 + times (alike z) (map row_of_line lines) ≤ 0 → (b || list_any (λ (other : Line). path_eq z.path other.path) lines) ≡ false
  by true e rest n =
      let m : 1 + times (alike z) (map row_of_line lines) ≤ 0 = rw (← e) at n in
      absurd (omega arith)
  by false e rest n = rest (omega arith)

module _ (all : List Line) where
  fault_parts : (d o : Bool) (x y : TreeFault) → cond d (Some x) (cond o (Some y) None) ≡ None → (d ≡ false) × (o ≡ false)
  fault_parts true o x y e = absurd cc
  fault_parts false true x y e = absurd cc
  fault_parts false false x y e = (refl, refl)

  both_none : (a b : Option TreeFault) → option_or a b ≡ None → (a ≡ None) × (b ≡ None)
  both_none None b e = (refl, e)
  both_none (Some x) b e = absurd cc

  -- one line more, of which no earlier one has the path
  once_more : (earlier : List Line) (line : Line) → is_duplicate earlier line ≡ false → ((z : Row) → times (alike z) (map row_of_line earlier) ≤ 1)
      → (z : Row) → times (alike z) (map row_of_line (line ∷ earlier)) ≤ 1
  once_more earlier line d once z = by (is_eq (path_cmp z.path line.path)) refl where
    by : (b : Bool) → is_eq (path_cmp z.path line.path) ≡ b → cond b 1 0 + times (alike z) (map row_of_line earlier) ≤ 1
    by true e =
        let same : line.path ≡ z.path = sym (exact_paths z.path line.path (is_equal (path_cmp z.path line.path) e)) in
        let P : Components → Type 0 = λ p. list_any (λ (other : Line). path_eq p other.path) earlier ≡ false in
        let none : times (alike z) (map row_of_line earlier) ≡ 0 = none_alike z earlier (subst P same d) in
        omega arith
    by false e = omega (arith, once z)

  pub once_from_none : (earlier rest : List Line) → least_fault all earlier rest ≡ None → ((z : Row) → times (alike z) (map row_of_line earlier) ≤ 1)
      → ((z : Row) → times (alike z) (map row_of_line rest) + times (alike z) (map row_of_line earlier) ≤ 1) × (list_all (λ line. not (is_orphan all line)) rest ≡ true)
  once_from_none earlier [] e once = ((λ z. omega (arith, once z)), refl)
  once_from_none earlier (line ∷ rest) e once =
      let both = both_none (line_fault all earlier line) (least_fault all (line ∷ earlier) rest) e in
      let parts = fault_parts (is_duplicate earlier line) (is_orphan all line) (Duplicate line.number) (Orphan line.number) both.0 in
      let more = once_from_none (line ∷ earlier) rest both.1 (once_more earlier line parts.0 once) in (
        (λ z.
            let h : times (alike z) (map row_of_line rest) + (cond (alike z (row_of_line line)) 1 0 + times (alike z) (map row_of_line earlier)) ≤ 1 = more.0 z in
            omega arith),
        and_from _ _ (not_from_false (is_orphan all line) parts.1) more.1,
      )

  pub none_from_once : (earlier rest : List Line) → ((z : Row) → times (alike z) (map row_of_line rest) + times (alike z) (map row_of_line earlier) ≤ 1)
      → list_all (λ line. not (is_orphan all line)) rest ≡ true → least_fault all earlier rest ≡ None
  none_from_once earlier [] once parents = refl
  none_from_once earlier (line ∷ rest) once parents =
      let both = and_parts (not (is_orphan all line)) (list_all (λ other. not (is_orphan all other)) rest) parents in
      let own : (cond (is_eq (path_cmp line.path line.path)) 1 0 + times (alike (row_of_line line)) (map row_of_line rest)) + times (alike (row_of_line line)) (map row_of_line earlier) ≤ 1 = once (row_of_line line) in
      let counted : (1 + times (alike (row_of_line line)) (map row_of_line rest)) + times (alike (row_of_line line)) (map row_of_line earlier) ≤ 1 = rw (tied_itself path_cmp-total line.path) at own in
      let first : is_duplicate earlier line ≡ false = alike_none (row_of_line line) earlier (omega arith) in
      rw (first, not-true (is_orphan all line) both.0)
      (none_from_once (line ∷ earlier) rest (λ z.
      let h : (cond (alike z (row_of_line line)) 1 0 + times (alike z) (map row_of_line rest)) + times (alike z) (map row_of_line earlier) ≤ 1 = once z in
      omega arith) both.1)

module _ (lines : List Line) where
  pub faultless_from_none : tree_fault lines ≡ None → IsFaultless lines
  faultless_from_none e = by (names_dir lines []) refl e where
    by : (b : Bool) → names_dir lines [] ≡ b → cond b (least_fault lines [] lines) (Some NoRoot) ≡ None → IsFaultless lines
    by true r h =
        let parts = once_from_none lines [] lines h (λ z. omega arith) in
        record { root = r; once = λ z. omega (arith, parts.0 z); parents = parts.1 }
    by false r h = absurd cc

  pub none_from_faultless : IsFaultless lines → tree_fault lines ≡ None
  none_from_faultless h =
      rw h.root (none_from_once lines [] lines (λ z. omega (arith, h.once z)) h.parents)
