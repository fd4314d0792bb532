-- The directories near one, by steps down and among all that are listed from it.
use Rattle.std.proofs.Common.{◌≡◌, ℕ, ◌+◌, ◌<◌, ◌≤◌, inl, inr, Bool, true, false, cond, List, [], ◌∷◌, ◌++◌, map, length, refl, ap, ◌∙◌, subst, arith, length-append}
use Rattle.std.specs.Prelude.{◌-◌, ◌&&◌, not, nat_le}
use Rattle.std.specs.List.{filter, flat_map, list_all}
use Rattle.std.specs.List.Sorted.{IsPermutation}
use Rattle.std.proofs.lemmas.Bool.{false≢true, and_parts, le-leb, lt-leb}
use Rattle.std.proofs.lemmas.Bool.Decides.{nat_tests}
use Rattle.std.proofs.lemmas.List.Sorted.{IsPermutation-map}
use Rattle.gufi_base.specs.declared.record.Row.{Row}
use Rattle.gufi_base.specs.Kinds.{is_dir}
use Rattle.gufi_base.specs.Paths.{Components, is_prefix}
use Rattle.gufi_base.proofs.Permutations.{IsPermutation-filter}
use Rattle.gufi_access.specs.declared.class.Principal.{Principal}
use Rattle.gufi_tree.specs.declared.tree.Entry.{Entry}
use Rattle.gufi_tree.specs.Tree.{Directory, dir_row, entry_row, own_rows, is_kinded, may_list, HasTreeShape}
use Rattle.gufi_tree.specs.Listed.{is_listed}
use Rattle.gufi_tree.proofs.Built.{Has}
use Rattle.gufi_tree.proofs.Filters.{filter-none, Has-filter}
use Rattle.gufi_tree.proofs.Flat.{is_prefix-rest, all_at}
use Rattle.gufi_tree.proofs.Fronts.{listed_dirs, open_dirs, listed_dirs-step}
use Rattle.gufi_usage.specs.UsageLines.{has_line}
use Rattle.gufi_walk.proofs.Pieces.{map-flat_map}
use Rattle.gufi_usage.proofs.Below.{from, filter-flat_map}

module _ (tree : List Directory) (who : Principal) where
  -- the paths of the directories that are listed from one on and have at most so many components
  abbrev pub within : ℕ → Components → List Components
  within cut top = map (λ dir. dir.path) (filter (λ dir. nat_le (length dir.path) cut) (listed_dirs tree who top))

  -- a listed directory begins with the start
  leads_to : (top : Components) (dir : Directory) → Has (listed_dirs tree who top) dir → Has tree dir × (is_prefix top dir.path ≡ true)
  leads_to top dir h = let w = Has-filter (λ dir. is_listed tree who top dir.path) tree dir h in (w.0, (and_parts _ _ (and_parts _ _ w.1).0).0)

  at_least : (top : Components) (dir : Directory) → Has (listed_dirs tree who top) dir → length top ≤ length dir.path
  at_least top dir h = let r = is_prefix-rest top dir.path (leads_to top dir h).1 in omega (arith, ap length r.1, length-append top r.0)

  pub within-none : (cut : ℕ) (top : Components) → cut < length top → within cut top ≡ []
  within-none cut top far =
      ap (map (λ (dir : Directory). dir.path)) (filter-none (λ (dir : Directory). nat_le (length dir.path) cut) (listed_dirs tree who top) (λ dir h.
      lt-leb (length dir.path) cut (let few = at_least top dir h in omega arith)))

  module _ (shape : HasTreeShape tree) (d : Directory) (there : Has tree d) (on : may_list who d ≡ true) where
    pub within-step : (cut : ℕ) → length d.path ≤ cut → IsPermutation (within cut d.path) (d.path ∷ flat_map (λ k. within cut k.path) (open_dirs tree who d.path))
    within-step cut near =
        let W : Directory → Bool = λ dir. nat_le (length dir.path) cut in
        let L : Directory → List Directory = λ k. listed_dirs tree who k.path in
        let O : List Directory = open_dirs tree who d.path in
        let first : filter W (d ∷ flat_map L O) ≡ d ∷ filter W (flat_map L O) = ap (λ b. cond b (d ∷ filter W (flat_map L O)) (filter W (flat_map L O))) (le-leb (length d.path) cut near) in
        let rest : map (λ (dir : Directory). dir.path) (filter W (flat_map L O)) ≡ flat_map (λ k. within cut k.path) O =
        ap (map (λ (dir : Directory). dir.path)) (filter-flat_map L W O) ∙ map-flat_map (λ k. filter W (L k)) (λ (dir : Directory). dir.path) O in
        subst (IsPermutation (within cut d.path)) (ap (map (λ (dir : Directory). dir.path)) first ∙ ap (λ l. d.path ∷ l) rest)
        (IsPermutation-map (λ (dir : Directory). dir.path) _ _ (IsPermutation-filter W _ _ (listed_dirs-step tree who shape d there on)))

  -- ---- the rows that have a line

  module _ (shows : Row → Row) (same_path : (row : Row) → (shows row).path ≡ row.path) (same_meta : (row : Row) → (shows row).rec.meta ≡ row.rec.meta) (depth above : ℕ) where
    abbrev lined : List Row → List Components
    lined rows = map (λ (row : Row). row.path) (filter (has_line depth above) (map shows rows))

    seen : (row : Row) → has_line depth above (shows row) ≡ (is_dir row.rec.meta.kind && nat_le (length row.path - above) depth)
    seen row = λ i. is_dir (same_meta row i).kind && nat_le (length (same_path row i) - above) depth

    none_lined : (path : Components) (es : List Entry) → list_all (λ (e : Entry). not (is_dir e.rec.meta.kind)) es ≡ true → lined (map (entry_row path) es) ≡ []
    none_lined path [] h = refl
    none_lined path (e ∷ es) h = let both = and_parts _ _ h in
        let row : Row = entry_row path e in
        let rest : List Row = filter (has_line depth above) (map shows (map (entry_row path) es)) in
        ap (λ b. map (λ (row : Row). row.path) (cond b (shows row ∷ rest) rest)) (seen row ∙ no (is_dir e.rec.meta.kind) (nat_le (length row.path - above) depth) both.0) ∙ none_lined path es both.1 where
          no : (a b : Bool) → not a ≡ true → (a && b) ≡ false
          no true b n = absurd (false≢true n)
          no false b n = refl

    own_lined : (d : Directory) → is_kinded d ≡ true → above ≤ length d.path → lined (own_rows d) ≡ cond (nat_le (length d.path) (above + depth)) (d.path ∷ []) []
    own_lined d kinded deep =
        let both = and_parts _ _ kinded in
        let rest : List Row = filter (has_line depth above) (map shows (map (entry_row d.path) d.entries)) in
        let same : nat_le (length d.path - above) depth ≡ nat_le (length d.path) (above + depth) = shifted (length d.path) above depth deep in
        let test : has_line depth above (shows (dir_row d)) ≡ nat_le (length d.path) (above + depth) = seen (dir_row d) ∙ ap (λ b. b && nat_le (length d.path - above) depth) both.0 ∙ same in
        ap (λ b. map (λ (row : Row). row.path) (cond b (shows (dir_row d) ∷ rest) rest)) test
        ∙ by (nat_le (length d.path) (above + depth)) (same_path (dir_row d)) (none_lined d.path d.entries both.1) where
          shifted : (n m k : ℕ) → m ≤ n → nat_le (n - m) k ≡ nat_le n (m + k)
          shifted n m k h = grind (arith, nat_tests)

          by : (b : Bool) → (shows (dir_row d)).path ≡ d.path → lined (map (entry_row d.path) d.entries) ≡ []
              → map (λ (row : Row). row.path) (cond b (shows (dir_row d) ∷ filter (has_line depth above) (map shows (map (entry_row d.path) d.entries))) (filter (has_line depth above) (map shows (map (entry_row d.path) d.entries)))) ≡ cond b (d.path ∷ []) []
          by true own none = λ i. own i ∷ none i
          by false own none = none

    dirs_lined : (ds : List Directory) → ((d : Directory) → Has ds d → (is_kinded d ≡ true) × (above ≤ length d.path))
        → flat_map (λ d. lined (own_rows d)) ds ≡ map (λ (dir : Directory). dir.path) (filter (λ dir. nat_le (length dir.path) (above + depth)) ds)
    dirs_lined [] h = refl
    dirs_lined (d ∷ ds) h =
        let own = h d (inl refl) in
        ap (λ l. l ++ flat_map (λ d. lined (own_rows d)) ds) (own_lined d own.0 own.1) ∙ ap (λ l. cond (nat_le (length d.path) (above + depth)) (d.path ∷ []) [] ++ l) (dirs_lined ds (λ e k. h e (inr k)))
        ∙ by (nat_le (length d.path) (above + depth)) where
          by : (b : Bool) → cond b (d.path ∷ []) [] ++ map (λ (dir : Directory). dir.path) (filter (λ dir. nat_le (length dir.path) (above + depth)) ds)
              ≡ map (λ (dir : Directory). dir.path) (cond b (d ∷ filter (λ dir. nat_le (length dir.path) (above + depth)) ds) (filter (λ dir. nat_le (length dir.path) (above + depth)) ds))
          by true = refl
          by false = refl

    -- of the rows from a start those with a line are the directories near it
    pub lined-within : (shape : HasTreeShape tree) (start : Components) → length start ≡ above → map (λ (row : Row). row.path) (filter (has_line depth above) (from tree who shows start)) ≡ within (above + depth) start
    lined-within shape start len =
        let D : List Directory = listed_dirs tree who start in
        ap (λ l. map (λ (row : Row). row.path) (filter (has_line depth above) l)) (map-flat_map own_rows shows D)
        ∙ ap (map (λ (row : Row). row.path)) (filter-flat_map (λ d. map shows (own_rows d)) (has_line depth above) D)
        ∙ map-flat_map (λ d. filter (has_line depth above) (map shows (own_rows d))) (λ (row : Row). row.path) D
        ∙ dirs_lined D (λ d h. (all_at is_kinded tree d shape.kinds (leads_to start d h).0, let few = at_least start d h in omega arith))
