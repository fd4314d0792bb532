-- What a row that comes before others changes of what is said of these.
use Rattle.std.proofs.Common.{◌≡◌, ℕ, Bool, true, false, cond, not, ◌&&◌, ◌||◌, List, [], ◌∷◌, ◌++◌, refl, sym, ap, ◌∙◌}
use Rattle.std.specs.declared.cmp.Ordering.TheVariants.{Less, Equal}
use Rattle.std.specs.List.{AllByRecursion, filter}
use Rattle.std.proofs.lemmas.Slice.Eq.{bytes_eq-Decides, slice_eq-Decides}
use Rattle.gufi_base.specs.declared.record.Row.{Row}
use Rattle.gufi_base.specs.Paths.{Components, path_cmp, path_eq}
use Rattle.gufi_base.proofs.Orders.{path_cmp-same}
use Rattle.gufi_diff.specs.Changes.{Change, altered, changes, gone, has_other, has_path, signed}
use Rattle.gufi_diff.specs.Records.{same_record}

-- each row stands behind the path
abbrev pub Behind : Components → List Row → Type 0
Behind path rows = AllByRecursion (λ row. path_cmp path row.path ≡ Less) rows

not_same : (p q : Components) → p ≡ q → path_cmp p q ≡ Less → ⊥
not_same p q same below = let tied : path_cmp p q ≡ Equal = ap (path_cmp p) (sym same) ∙ path_cmp-same p in absurd cc

apart_by : (p q x y : Components) → (x ≡ y → p ≡ q) → path_cmp p q ≡ Less → (b : Bool) → b ≡ path_eq x y → b ≡ false
apart_by p q x y same below true e = absurd (not_same p q (same ((slice_eq-Decides bytes_eq-Decides x y true e).0 refl)) below)
apart_by p q x y same below false e = refl

-- paths of which one stands before the other aren't the same
before : (p q : Components) → path_cmp p q ≡ Less → path_eq p q ≡ false
before p q below = apart_by p q p q (λ e. e) below (path_eq p q) refl

after : (p q : Components) → path_cmp p q ≡ Less → path_eq q p ≡ false
after p q below = apart_by p q q p (λ e. sym e) below (path_eq q p) refl

-- the same paths are
pub alike : (p q : Components) → p ≡ q → path_eq p q ≡ true
alike p q e = (slice_eq-Decides bytes_eq-Decides p q (path_eq p q) refl).1 e

filter_same : (p q : Row → Bool) (rows : List Row) → AllByRecursion (λ row. p row ≡ q row) rows → filter p rows ≡ filter q rows
filter_same p q [] same = refl
filter_same p q (row ∷ rows) same = ap (λ b. cond b (row ∷ filter p rows) (filter p rows)) same.0 ∙ ap (λ l. cond (q row) (row ∷ l) l) (filter_same p q rows same.1)

each : (P Q : Row → Type 0) → ((row : Row) → P row → Q row) → (rows : List Row) → AllByRecursion P rows → AllByRecursion Q rows
each P Q f [] all = tt
each P Q f (row ∷ rows) all = (f row all.0, each P Q f rows all.1)

-- none of the rows behind a path has it
pub has_path-behind : (path : Components) (rows : List Row) → Behind path rows → has_path rows path ≡ false
has_path-behind path [] behind = refl
has_path-behind path (row ∷ rows) behind = rw (after path row.path behind.0) (has_path-behind path rows behind.1)

pub has_other-behind : (row : Row) (rows : List Row) → Behind row.path rows → has_other rows row ≡ false
has_other-behind row [] behind = refl
has_other-behind row (other ∷ rows) behind = rw (after row.path other.path behind.0) (has_other-behind row rows behind.1)

-- a row before all of a list takes nothing away from it, and alters nothing of it
pub gone-skip : (first : Row) (rows others : List Row) → Behind first.path rows → gone rows (first ∷ others) ≡ gone rows others
gone-skip first rows others behind =
    filter_same (λ row. not (has_path (first ∷ others) row.path)) (λ row. not (has_path others row.path)) rows
    (each (λ row. path_cmp first.path row.path ≡ Less) (λ row. not (has_path (first ∷ others) row.path) ≡ not (has_path others row.path))
    (λ row below. ap (λ b. not (b || has_path others row.path)) (before first.path row.path below)) rows behind)

pub altered-skip : (first : Row) (old new : List Row) → Behind first.path new → altered (first ∷ old) new ≡ altered old new
altered-skip first old new behind =
    filter_same (λ row. has_other (first ∷ old) row) (λ row. has_other old row) new
    (each (λ row. path_cmp first.path row.path ≡ Less) (λ row. has_other (first ∷ old) row ≡ has_other old row)
    (λ row below. ap (λ b. (b && not (same_record first.rec row.rec)) || has_other old row) (before first.path row.path below)) new behind)

-- what is said of rows behind a path is said of paths behind it
abbrev pub SaidBehind : Components → List Change → Type 0
SaidBehind path said = AllByRecursion (λ change. path_cmp path change.path ≡ Less) said

signed_behind : (path : Components) (sign : ℕ) (p : Row → Bool) (rows : List Row) → Behind path rows → SaidBehind path (signed sign (filter p rows))
signed_behind path sign p [] behind = tt
signed_behind path sign p (row ∷ rows) behind = by (p row) (signed_behind path sign p rows behind.1) where
  by : (b : Bool) → SaidBehind path (signed sign (filter p rows)) → SaidBehind path (signed sign (cond b (row ∷ filter p rows) (filter p rows)))
  by true rest = (behind.0, rest)
  by false rest = rest

both_behind : (path : Components) (front back : List Change) → SaidBehind path front → SaidBehind path back → SaidBehind path (front ++ back)
both_behind path [] back h k = k
both_behind path (change ∷ front) back h k = (h.0, both_behind path front back h.1 k)

pub changes_behind : (path : Components) (old new : List Row) → Behind path old → Behind path new → SaidBehind path (changes old new)
changes_behind path old new h k =
    both_behind path _ _
    (both_behind path _ _ (signed_behind path 45 (λ row. not (has_path new row.path)) old h) (signed_behind path 43 (λ row. not (has_path old row.path)) new k))
    (signed_behind path 126 (λ row. has_other old row) new k)
