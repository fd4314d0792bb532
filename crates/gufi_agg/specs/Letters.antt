-- Letters are bytes.
use Rattle.std.proofs.Common.{ℕ, ◌<◌, List, [], ◌∷◌, map, arith}
use Rattle.std.specs.Prelude.{◌==◌, All}
use Rattle.std.specs.List.{filter}
use Rattle.std.specs.Ordering.{nat_cmp}
use Rattle.std.proofs.lemmas.List.Elements.{All-nil, All-cons, All-head, All-tail, All-map, All-filter}
use Rattle.std.proofs.lemmas.List.Sorted.{All-permutation}
use Rattle.gufi_base.specs.declared.record.Kind.{Kind}
use Rattle.gufi_base.specs.declared.record.Kind.TheVariants.{Block, Char, Dir, Link, Fifo, File, Socket}
use Rattle.gufi_base.specs.declared.record.Row.{Row}
use Rattle.gufi_base.specs.Basics.{distinct, without}
use Rattle.gufi_base.specs.Kinds.{kind_letter}
use Rattle.gufi_base.proofs.Sorting.{IsPermutation-sort_by}
use Rattle.gufi_stats.specs.Grouped.{numbers}
use Rattle.gufi_agg.specs.Grouped.{letter, group_of, grouped_rows}

letter-below : (kind : Kind) → kind_letter kind < 256
letter-below Block = omega arith
letter-below Char = omega arith
letter-below Dir = omega arith
letter-below Link = omega arith
letter-below Fifo = omega arith
letter-below File = omega arith
letter-below Socket = omega arith

all-distinct : (P : ℕ → Type 0) (ns : List ℕ) → All P ns → All P (distinct ns)
all-distinct P [] all = all
all-distinct P (n ∷ ns) all =
    All-cons P n (without n (distinct ns)) (All-head P n ns all) (All-filter _ P (distinct ns) (all-distinct P ns (All-tail P n ns all)))

-- what holds of the number of each row holds of each number
all-numbers : (P : ℕ → Type 0) (key : Row → ℕ) (rows : List Row) → ((row : Row) → P (key row)) → All P (numbers key rows)
all-numbers P key rows each =
    All-permutation P (distinct (map key rows)) _ (IsPermutation-sort_by nat_cmp (distinct (map key rows))) (all-distinct P (map key rows) (all-keys rows))
  where
    all-keys : (some : List Row) → All P (map key some)
    all-keys [] = All-nil P
    all-keys (row ∷ some) = All-cons P (key row) (map key some) (each row) (all-keys some)

pub letters-below-256 : (rows : List Row) → All (λ group. group.key < 256) (grouped_rows letter rows)
unfolding grouped_rows
letters-below-256 rows =
    All-map (λ group. group.key < 256) (λ n. group_of n (filter (λ row. letter row == n) rows)) (numbers letter rows)
    (all-numbers (λ n. n < 256) letter rows (λ row. letter-below row.rec.meta.kind))
