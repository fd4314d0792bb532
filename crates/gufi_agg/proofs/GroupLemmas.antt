-- The groups that sums tell of, where each record was counted as a file's.
use Rattle.std.proofs.Common.{◌≡◌, ℕ, cond, List, [], ◌∷◌, length, eqb, map, refl, ap, ◌∙◌, arith, min, max}
use Rattle.std.specs.Prelude.{count_by, sum, pos, unwrap_or}
use Rattle.std.specs.Int.{int_min, int_max}
use Rattle.std.specs.List.{filter}
use Rattle.std.proofs.lemmas.List.Sums.{sum_by-cons}
use Rattle.std.proofs.lemmas.Simd.{map-map}
use Rattle.gufi_base.specs.declared.record.Meta.{Meta}
use Rattle.gufi_base.specs.declared.record.Row.{Row}
use Rattle.gufi_base.specs.Kinds.{is_file}
use Rattle.gufi_sums.specs.declared.summary.Summary.{Summary}
use Rattle.gufi_sums.specs.Total.{range_of, file_sizes}
use Rattle.gufi_stats.specs.Grouped.{total_seen, group_sum, numbers, grouped_seen}
use Rattle.gufi_agg.specs.declared.groups.Group.{Group}
use Rattle.gufi_agg.specs.Grouped.{as_file, group_of, group_from, grouped_rows}

abbrev files : List Row → List Meta
files rows = map (λ row. as_file row.rec.meta) rows

files-counted : (rows : List Row) → count_by (λ meta. is_file meta.kind) (files rows) ≡ length rows
files-counted [] = refl
files-counted (row ∷ rows) =
    let rest = files-counted rows in
    let one = sum_by-cons (λ (meta : Meta). cond (is_file meta.kind) 1 0) (as_file row.rec.meta) (files rows) in
    omega (arith, rest, one)

files-sizes : (rows : List Row) → file_sizes (files rows) ≡ map (λ row. row.rec.meta.size) rows
files-sizes [] = refl
files-sizes (row ∷ rows) = ap (λ (l : List ℕ). row.rec.meta.size ∷ l) (files-sizes rows)

-- the group of some rows is what their sum tells
group-told : (n : ℕ) (rows : List Row) → group_from (n, total_seen as_file rows) ≡ group_of n rows
unfolding total_seen
group-told n rows =
    let times : map (λ meta. meta.mtime) (files rows) ≡ map (λ row. row.rec.meta.mtime) rows = map-map (λ (meta : Meta). meta.mtime) (λ (row : Row). as_file row.rec.meta) rows in
    λ i. record {
      key = n;
      count = files-counted rows i;
      sum = sum (files-sizes rows i);
      size = unwrap_or (range_of min max (files-sizes rows i)) (0, 0);
      mtime = unwrap_or (range_of int_min int_max (times i)) (pos 0, pos 0);
    }

groups-told : (key : Row → ℕ) (rows : List Row) (ns : List ℕ)
    → map group_from (map (λ n. (n, group_sum as_file key rows n)) ns) ≡ map (λ n. group_of n (filter (λ row. eqb (key row) n) rows)) ns
groups-told key rows [] = refl
groups-told key rows (n ∷ ns) = λ i. group-told n (filter (λ row. eqb (key row) n) rows) i ∷ groups-told key rows ns i

-- the groups of rows are what the sums tell that stand for them
pub groups-sorted : (key : Row → ℕ) (rows : List Row) (sums entries : List (ℕ × Summary)) (groups : List Group)
    → groups ≡ map group_from entries → entries ≡ sums → sums ≡ grouped_seen as_file key rows → groups ≡ grouped_rows key rows
unfolding grouped_seen grouped_rows
groups-sorted key rows sums entries groups told same are = told ∙ ap (map group_from) (same ∙ are) ∙ groups-told key rows (numbers key rows)
