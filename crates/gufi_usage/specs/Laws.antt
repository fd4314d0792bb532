-- Laws of what rows take up: one row more, two lists joined, any order.
use Rattle.std.proofs.Common.{◌≡◌, ◌+◌, List, [], ◌∷◌, ◌++◌, length, refl, sym, ap, ◌∙◌, arith, length-append}
use Rattle.std.specs.List.Sorted.{IsPermutation}
use Rattle.std.proofs.lemmas.List.Sums.{sum_by-append}
use Rattle.std.proofs.lemmas.List.Sorted.{sum_by-IsPermutation, length_permutation}
use Rattle.gufi_base.specs.declared.record.Row.{Row}
use Rattle.gufi_sums.specs.Total.{total}
use Rattle.gufi_sums.specs.Laws.{total-append, total-add, total-IsPermutation}
use Rattle.gufi_usage.specs.declared.usage.Usage.{Usage}
use Rattle.gufi_usage.specs.Usages.{usage_of, blocks_of, nothing, with_row, both, IsUsage}

pub usage_of-nil : usage_of [] ≡ nothing
unfolding usage_of total
usage_of-nil = refl

pub usage_of-append : (xs ys : List Row) → usage_of (xs ++ ys) ≡ both (usage_of xs) (usage_of ys)
unfolding usage_of
usage_of-append xs ys =
    let sums = total-append xs ys in
    λ i. record {
      rows = length-append xs ys i;
      files = (sums i).files;
      dirs = (sums i).dirs;
      bytes = (sums i).bytes;
      blocks = sum_by-append (λ (row : Row). row.rec.meta.blocks) xs ys i;
    }

pub usage_of-add : (rows : List Row) (row : Row) → usage_of (rows ++ row ∷ []) ≡ with_row (usage_of rows) row.rec.meta
unfolding usage_of
usage_of-add rows row =
    let sums = total-add rows row in
    let blocks : blocks_of (rows ++ row ∷ []) ≡ blocks_of rows + row.rec.meta.blocks =
    sum_by-append (λ (row : Row). row.rec.meta.blocks) rows (row ∷ []) ∙ omega arith in
    λ i. record {
      rows = length-append rows (row ∷ []) i;
      files = (sums i).files;
      dirs = (sums i).dirs;
      bytes = (sums i).bytes;
      blocks = blocks i;
    }

pub usage_of-IsPermutation : (xs ys : List Row) → IsPermutation xs ys → usage_of xs ≡ usage_of ys
unfolding usage_of
usage_of-IsPermutation xs ys h =
    let sums = total-IsPermutation xs ys h in
    λ i. record {
      rows = sym (length_permutation xs ys h) i;
      files = (sums i).files;
      dirs = (sums i).dirs;
      bytes = (sums i).bytes;
      blocks = sym (sum_by-IsPermutation (λ (row : Row). row.rec.meta.blocks) xs ys h) i;
    }

-- it tells how many rows there are, and nothing of their order
pub IsUsage-counted : (u : Usage) (rows : List Row) → IsUsage u rows → length rows ≡ u.rows
unfolding usage_of
IsUsage-counted u rows h = sym (ap (λ (v : Usage). v.rows) h.is)

pub IsUsage-reordered : (u : Usage) (rows other : List Row) → IsPermutation rows other → IsUsage u rows → IsUsage u other
IsUsage-reordered u rows other moved h = record { is = h.is ∙ usage_of-IsPermutation rows other moved; in_range = h.in_range }
