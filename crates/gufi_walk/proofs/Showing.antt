-- Rows as they are shown: their order and their sums.
use Rattle.std.proofs.Common.{◌≡◌, false, cond, List, [], ◌∷◌, map, refl, ap}
use Rattle.std.specs.Ordering.{is_lt}
use Rattle.gufi_base.specs.declared.record.Row.{Row}
use Rattle.gufi_base.specs.Basics.{ascends}
use Rattle.gufi_base.specs.Paths.{path_cmp}
use Rattle.gufi_base.specs.Rows.{row_cmp}
use Rattle.gufi_access.specs.declared.class.Principal.{Principal}
use Rattle.gufi_sums.specs.Total.{total, total_of}
use Rattle.gufi_walk.specs.Answer.{shown}
use Rattle.gufi_walk.specs.Shown.{shown-path, shown-meta}

-- paths ascend as before
pub shown-ascends : (who : Principal) (rows : List Row) → ascends row_cmp (map (shown who) rows) ≡ ascends row_cmp rows
shown-ascends who [] = refl
shown-ascends who (a ∷ []) = refl
shown-ascends who (a ∷ b ∷ rows) = λ i. cond (is_lt (path_cmp (shown-path who a i) (shown-path who b i))) (shown-ascends who (b ∷ rows) i) false

-- a sum looks at no names
pub shown-total : (who : Principal) (rows : List Row) → total (map (shown who) rows) ≡ total rows
unfolding total
shown-total who rows = ap total_of (metas rows) where
  metas : (rows : List Row) → map (λ (row : Row). row.rec.meta) (map (shown who) rows) ≡ map (λ row. row.rec.meta) rows
  metas [] = refl
  metas (row ∷ rows) = λ i. shown-meta who row i ∷ metas rows i
