-- What is seen of a row in borrowed parts.
use Rattle.std.specs.Prelude.{ℕ, List, ◌++◌, Option, Some, None, ℤ}
use Rattle.std.specs.declared.cmp.Ordering.{Ordering}
use Rattle.std.specs.Ordering.{nat_cmp}
use Rattle.std.specs.Cmp.Lexicographic.{slice_cmp}
use Rattle.gufi_base.specs.declared.record.RowRef.{RowRef}
use Rattle.gufi_select.specs.declared.condition.Value.{Value}
use Rattle.gufi_select.specs.declared.condition.Value.TheVariants.{Text, Number}
use Rattle.gufi_select.specs.Columns.{Seen}

abbrev pub seen_parts : RowRef → ℕ → Seen
seen_parts ref depth = record { path = ref.stem.now ++ ref.base.now; name = ref.base.now; meta = ref.meta.now; link = ref.link.now; xattrs = ref.xattrs.now; depth = depth }

-- the order of a text value and a text
abbrev pub order_in : Value → List ℕ → Option Ordering
order_in (Text bytes) text = Some (slice_cmp nat_cmp bytes text)
order_in (Number n) text = None

abbrev pub number_in : Value → Option ℤ
number_in (Text bytes) = None
number_in (Number n) = Some n
