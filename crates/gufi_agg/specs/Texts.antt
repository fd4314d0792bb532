-- What is printed of groups.
use Rattle.std.specs.Prelude.{ℕ, ◌-◌, List, [], ◌∷◌, Option, length, map, decimal}
use Rattle.std.specs.Fmt.{signed_decimal}
use Rattle.std.specs.List.{flat_map, join_with_byte}
use Rattle.gufi_base.specs.declared.record.Row.{Row}
use Rattle.gufi_base.specs.Basics.{line}
use Rattle.gufi_base.specs.Paths.{Components}
use Rattle.gufi_users.specs.Entries.{UserTables}
use Rattle.gufi_stats.specs.Named.{uid_text, gid_text}
use Rattle.gufi_agg.specs.declared.agg.AggKey.{AggKey}
use Rattle.gufi_agg.specs.declared.agg.AggKey.TheVariants.{Uid, Gid, Letter, Level}
use Rattle.gufi_agg.specs.declared.agg.Item.{Item}
use Rattle.gufi_agg.specs.declared.agg.Item.TheVariants.{Count, SumSize, MinSize, MaxSize, MinMtime, MaxMtime}
use Rattle.gufi_agg.specs.declared.groups.Group.{Group}
use Rattle.gufi_agg.specs.Aggs.{Agg}
use Rattle.gufi_agg.specs.Grouped.{key_number, grouped_rows}

-- the number of a group, or its name where there are tables to tell it; so many names stand above the start
abbrev pub key_text : Option UserTables → AggKey → ℕ → ℕ → List ℕ
key_text names Uid above n = uid_text names n
key_text names Gid above n = gid_text names n
key_text names Letter above n = n ∷ []
key_text names Level above n = decimal (n - above)

abbrev pub item_text : Item → Group → List ℕ
item_text Count group = decimal group.count
item_text SumSize group = decimal group.sum
item_text MinSize group = decimal group.size.0
item_text MaxSize group = decimal group.size.1
item_text MinMtime group = signed_decimal group.mtime.0
item_text MaxMtime group = signed_decimal group.mtime.1

-- items, each behind a tab
abbrev pub tabbed_items : List Item → Group → List ℕ
tabbed_items items group = flat_map (λ item. 9 ∷ item_text item group) items

-- its number or name and its items, a tab between each
abbrev pub group_line : Option UserTables → Agg → ℕ → Group → List ℕ
group_line names agg above group = line (join_with_byte 9 (key_text names agg.key above group.key ∷ map (λ item. item_text item group) agg.items))

unfoldable pub agg_text : Option UserTables → Agg → ℕ → List Group → List ℕ
agg_text names agg above groups = flat_map (group_line names agg above) groups

-- what is printed of the rows below a start, in the order of the numbers: two may be told alike
abbrev pub agg_lines : Option UserTables → Agg → Components → List Row → List ℕ
agg_lines names agg start rows = agg_text names agg (length start) (grouped_rows (key_number agg.key) rows)
