-- What is asked of groups of rows.
use Rattle.std.specs.Prelude.{List}
use Rattle.gufi_select.specs.Columns.{Select}
use Rattle.gufi_agg.specs.declared.agg.AggKey.{AggKey}
use Rattle.gufi_agg.specs.declared.agg.Item.{Item}

pub record Agg : Type 0 where
  pub key : AggKey
  pub items : List Item
  pub select : Select
