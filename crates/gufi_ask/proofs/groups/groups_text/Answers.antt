use Rattle.std.proofs.Common.{◌<◌, ◌∙◌, List, sym, ap, subst, length}
use Rattle.std.specs.Prelude.{All}
use Rattle.std.specs.Option.{option_copied}
use Rattle.gufi_base.specs.declared.record.Row.{Row}
use Rattle.gufi_select.specs.Columns.{select_holds}
use Rattle.gufi_agg.specs.declared.agg.AggKey.{AggKey}
use Rattle.gufi_agg.specs.declared.groups.Group.{Group}
use Rattle.gufi_agg.specs.Grouped.{grouped_rows, key_number}
use Rattle.gufi_agg.specs.Letters.{letters-below-256}
use Rattle.gufi_agg.specs.Texts.{agg_text}
use Rattle.gufi_walk.specs.Answer.{answer}
use Rattle.gufi_ask.specs.Asks.{agg_ask}
use Rattle.gufi_ask.proofs.AskLemmas.{replies_found, replies_refused}
use Rattle.gufi_ask.proofs.groups.groups_text.Goals as goal

pub lines_of_groups-requires : goal.lines_of_groups-requires
lines_of_groups-requires g c =
    let rows : List Row = answer c.args.snap.now.tree c.args.who.now c.args.start.now (select_holds c.args.agg.now.select) in
    record {
      letters = λ is.
          let same = c.deref.ensures.value ∙ c.in-Ok.ensures.groups ∙ ap (λ (key : AggKey). grouped_rows (key_number key) rows) is in
          subst (λ (groups : List Group). All (λ group. group.key < 256) groups) (sym same) (letters-below-256 rows);
    }

pub returns-in_ok-lines_of_groups-in-Ok : goal.returns-in_ok-lines_of_groups-in-Ok
returns-in_ok-lines_of_groups-in-Ok g c =
    replies_found c.args.snap.now.tree c.args.who.now c.args.start.now (agg_ask (option_copied c.args.names) c.args.agg.now) c.in_ok-lines_of_groups-in-Ok.field-0 c.in-Ok.ensures.found
    (c.in_ok-lines_of_groups-in-Ok.ensures ∙ ap (agg_text (option_copied c.args.names) c.args.agg.now (length c.args.start.now)) (c.deref.ensures.value ∙ c.in-Ok.ensures.groups))

pub returns-in-Err : goal.returns-in-Err
returns-in-Err g c = replies_refused c.args.snap.now.tree c.args.who.now c.args.start.now (agg_ask (option_copied c.args.names) c.args.agg.now) c.in-Err.refusal c.in-Err.ensures.refusal
