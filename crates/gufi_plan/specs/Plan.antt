-- A script whose users and queries are read: phases of acts, and each ask has its search.
use Rattle.std.specs.Prelude.{ℕ, ℤ, ◌+◌, Bool, List, [], ◌∷◌, length, Option, Some, None, Result, Ok, ok_or}
use Rattle.std.specs.List.{join_with_byte, onto_first}
use Rattle.gufi_base.specs.declared.record.Row.{Row}
use Rattle.gufi_base.specs.Basics.{◌>>=◌, result_map_err}
use Rattle.gufi_base.specs.Paths.{Components}
use Rattle.gufi_users.specs.Entries.{UserTables}
use Rattle.gufi_users.specs.Users.{principal_of}
use Rattle.gufi_find.specs.Expressions.{find_holds}
use Rattle.gufi_find.specs.Reading.{read_find}
use Rattle.gufi_select.specs.Columns.{select_holds}
use Rattle.gufi_select.specs.Reading.{read_select}
use Rattle.gufi_script.specs.declared.fault.ScriptKind.{ScriptKind}
use Rattle.gufi_script.specs.declared.fault.ScriptKind.TheVariants as kinds
use Rattle.gufi_script.specs.declared.fault.ScriptError.{ScriptError}
use Rattle.gufi_script.specs.declared.fault.ScriptError.TheVariants.{Fault}
use Rattle.gufi_script.specs.declared.act.Form.{Form}
use Rattle.gufi_script.specs.declared.act.Form.TheVariants as forms
use Rattle.gufi_script.specs.declared.act.Act.{Act}
use Rattle.gufi_script.specs.declared.act.Act.TheVariants as acts
use Rattle.gufi_script.specs.ScriptText.{PlacedAct}
use Rattle.gufi_cache.specs.Asks.{ask_bytes}
use Rattle.gufi_plan.specs.declared.search.Query.{Query}
use Rattle.gufi_plan.specs.declared.search.Query.TheVariants.{Finds, Totals, Selects}
use Rattle.gufi_plan.specs.declared.search.Search.{Search}
use Rattle.gufi_plan.specs.declared.act.PlannedAct.{PlannedAct}
use Rattle.gufi_plan.specs.declared.act.PlannedAct.TheVariants.{Publish, Rollup, Refresh, Ask}

-- what a session has beside its script
pub record Setting : Type 0 where
  pub tables : UserTables
  pub now : Option ℤ
  pub delim : ℕ

abbrev pub Plan : Type 0
Plan = List (List PlannedAct)

-- how many acts the phases have
unfoldable pub act_count : Plan → ℕ
act_count [] = 0
act_count (phase ∷ phases) = length phase + act_count phases

-- whether a query admits a row at a depth below its start
abbrev pub query_holds : Query → Row → ℕ → Bool
query_holds (Finds find) row depth = find_holds find row depth
query_holds (Totals find) row depth = find_holds find row depth
query_holds (Selects select) row depth = select_holds select row depth

-- ---- reading: any fault of a query is one kind of the script's

-- the text of a SELECT in a script
abbrev pub query_text : List (List ℕ) → List ℕ
query_text words = join_with_byte 32 words

-- the first letter of a form
abbrev pub letter_of : Form → ℕ
letter_of forms.Find = 102
letter_of forms.Total = 116
letter_of forms.Query = 113

unfoldable pub query_of : Setting → Form → List (List ℕ) → Result Query ScriptKind
query_of setting forms.Find words = result_map_err (λ fault. kinds.Query) (read_find words setting.tables setting.now) >>= λ find. Ok (Finds find)
query_of setting forms.Total words = result_map_err (λ fault. kinds.Query) (read_find words setting.tables setting.now) >>= λ find. Ok (Totals find)
query_of setting forms.Query words = result_map_err (λ fault. kinds.Query) (read_select (query_text words)) >>= λ select. Ok (Selects select)

-- the user before the query
unfoldable pub search_of : Setting → List ℕ → Components → Form → List (List ℕ) → Result Search ScriptKind
search_of setting user path form words =
    ok_or (principal_of setting.tables user) kinds.User >>= λ who.
    query_of setting form words >>= λ query.
    Ok (record { who = who; start = path; query = query; ask = ask_bytes (letter_of form) words })

-- the act of a phase, and none for a barrier
unfoldable pub planned_act : Setting → Act → Result (Option PlannedAct) ScriptKind
planned_act setting (acts.Publish limit file) = Ok (Some (Publish setting.delim limit file))
planned_act setting (acts.Rollup limit) = Ok (Some (Rollup limit))
planned_act setting (acts.Refresh path file) = Ok (Some (Refresh setting.delim path file))
planned_act setting (acts.Ask lane user path form words) = search_of setting user path form words >>= λ search. Ok (Some (Ask lane search))
planned_act setting acts.Barrier = Ok None

-- an act before phases, of which the first goes on; a barrier begins a new one
abbrev pub with_act : Option PlannedAct → Plan → Plan
with_act None phases = [] ∷ phases
with_act (Some act) phases = onto_first act phases

-- the parts between barriers, or the least line whose user or query is at fault
unfoldable pub plan : Setting → List PlacedAct → Result Plan ScriptError
plan setting [] = Ok ([] ∷ [])
plan setting (act ∷ later) =
    result_map_err (Fault act.0) (planned_act setting act.1) >>= λ planned.
    plan setting later >>= λ phases.
    Ok (with_act planned phases)
