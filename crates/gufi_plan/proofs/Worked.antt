-- Plans worked by hand.
use Rattle.std.proofs.Common.{◌≡◌, ℕ, List, [], ◌∷◌, length, refl}
use Rattle.std.specs.Prelude.{None, Result, Ok, Err, codes, map}
use Rattle.gufi_users.specs.Users.{principal_of}
use Rattle.gufi_find.specs.Reading.{read_find, read_find_words, wants_primary}
use Rattle.gufi_find.specs.Operands.{primary_named}
use Rattle.gufi_script.specs.declared.act.Form.TheVariants as forms
use Rattle.gufi_script.specs.declared.act.Act.TheVariants as acts
use Rattle.gufi_script.specs.declared.fault.ScriptError.{ScriptError}
use Rattle.gufi_script.specs.declared.fault.ScriptError.TheVariants.{Fault}
use Rattle.gufi_script.specs.declared.fault.ScriptKind.TheVariants as kinds
use Rattle.gufi_plan.specs.declared.search.Query.{Query}
use Rattle.gufi_plan.specs.declared.search.Query.TheVariants.{Finds, Totals, Selects}
use Rattle.gufi_plan.specs.declared.act.PlannedAct.{PlannedAct}
use Rattle.gufi_plan.specs.declared.act.PlannedAct.TheVariants.{Publish, Rollup, Refresh, Ask}
use Rattle.gufi_plan.specs.Plan.{Setting, Plan, query_of, search_of, planned_act, query_text, plan}

abbrev setting : Setting
setting = record { tables = record { users = []; groups = [] }; now = None; delim = 124 }

-- the verb and the numbers of an act
abbrev form_number : Query → ℕ
form_number (Finds find) = 1
form_number (Totals find) = 2
form_number (Selects select) = 3

abbrev numbers : PlannedAct → List ℕ
numbers (Publish delim limit file) = delim ∷ limit ∷ file
numbers (Rollup limit) = limit ∷ []
numbers (Refresh delim path file) = delim ∷ length path ∷ file
numbers (Ask lane search) = lane ∷ search.who.uid ∷ form_number search.query ∷ []

abbrev phases : Result Plan ScriptError → List (List (List ℕ))
phases (Ok plan) = map (λ (phase : List PlannedAct). map numbers phase) plan
phases (Err fault) = []

no_act : plan setting [] ≡ Ok ([] ∷ [])
unfolding plan
no_act = refl

two_phases : phases (plan setting
    ((1, acts.Publish 10 (codes "a")) ∷ (2, acts.Ask 1 (codes "102") [] forms.Find []) ∷ (3, acts.Barrier) ∷ (5, acts.Ask 2 (codes "102:5") [] forms.Total []) ∷ (6, acts.Rollup 5) ∷ (7, acts.Refresh (codes "p" ∷ []) (codes "b")) ∷ []))
    ≡ ((124 ∷ 10 ∷ codes "a") ∷ (1 ∷ 102 ∷ 1 ∷ []) ∷ []) ∷ ((2 ∷ 102 ∷ 2 ∷ []) ∷ (5 ∷ []) ∷ (124 ∷ 1 ∷ codes "b") ∷ []) ∷ []
unfolding plan planned_act search_of query_of principal_of read_find read_find_words wants_primary primary_named
two_phases = refl

-- the user before the query, and the first line before a later one
user_first : plan setting ((1, acts.Barrier) ∷ (4, acts.Ask 1 (codes "nobody") [] forms.Find (codes "-nope" ∷ [])) ∷ []) ≡ Err (Fault 4 kinds.User)
unfolding plan planned_act search_of query_of principal_of read_find read_find_words wants_primary primary_named
user_first = refl

query_first : plan setting ((3, acts.Ask 1 (codes "102") [] forms.Find (codes "-nope" ∷ [])) ∷ (4, acts.Ask 1 (codes "nobody") [] forms.Find []) ∷ []) ≡ Err (Fault 3 kinds.Query)
unfolding plan planned_act search_of query_of principal_of read_find read_find_words wants_primary primary_named
query_first = refl

-- the words of a SELECT, with a space between two
select_words : query_text (codes "SELECT" ∷ codes "name" ∷ codes "FROM rows" ∷ []) ≡ codes "SELECT name FROM rows"
select_words = refl
