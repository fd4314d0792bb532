-- What the asks of a plan search for, by their forms and words.
use Rattle.std.specs.Prelude.{◌≡◌, ◌<◌, ◌^◌, ⊤, ℕ, List, [], ◌∷◌, length, Contains, flat_map}
use Rattle.std.specs.List.{All}
use Rattle.gufi_script.specs.declared.act.Act.{Act}
use Rattle.gufi_script.specs.declared.act.Act.TheVariants as acts
use Rattle.gufi_plan.specs.Plan.{Plan}
use Rattle.gufi_plan.specs.declared.search.Search.{Search}
use Rattle.gufi_plan.specs.declared.act.PlannedAct.{PlannedAct}
use Rattle.gufi_plan.specs.declared.act.PlannedAct.TheVariants.{Publish, Rollup, Refresh, Ask}

-- the search of an ask
abbrev pub search_in : PlannedAct → List Search
search_in (Publish delim limit file) = []
search_in (Rollup limit) = []
search_in (Refresh delim path file) = []
search_in (Ask lane search) = search ∷ []

abbrev pub searches_in : List PlannedAct → List Search
searches_in phase = flat_map search_in phase

abbrev pub searches_of : Plan → List Search
searches_of plan = flat_map searches_in plan

-- Asks with the same bytes have the same query.
abbrev pub AsksTell : Plan → Type 0
AsksTell plan = (one other : Search) → Contains (searches_of plan) one → Contains (searches_of plan) other → one.ask ≡ other.ask → one.query ≡ other.query

-- each word is shorter than 2 ^ 32 bytes, as the bytes of an ask want it
abbrev pub AreShort : List (List ℕ) → Type 0
AreShort words = All (λ word. length word < 2 ^ 32) words

abbrev pub HasShortWords : Act → Type 0
HasShortWords (acts.Ask lane user path form words) = AreShort words
HasShortWords (acts.Publish limit file) = ⊤
HasShortWords (acts.Rollup limit) = ⊤
HasShortWords (acts.Refresh path file) = ⊤
HasShortWords acts.Barrier = ⊤
