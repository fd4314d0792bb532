-- What the commands of one answer ask of the rows, and what they write of them.
use Rattle.std.specs.Prelude.{◌≡◌, ℕ, Bool, true, List, ◌++◌, filter, Option, Some, None, Result, Ok, codes}
use Rattle.std.specs.List.{flat_map}
use Rattle.gufi_base.specs.declared.record.Row.{Row}
use Rattle.gufi_base.specs.Basics.{◌>>=◌, line}
use Rattle.gufi_base.specs.Paths.{Components, path_eq, slashed_text}
use Rattle.gufi_rows.specs.PathLines.{path_lines}
use Rattle.gufi_access.specs.declared.class.Principal.{Principal}
use Rattle.gufi_tree.specs.Tree.{Directory}
use Rattle.gufi_sums.specs.declared.summary.Summary.{Summary}
use Rattle.gufi_sums.specs.Total.{total}
use Rattle.gufi_users.specs.Entries.{UserTables}
use Rattle.gufi_find.specs.Expressions.{Find, find_holds}
use Rattle.gufi_select.specs.Columns.{Select, select_holds}
use Rattle.gufi_forms.specs.declared.form.Form.{Form}
use Rattle.gufi_forms.specs.Forms.{form_text}
use Rattle.gufi_agg.specs.Aggs.{Agg}
use Rattle.gufi_agg.specs.Texts.{agg_lines}
use Rattle.gufi_list.specs.Texts.{stat_text, total_text}
use Rattle.gufi_list.specs.Listings.{ls_text, ls_asks}
use Rattle.gufi_stats.specs.declared.report.Report.{Report}
use Rattle.gufi_stats.specs.Reports.{stats_text}
use Rattle.gufi_usage.specs.UsageLines.{usage_lines}
use Rattle.gufi_walk.specs.declared.refusal.Refusal.{Refusal}
use Rattle.gufi_walk.specs.Answer.{reply_rows, Alike}

-- find has what stands before each path, if anything; du has the depth to which directories have a line; ls has the names of owners, and whether it is long and shows all; reports and
-- groups have such names, if they are to tell them; a total has the words before it
pub data Ask : Type 0 where
  walk_ask : Ask
  find_ask : Option (List ℕ) → Find → Ask
  usage_ask : ℕ → Find → Ask
  ls_ask : UserTables → Bool → Bool → Ask
  stat_ask : Ask
  stats_ask : Option UserTables → Report → Ask
  total_ask : List ℕ → Ask
  query_ask : Form → Select → Ask
  agg_ask : Option UserTables → Agg → Ask

-- whether an ask admits a row at a depth below its start; du admits all, since what its expression is false of may have a line
abbrev pub ask_holds : Ask → Row → ℕ → Bool
ask_holds walk_ask row depth = true
ask_holds (find_ask prefix expression) row depth = find_holds expression row depth
ask_holds (usage_ask lines expression) row depth = true
ask_holds (ls_ask tables long all) row depth = ls_asks all row depth
ask_holds stat_ask row depth = true
ask_holds (stats_ask names report) row depth = true
ask_holds (total_ask name) row depth = true
ask_holds (query_ask form select) row depth = select_holds select row depth
ask_holds (agg_ask names agg) row depth = select_holds agg.select row depth

-- PREFIX, and the text of the path behind it; for the root PREFIX alone
abbrev pub prefixed_line : List ℕ → Components → List ℕ
prefixed_line prefix path = line (prefix ++ slashed_text path)

abbrev pub found_lines : Option (List ℕ) → List Row → List ℕ
found_lines None rows = path_lines rows
found_lines (Some prefix) rows = flat_map (λ row. prefixed_line prefix row.path) rows

-- The start's own row is among those of an answer.
abbrev pub stat_lines : Components → List Row → List ℕ
stat_lines start rows = flat_map (λ row. stat_text row (total rows)) (filter (λ row. path_eq start row.path) rows)

-- a sum behind the name of whom it is for
abbrev pub total_line : List ℕ → Summary → List ℕ
total_line name sum = line (name ++ codes " " ++ total_text sum)

-- what is written of the rows that an ask admits below a start
abbrev pub ask_text : Ask → Components → List Row → List ℕ
ask_text walk_ask start rows = path_lines rows
ask_text (find_ask prefix expression) start rows = found_lines prefix rows
ask_text (usage_ask depth expression) start rows = usage_lines depth (find_holds expression) start rows
ask_text (ls_ask tables long all) start rows = ls_text rows tables long all
ask_text stat_ask start rows = stat_lines start rows
ask_text (stats_ask names report) start rows = stats_text names rows start report
ask_text (total_ask name) start rows = total_line name (total rows)
ask_text (query_ask form select) start rows = form_text form select start rows
ask_text (agg_ask names agg) start rows = agg_lines names agg start rows

-- the refusal of the start, or what is written
unfoldable pub ask_reply : List Directory → Principal → Components → Ask → Result (List ℕ) Refusal
ask_reply tree who start ask = reply_rows tree who start (ask_holds ask) >>= λ rows. Ok (ask_text ask start rows)

-- To one who can't tell two trees apart by what may be listed, each ask has one reply in both.
abbrev pub AsksArePrivate : Type 0
AsksArePrivate = (tree other : List Directory) (who : Principal) (start : Components) → Alike tree other who start
    → (ask : Ask) → ask_reply tree who start ask ≡ ask_reply other who start ask
