-- Lemmas on what is asked of one tree.
use Rattle.std.proofs.Common.{◌≡◌, ◌≢◌, ℕ, ◌≤◌, true, false, not, cond, List, [], ◌∷◌, length, get_or, refl, sym, ap, ◌∙◌, subst, arith}
use Rattle.std.specs.Prelude.{Bool, Option, Some, None, Result, Ok, Err, IfOk, OnOk, IfErr, filter, Vec}
use Rattle.std.specs.declared.alloc.Global.{Global}
use Rattle.std.specs.List.{flat_map}
use Rattle.std.proofs.lemmas.List.{append-nil, length-map}
use Rattle.std.proofs.lemmas.List.Filters.{length-filter_both}
use Rattle.gufi_base.specs.declared.record.Row.{Row}
use Rattle.gufi_base.specs.Basics.{◌>>=◌}
use Rattle.gufi_base.specs.Paths.{Components, path_eq}
use Rattle.gufi_base.specs.Rows.{home, depth_below}
use Rattle.gufi_access.specs.declared.class.Principal.{Principal}
use Rattle.gufi_access.specs.Access.{is_granted}
use Rattle.gufi_tree.specs.Tree.{Directory, all_rows, dir_row, may_list, rights_of, HasTreeShape}
use Rattle.gufi_tree.specs.Listed.{is_listed}
use Rattle.gufi_tree.specs.declared.tree.DirId.{DirId}
use Rattle.gufi_tree.specs.declared.resolve.Resolved.TheVariants.{Found}
use Rattle.gufi_tree.specs.Resolve.{resolve}
use Rattle.gufi_tree.proofs.Built.{Has}
use Rattle.gufi_tree.proofs.Descent.{same_from_paths}
use Rattle.gufi_tree.proofs.Flat.{distinct}
use Rattle.gufi_tree.proofs.FoundStart.{found_place_of_start}
use Rattle.gufi_tree.proofs.Kids.{Has-get_or}
use Rattle.gufi_tree.proofs.Linked.{path_at-get}
use Rattle.gufi_sums.specs.declared.summary.Summary.{Summary}
use Rattle.gufi_sums.specs.Total.{total}
use Rattle.gufi_find.specs.Expressions.{Find, find_holds}
use Rattle.gufi_list.specs.Texts.{stat_text}
use Rattle.gufi_usage.specs.UsageLines.{usage_lines}
use Rattle.gufi_walk.specs.declared.refusal.Refusal.{Refusal}
use Rattle.gufi_walk.specs.Answer.{answer, listed_rows, nameless, refusal_of, rows_or, shown}
use Rattle.gufi_walk.proofs.Isolation.{alike_replies}
use Rattle.gufi_walk.proofs.StartRow.{start_row}
use Rattle.gufi_walk.specs.declared.refusal.Refusal.TheVariants as refusals
use Rattle.gufi_ask.specs.Replies.{Replies}
use Rattle.gufi_ask.specs.Asks.{Ask, stat_ask, usage_ask, ask_holds, ask_text, ask_reply, AsksArePrivate}

-- where the start is found, the text of the answer
pub reply_found : (tree : List Directory) (who : Principal) (start : Components) (ask : Ask) → refusal_of (resolve tree who start) ≡ None
    → ask_reply tree who start ask ≡ Ok (ask_text ask start (answer tree who start (ask_holds ask)))
unfolding ask_reply
reply_found tree who start ask found = ap (λ (o : Option Refusal). rows_or o (answer tree who start (ask_holds ask)) >>= λ rows. Ok (ask_text ask start rows)) found

-- where it isn't, the refusal
pub reply_refused : (tree : List Directory) (who : Principal) (start : Components) (ask : Ask) (refusal : Refusal) → refusal_of (resolve tree who start) ≡ Some refusal → ask_reply tree who start ask ≡ Err refusal
unfolding ask_reply
reply_refused tree who start ask refusal is = ap (λ (o : Option Refusal). rows_or o (answer tree who start (ask_holds ask)) >>= λ rows. Ok (ask_text ask start rows)) is

-- what is printed of a start doesn't tell its names of extended attributes
stat_text-nameless : (some : Bool) (row : Row) (sum : Summary) → stat_text (cond some row (nameless row)) sum ≡ stat_text row sum
stat_text-nameless true row sum = refl
stat_text-nameless false row sum = refl

stat_text-shown : (who : Principal) (row : Row) (sum : Summary) → stat_text (shown who row) sum ≡ stat_text row sum
stat_text-shown who row sum = stat_text-nameless (is_granted who (rights_of row.rec) 4) row sum

-- a directory's row is the one of its path
start_row_at : (tree : List Directory) (shape : HasTreeShape tree) (who : Principal) (start : Components) (d : Directory) (row : Row) → Has tree d → may_list who d ≡ true → d.path ≡ start → row ≡ dir_row d
    → filter (λ other. path_eq start other.path) (answer tree who start (λ row depth. true)) ≡ shown who row ∷ []
start_row_at tree shape who start d row there on at is =
    subst (λ s. filter (λ other. path_eq s other.path) (answer tree who s (λ row depth. true)) ≡ shown who row ∷ []) at (start_row tree shape who d there on ∙ ap (λ r. shown who r ∷ []) (sym is))

-- the row of the directory that is found at the start
row_found : (tree : List Directory) (who : Principal) (start : Components) (id : DirId) (row : Row) → HasTreeShape tree → resolve tree who start ≡ Found id
    → ((d : Directory) → row ≡ dir_row (get_or tree id.0 d)) → filter (λ other. path_eq start other.path) (answer tree who start (λ row depth. true)) ≡ shown who row ∷ []
row_found tree who start id row shape found is =
    let w = found_place_of_start tree who start id shape found in
    let own = get_or tree id.0 w.dir in
    let same : own ≡ w.dir = same_from_paths tree own w.dir (distinct tree shape.order) (Has-get_or tree id.0 w.dir w.within) w.there (sym (path_at-get tree id.0 w.dir w.within) ∙ w.path ∙ sym w.at) in
    start_row_at tree shape who start w.dir row w.there w.on w.at (is w.dir ∙ ap dir_row same)

-- its lines, with the sum of all rows from there
pub stat_found : (tree seen : List Directory) (who : Principal) (start : Components) (id : DirId) (dir : Directory) (sum : Summary) → HasTreeShape tree → seen ≡ tree → resolve tree who start ≡ Found id
    → ((d : Directory) → dir ≡ get_or seen id.0 d) → sum ≡ total (answer tree who start (λ row depth. true)) → ask_reply tree who start stat_ask ≡ Ok (stat_text (dir_row dir) sum)
stat_found tree seen who start id dir sum shape same found at is =
    let rows : List Row = answer tree who start (λ row depth. true) in
    let one = row_found tree who start id (dir_row dir) shape found (λ d. ap dir_row (at d ∙ ap (λ (ds : List Directory). get_or ds id.0 d) same)) in
    reply_found tree who start stat_ask (ap refusal_of found)
    ∙ ap Ok (ap (flat_map (λ r. stat_text r (total rows))) one ∙ append-nil (stat_text (shown who (dir_row dir)) (total rows)) ∙ stat_text-shown who (dir_row dir) (total rows) ∙ ap (stat_text (dir_row dir)) (sym is))

-- ---- what a reply returned is the one that is given

pub replies_found : (tree : List Directory) (who : Principal) (start : Components) (ask : Ask) (text : Vec ℕ Global) → refusal_of (resolve tree who start) ≡ None
    → text.items ≡ ask_text ask start (answer tree who start (ask_holds ask)) → Replies (Ok text) (ask_reply tree who start ask)
replies_found tree who start ask text found is = reply_found tree who start ask found ∙ ap Ok (sym is)

pub replies_refused : (tree : List Directory) (who : Principal) (start : Components) (ask : Ask) (refusal : Refusal)
    → (refusal ≢ refusals.Memory → refusal_of (resolve tree who start) ≡ Some refusal) → Replies (Err refusal) (ask_reply tree who start ask)
replies_refused tree who start ask refusal is = λ other. reply_refused tree who start ask refusal (is other)

-- so with the lines of du
pub usages_replied : (tree : List Directory) (who : Principal) (start : Components) (depth : ℕ) (expression : Find) (chosen : Row → ℕ → Bool) → chosen ≡ find_holds expression → (r : Result (Vec ℕ Global) Refusal)
    → IfOk r (λ text. text.items ≡ usage_lines depth chosen start (answer tree who start (λ _ _. true))) → OnOk r (refusal_of (resolve tree who start) ≡ None)
    → IfErr r (λ refusal. refusal ≢ refusals.Memory → refusal_of (resolve tree who start) ≡ Some refusal) → Replies r (ask_reply tree who start (usage_ask depth expression))
usages_replied tree who start depth expression chosen same (Ok text) is found refused =
    replies_found tree who start (usage_ask depth expression) text found (is ∙ ap (λ f. usage_lines depth f start (answer tree who start (λ _ _. true))) same)
usages_replied tree who start depth expression chosen same (Err refusal) is found refused = replies_refused tree who start (usage_ask depth expression) refusal refused

-- an answer has no more rows than its tree
filter-few : (p : Row → Bool) (rows : List Row) → length (filter p rows) ≤ length rows
filter-few p rows = let parts = length-filter_both p (λ row. not (p row)) (λ row. refl) rows in omega (arith, parts)

pub answer-few : (tree : List Directory) (who : Principal) (start : Components) (asks : Row → ℕ → Bool) → length (answer tree who start asks) ≤ length (all_rows tree)
unfolding answer
answer-few tree who start asks =
    let listed = filter-few (λ row. is_listed tree who start (home row)) (all_rows tree) in
    let asked = filter-few (λ row. asks row (depth_below (length start) row)) (listed_rows tree who start) in
    omega (arith, listed, asked, length-map (filter (λ row. is_listed tree who start (home row)) (all_rows tree)) (shown who))

-- what meets a question of the row alone, of all that is listed
kept : (p : Row → Bool) (rows : List Row) → filter (λ row. p row) rows ≡ filter p (filter (λ row. true) rows)
kept p [] = refl
kept p (row ∷ rows) = ap (λ (rest : List Row). cond (p row) (row ∷ rest) rest) (kept p rows)

pub answer-kept : (tree : List Directory) (who : Principal) (start : Components) (p : Row → Bool) → answer tree who start (λ row depth. p row) ≡ filter p (answer tree who start (λ row depth. true))
unfolding answer
answer-kept tree who start p = kept p (listed_rows tree who start)

pub asks_private : AsksArePrivate
unfolding ask_reply
asks_private tree other who start alike ask = ap (λ (r : Result (List Row) Refusal). r >>= λ rows. Ok (ask_text ask start rows)) (alike_replies tree other who start alike (ask_holds ask))
