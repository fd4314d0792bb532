-- Lemmas on the summary of a generated tree.
use Rattle.std.proofs.Common.{◌≡◌, ℕ, List, [], ◌∷◌, ◌++◌, refl, sym, ap, ◌∙◌, subst, append_assoc}
use Rattle.std.specs.Prelude.{Result, Ok, Err, IsErrAnd, Vec, codes}
use Rattle.std.specs.declared.alloc.Global.{Global}
use Rattle.gufi_access.specs.Access.{principal}
use Rattle.gufi_roll.specs.CanRoll.{roll_report, roll_flags, report_text}
use Rattle.gufi_tree.specs.Tree.{Directory}
use Rattle.gufi_walk.specs.declared.refusal.Refusal.{Refusal}
use Rattle.gufi_ask.specs.Replies.{Replies}
use Rattle.gufi_top.specs.Calls.{Gives, AppendsReply}
use Rattle.gufi_top.specs.Verdict.{generated_tree, total_for, summary_of, summary_over, replied}
use Rattle.gufi_top.specs.Views.{text_view}
use Rattle.gufi_top.specs.declared.halt.Output.{Output}
use Rattle.gufi_top.specs.declared.halt.Halt.{Halt}
use Rattle.gufi_top.specs.declared.halt.Halt.TheVariants as halts

-- ---- the tree, and then its summary

pub summary_ok : (n delim : ℕ) (tree : List Directory) (r : Result Output Halt)
    → Gives {A = List Directory} (λ t. t) (Ok tree) (generated_tree n delim) → Gives text_view r (replied (summary_of tree)) → Gives text_view r (summary_over n delim)
unfolding summary_over
summary_ok n delim tree r read given = rw read given

pub summary_err : (n delim : ℕ) (e : Halt) → Gives {A = List Directory} (λ t. t) (Err e) (generated_tree n delim) → Gives text_view (Err e) (summary_over n delim)
unfolding summary_over
summary_err n delim (halts.Refused status note) read = rw read refl
summary_err n delim halts.ReadFault read = tt
summary_err n delim halts.Memory read = tt

-- ---- three totals, one behind another

abbrev first_of : List Directory → Result (List ℕ) Refusal
first_of tree = total_for tree (codes "0") (principal 0 [])

abbrev second_of : List Directory → Result (List ℕ) Refusal
second_of tree = total_for tree (codes "1001:101") (principal 1001 (101 ∷ []))

abbrev third_of : List Directory → Result (List ℕ) Refusal
third_of tree = total_for tree (codes "1002") (principal 1002 [])

abbrev report_of : List Directory → List ℕ
report_of tree = report_text (roll_report tree (roll_flags tree 1000))

-- an error that a `?` passes on
pub passed_on : (r : Result (Vec ℕ Global) Refusal) (refusal : Refusal) (given : Result (List ℕ) Refusal) → IsErrAnd r (λ e. e ≡ refusal) → Replies (Err refusal) given → Replies r given
passed_on (Ok text) refusal given is told = absurd is
passed_on (Err e) refusal given is told = subst (λ x. Replies (Err x) given) (sym is) told

pub first_refused : (tree : List Directory) (refusal : Refusal) (old new : List ℕ) → AppendsReply (Err refusal) old new (first_of tree) → Replies (Err refusal) (summary_of tree)
unfolding summary_of
first_refused tree refusal old new first = λ other. rw (first other) refl

pub second_refused : (tree : List Directory) (refusal : Refusal) (old mid new : List ℕ) → AppendsReply (Ok tt) old mid (first_of tree) → AppendsReply (Err refusal) mid new (second_of tree)
    → Replies (Err refusal) (summary_of tree)
unfolding summary_of
second_refused tree refusal old mid new first second = λ other. rw (first.1, second other) refl

pub third_refused : (tree : List Directory) (refusal : Refusal) (old mid last new : List ℕ) → AppendsReply (Ok tt) old mid (first_of tree) → AppendsReply (Ok tt) mid last (second_of tree)
    → AppendsReply (Err refusal) last new (third_of tree) → Replies (Err refusal) (summary_of tree)
unfolding summary_of
third_refused tree refusal old mid last new first second third = λ other. rw (first.1, second.1, third other) refl

pub three_given : (tree : List Directory) (text : Vec ℕ Global) (old mid last : List ℕ) → old ≡ report_of tree → AppendsReply (Ok tt) old mid (first_of tree)
    → AppendsReply (Ok tt) mid last (second_of tree) → AppendsReply (Ok tt) last text.items (third_of tree) → Replies (Ok text) (summary_of tree)
unfolding summary_of
three_given tree text old mid last report first second third =
    let whole : text.items ≡ report_of tree ++ (first.0 ++ (second.0 ++ third.0)) =
    third.2 ∙ ap (λ (t : List ℕ). t ++ third.0) (second.2 ∙ ap (λ (t : List ℕ). t ++ second.0) (first.2 ∙ ap (λ (t : List ℕ). t ++ first.0) report))
    ∙ append_assoc (report_of tree ++ first.0) second.0 third.0 ∙ append_assoc (report_of tree) first.0 (second.0 ++ third.0) in
    rw (first.1, second.1, third.1) (ap Ok (sym whole))

pub ruleset summaries = (summary_ok, summary_err)
