-- Lemmas on what is written of a reply.
use Rattle.std.proofs.Common.{◌≡◌, ◌≢◌, ℕ, List, [], refl, subst}
use Rattle.std.specs.Prelude.{Result, Ok, Err, Vec}
use Rattle.std.specs.declared.alloc.Global.{Global}
use Rattle.gufi_base.specs.Paths.{Components}
use Rattle.gufi_access.specs.declared.class.Principal.{Principal}
use Rattle.gufi_tree.specs.Tree.{Directory}
use Rattle.gufi_walk.specs.declared.refusal.Refusal.{Refusal}
use Rattle.gufi_walk.specs.declared.refusal.Refusal.TheVariants as refusals
use Rattle.gufi_top.specs.declared.halt.Output.{Output}
use Rattle.gufi_top.specs.declared.halt.Halt.{Halt}
use Rattle.gufi_top.specs.declared.halt.Halt.TheVariants as halts
use Rattle.gufi_top.specs.Views.{text_view}
use Rattle.gufi_ask.specs.Replies.{Replies}
use Rattle.gufi_top.specs.Calls.{Gives}
use Rattle.gufi_top.specs.Reasons.{start_reason}
use Rattle.gufi_top.specs.Verdict.{replied, asked}
use Rattle.gufi_top.proofs.ReadingLemmas.{given_as}
use Rattle.gufi_ask.specs.Asks.{Ask, ask_reply}

pub written_text : (text : Output) (out : Vec ℕ Global) (given : Result (List ℕ) Refusal) → Replies (Ok out) given
    → (text.out.items ≡ out.items) × (text.notes.items ≡ []) → Gives text_view (Ok text) (replied given)
written_text text out given is (same, none) = rw (is, same, none) refl

refused_as : (refusal : Refusal) (r : Result Output Halt) (given : Result (List ℕ) Refusal) → given ≡ Err refusal
    → Gives (λ x. x) r (Err (start_reason refusal)) → Gives text_view r (replied given)
refused_as refusal r given is reason = given_as text_view r (start_reason refusal) _ reason (rw is refl)

pub written_refusal : (refusal : Refusal) (r : Result Output Halt) (given : Result (List ℕ) Refusal) → Replies (Err refusal) given
    → (refusal ≢ refusals.Memory → Gives (λ x. x) r (Err (start_reason refusal))) → (refusal ≡ refusals.Memory → r ≡ Err halts.Memory)
    → Gives text_view r (replied given)
written_refusal (refusals.Denied depth class) r given is reason memory = refused_as _ r given (is (λ e. cc)) (reason (λ e. cc))
written_refusal (refusals.NoSuch depth) r given is reason memory = refused_as _ r given (is (λ e. cc)) (reason (λ e. cc))
written_refusal (refusals.NotDir depth) r given is reason memory = refused_as _ r given (is (λ e. cc)) (reason (λ e. cc))
written_refusal refusals.Memory r given is reason memory = rw (memory refl) tt

pub ruleset writing = (written_text, written_refusal)

-- the reply to an ask over a tree, written
pub asked_written : (tree seen : List Directory) (who : Principal) (start : Components) (ask : Ask) (reply : Result (Vec ℕ Global) Refusal) (r : Result Output Halt) → seen ≡ tree
    → Replies reply (ask_reply seen who start ask)
    → ((given : Result (List ℕ) Refusal) → Replies reply given → Gives text_view r (replied given))
    → Gives text_view r (asked tree who start ask)
unfolding asked
asked_written tree seen who start ask reply r same is given = given (ask_reply tree who start ask) (subst (λ t. Replies reply (ask_reply t who start ask)) same is)

pub ruleset asking = asked_written
