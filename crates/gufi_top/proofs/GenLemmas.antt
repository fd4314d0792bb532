-- What `gen` comes to.
use Rattle.std.proofs.Common.{◌≡◌, ℕ, ◌≤◌, Bool, true, false, List, [], ◌∷◌, ◌++◌, refl, arith}
use Rattle.std.specs.Prelude.{None, Result, Ok, Err, is_ok, codes}
use Rattle.std.proofs.lemmas.Bool.{false≢true}
use Rattle.gufi_base.specs.Basics.{◌>>=◌}
use Rattle.gufi_base.specs.Delimiters.{may_delimit}
use Rattle.gufi_access.specs.declared.class.Principal.{Principal}
use Rattle.gufi_access.specs.Access.{principal}
use Rattle.gufi_tree.specs.Tree.{Directory}
use Rattle.gufi_tree.specs.Resolve.{resolve, is_found}
use Rattle.gufi_tree.specs.declared.resolve.Resolved.{Resolved}
use Rattle.gufi_tree.specs.declared.resolve.Resolved.TheVariants.{Found, Denied, NoSuch, NotDir}
use Rattle.gufi_trace.specs.TraceText.{trace_means}
use Rattle.gufi_gen.specs.Generated.{gen_text}
use Rattle.gufi_gen.specs.MadeTree.{made_tree}
use Rattle.gufi_gen.specs.Laws.{GeneratedTracesAreRead, GeneratedRootsAreListed}
use Rattle.gufi_roll.specs.CanRoll.{roll_flags, roll_report, report_text}
use Rattle.gufi_walk.specs.Answer.{refusal_of}
use Rattle.gufi_walk.specs.declared.refusal.Refusal.{Refusal}
use Rattle.gufi_top.specs.Reasons.{tree_within}
use Rattle.gufi_ask.specs.Asks.{ask_reply}
use Rattle.gufi_top.specs.Verdict.{total_for, summary_of, replied, summary_over, gen_verdict, command_over}
use Rattle.gufi_top.specs.Laws.{GenIsNeverRefused}

pub none_refused : (r : Resolved) → is_found r ≡ true → refusal_of r ≡ None
none_refused (Found id) h = refl
none_refused (Denied depth class) h = absurd (false≢true h)
none_refused (NoSuch depth) h = absurd (false≢true h)
none_refused (NotDir depth) h = absurd (false≢true h)

total_written : (tree : List Directory) (name : List ℕ) (who : Principal) → is_found (resolve tree who []) ≡ true → is_ok (total_for tree name who) ≡ true
unfolding ask_reply
total_written tree name who found = rw (none_refused (resolve tree who []) found) refl

three_written : (a b c : Result (List ℕ) Refusal) (f : List ℕ → List ℕ → List ℕ → List ℕ) → is_ok a ≡ true → is_ok b ≡ true → is_ok c ≡ true
    → is_ok (replied (a >>= λ x. (b >>= λ y. (c >>= λ z. Ok (f x y z))))) ≡ true
three_written (Ok x) (Ok y) (Ok z) f h k l = refl
three_written (Err e) b c f h k l = absurd (false≢true h)
three_written (Ok x) (Err e) c f h k l = absurd (false≢true k)
three_written (Ok x) (Ok y) (Err e) f h k l = absurd (false≢true l)

module _ (read : GeneratedTracesAreRead) (listed : GeneratedRootsAreListed) where
  summary_written : (n delim : ℕ) → 1 ≤ n → n ≤ 200000 → may_delimit delim ≡ true → is_ok (summary_over n delim) ≡ true
  unfolding summary_over summary_of tree_within
  summary_written n delim some few may =
      let tree = made_tree n in
      let found : (who : Principal) → is_found (resolve (made_tree n) who []) ≡ true = λ who. listed n who some (omega arith) in
      let means : trace_means delim (gen_text n delim) ≡ Ok (made_tree n) = read n delim some (omega arith) may in
      rw means
      (three_written (total_for tree (codes "0") (principal 0 [])) (total_for tree (codes "1001:101") (principal 1001 (101 ∷ []))) (total_for tree (codes "1002") (principal 1002 []))
      (λ x y z. report_text (roll_report (made_tree n) (roll_flags (made_tree n) 1000)) ++ (x ++ (y ++ z)))
      (total_written tree (codes "0") (principal 0 []) (found (principal 0 []))) (total_written tree (codes "1001:101") (principal 1001 (101 ∷ [])) (found (principal 1001 (101 ∷ []))))
      (total_written tree (codes "1002") (principal 1002 []) (found (principal 1002 []))))

  pub gen_written : (n delim : ℕ) (summary : Bool) → 1 ≤ n → n ≤ 200000 → may_delimit delim ≡ true → is_ok (gen_verdict n delim summary) ≡ true
  gen_written n delim true some few may = summary_written n delim some few may
  gen_written n delim false some few may = refl

  pub gen_never_refused : GenIsNeverRefused
  unfolding command_over
  gen_never_refused n delim workers summary files some few may = gen_written n delim summary some few may
