use Rattle.std.proofs.Common.{◌≡◌, ℕ, List, Option, Some, cond, IfSome, bytes_eq, sym, ap, subst, ◌∙◌, inl, inr}
use Rattle.std.proofs.lemmas.Bool.{cases_Bool}
use Rattle.std.proofs.lemmas.Slice.Eq.{bytes_eq-Decides}
use Rattle.gufi_access.specs.declared.class.Principal.{Principal}
use Rattle.gufi_users.specs.Entries.{UserTables}
use Rattle.gufi_users.specs.Users.{principal_of}
use Rattle.gufi_plan.proofs.principals.keep.Goals as goal

-- what a word has behind a principal that is kept
known_more : (tables : UserTables) (word other : List ℕ) (who : Principal) (before after : Option Principal) → after ≡ cond (bytes_eq word other) (Some who) before → principal_of tables word ≡ Some who
    → IfSome before (λ found. principal_of tables other ≡ Some found) → IfSome after (λ found. principal_of tables other ≡ Some found)
known_more tables word other who before after is names had =
    elim (cases_Bool (bytes_eq word other)) [
      | inl here ↦
          let same : word ≡ other = (bytes_eq-Decides word other).0 here in
          let found : after ≡ Some who = rw here at is in
          rw found (subst (λ w. principal_of tables w ≡ Some who) same names)
      | inr off ↦ let kept : after ≡ before = rw off at is in rw kept had
    ]

pub returns : goal.returns
returns c = λ tables names before other.
    known_more tables c.in_ok-word.word.items other.items c.in_ok-who.who _ _ (c.in_ok-insert.ensures.updates.0 other)
    (ap (principal_of tables) c.in_ok-word.ensures.items ∙ names ∙ ap Some (sym c.in_ok-who.ensures)) (before other)
