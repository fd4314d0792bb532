use Rattle.std.proofs.Common.{◌≡◌, ℕ, List, [], ◌∷◌, Vec, Global, Some, IfSome, bytes_eq, sym, ap, subst, ◌∙◌, inl, inr}
use Rattle.std.specs.Map.{lookup}
use Rattle.std.proofs.lemmas.Bool.{cases_Bool}
use Rattle.std.proofs.lemmas.Slice.Eq.{bytes_eq-Decides}
use Rattle.gufi_access.specs.declared.class.Principal.{Principal}
use Rattle.gufi_users.specs.Entries.{UserTables}
use Rattle.gufi_users.specs.Users.{principal_of}
use Rattle.gufi_plan.proofs.principals.Principals.principal.Goals as goal

-- a word by which a principal is found is that of a key
key_of : (word : List ℕ) (entries : List (Vec ℕ Global × Principal)) → IfSome (lookup (λ (key : Vec ℕ Global). bytes_eq word key.items) entries) (λ who. (key : Vec ℕ Global) × (key.items ≡ word))
key_of word [] = tt
key_of word (entry ∷ entries) =
    elim (cases_Bool (bytes_eq word entry.0.items)) [
      | inl here ↦ rw here (entry.0, sym ((bytes_eq-Decides word entry.0.items).0 here))
      | inr off ↦ rw off (key_of word entries)
    ]

-- what is known by its key is known by its word
known_word : (tables : UserTables) (entries : List (Vec ℕ Global × Principal)) (word : List ℕ) (who : Principal)
    → ((key : Vec ℕ Global) → IfSome (lookup (λ (k : Vec ℕ Global). bytes_eq key.items k.items) entries) (λ found. principal_of tables key.items ≡ Some found))
    → lookup (λ (key : Vec ℕ Global). bytes_eq word key.items) entries ≡ Some who → principal_of tables word ≡ Some who
known_word tables entries word who known found =
    let named : (key : Vec ℕ Global) × (key.items ≡ word) = subst (λ o. IfSome o (λ who. (key : Vec ℕ Global) × (key.items ≡ word))) found (key_of word entries) in
    let at_key : lookup (λ (k : Vec ℕ Global). bytes_eq named.0.items k.items) entries ≡ Some who =
    ap (λ (w : List ℕ). lookup (λ (k : Vec ℕ Global). bytes_eq w k.items) entries) named.1 ∙ found in
    ap (principal_of tables) (sym named.1) ∙ subst (λ o. IfSome o (λ found. principal_of tables named.0.items ≡ Some found)) at_key (known named.0)

pub returns-in-Some-clause-who : goal.returns-in-Some-clause-who
returns-in-Some-clause-who c =
    ap Some c.in_ok-share.ensures
    ∙ sym (known_word c.self.inside.askers c.self.inside.known.entries c.args.word.now c.in-Some.who.now c.self.invariant (sym c.in-Some.ensures.value))
    ∙ ap (λ tables. principal_of tables c.args.word.now) c.self.view_is
