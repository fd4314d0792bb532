-- Rows by name.
use Rattle.std.proofs.Common.{◌≡◌, ℕ, Bool, true, false, not, List, [], ◌∷◌, ◌++◌, refl, sym, ap, ◌∙◌, inl, inr, true≢false}
use Rattle.std.specs.Prelude.{Option, is_some, Vec, bytes_eq, MatchBool}
use Rattle.std.specs.List.{list_any}
use Rattle.std.specs.Map.{lookup}
use Rattle.std.specs.declared.alloc.Global.{Global}
use Rattle.std.proofs.lemmas.Bool.{cases_Bool}
use Rattle.indexmap.specs.IndexMap.{insert_entry}
use Rattle.gufi_users.specs.Rows.{is_named}

abbrev same_bytes : Vec ℕ Global → Vec ℕ Global → Bool
same_bytes a b = bytes_eq a.items b.items

-- a name is found exactly where some row has it
pub lookup-named : {X : Type 0} (name : List ℕ) (rows : List (Vec ℕ Global × X)) → is_some (lookup (is_named name) rows) ≡ list_any (λ other. bytes_eq name other.0.items) rows
lookup-named name [] = refl
lookup-named name (row ∷ rows) =
    elim (cases_Bool (bytes_eq name row.0.items)) [
      | inl here ↦ rw here refl
      | inr off ↦ rw off (lookup-named name rows)
    ]

-- a new name goes last
inserted : {X : Type 0} (rows : List (Vec ℕ Global × X)) (name : Vec ℕ Global) (row : X) → list_any (λ other. bytes_eq name.items other.0.items) rows ≡ false
    → insert_entry same_bytes rows name row ≡ rows ++ (name, row) ∷ []
inserted [] name row new = refl
inserted (other ∷ rows) name row new =
    elim (cases_Bool (bytes_eq name.items other.0.items)) [
      | inl here ↦ absurd (true≢false (rw here at new))
      | inr off ↦ rw off (ap (λ l. other ∷ l) (inserted rows name row (rw off at new)))
    ]

pub row_added : {X : Type 0} (rows rows' : List (Vec ℕ Global × X)) (name : Vec ℕ Global) (row : X) (replaced : Option X) (is_new : Bool)
    → replaced ≡ lookup (is_named name.items) rows → rows' ≡ insert_entry same_bytes rows name row → is_some replaced ≡ not is_new
    → MatchBool is_new ((list_any (λ other. bytes_eq name.items other.0.items) rows ≡ false) × (rows' ≡ rows ++ (name, row) ∷ [])) (list_any (λ other. bytes_eq name.items other.0.items) rows ≡ true)
row_added rows rows' name row replaced true found entries new =
    let absent = sym (lookup-named name.items rows) ∙ ap is_some (sym found) ∙ new in
    (absent, entries ∙ inserted rows name row absent)
row_added rows rows' name row replaced false found entries new = sym (lookup-named name.items rows) ∙ ap is_some (sym found) ∙ new
