-- What is known of guards that were compared with one.
use Rattle.std.specs.Prelude.{◌≡◌, ℕ, List, slice_index_or, Option, None, Some}
use Rattle.gufi_access.specs.Access.{Rights, rights}
use Rattle.gufi_access.specs.Tried.{covers}
use Rattle.gufi_roll.specs.declared.memo.Known.{Known}

-- each answer is whether the rights cover those of the guard beside it
abbrev pub AreRight : Rights → List (Option Known) → Type 0
AreRight parent known = (place : ℕ) (one : Known) → slice_index_or known place None ≡ Some one → one.answer ≡ covers parent (rights one.child)
