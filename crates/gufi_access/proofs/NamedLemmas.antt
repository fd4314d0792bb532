-- The named IDs of a list, entry by entry.
use Rattle.std.proofs.Common.{◌≡◌, ◌≢◌, ℕ, Bool, ◌&&◌, List, [], ◌∷◌, refl}
use Rattle.std.proofs.lemmas.Bool.{eq-eqb, ne_eqb}
use Rattle.gufi_access.specs.declared.acl.Entry.{Entry}
use Rattle.gufi_access.specs.Access.{has_bits}
use Rattle.gufi_access.specs.Tried.{named_by}

pub named_by_end : (tag : ℕ) (masked : Bool) (es : List Entry) → es ≡ [] → named_by tag masked es ≡ []
unfolding named_by
named_by_end tag masked es same = rw same refl

pub named_by_here : (tag : ℕ) (masked ok : Bool) (es rest : List Entry) (e : Entry) → es ≡ e ∷ rest → e.tag ≡ tag → ok ≡ (masked && has_bits e.bits 5)
    → named_by tag masked es ≡ record { id = e.id; ok = ok } ∷ named_by tag masked rest
unfolding named_by
named_by_here tag masked ok es rest e same tagged is_ok = rw (same, is_ok, eq-eqb e.tag tag tagged) refl

pub named_by_other : (tag : ℕ) (masked : Bool) (es rest : List Entry) (e : Entry) → es ≡ e ∷ rest → e.tag ≢ tag
    → named_by tag masked es ≡ named_by tag masked rest
unfolding named_by
named_by_other tag masked es rest e same untagged = rw (same, ne_eqb e.tag tag untagged) refl
