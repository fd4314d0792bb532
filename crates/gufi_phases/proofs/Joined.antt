-- Texts that are written one behind the other.
use Rattle.std.proofs.Common.{Bor, ◌≡◌, ℕ, ◌+◌, ◌<◌, List, ◌++◌, length, take, drop, get_or, append_assoc, refl, sym, ap, ◌∙◌, subst}
use Rattle.std.specs.Prelude.{Option, Result, Ok, Err, OnErr}
use Rattle.std.proofs.lemmas.Grind.{flat_map-append}
use Rattle.std.proofs.lemmas.List.{take_more, take-append-drop}
use Rattle.gufi_io.specs.Files.{TakesFront}
use Rattle.gufi_phases.specs.Lanes.{joined}
use Rattle.gufi_phases.proofs.Interleaving.{joined_more}

-- a front of a text is one of a longer text
takes_within : (a c : Option (List ℕ)) (text more : List ℕ) → TakesFront a c text → TakesFront a c (text ++ more)
takes_within a c text more front =
    (front.0 ++ more, record { front = front.1.front; parts = ap (λ l. l ++ more) front.1.parts ∙ append_assoc front.1.front front.0 more; taken = front.1.taken })

-- a front of the first texts is one of them all
pub joined_within : (a c : Option (List ℕ)) (parts : List (Bor (List ℕ))) (at : ℕ) (d : Bor (List ℕ)) → at < length parts → TakesFront a c (joined (take at parts) ++ (get_or parts at d).now) → TakesFront a c (joined parts)
joined_within a c parts at d inside front =
    let here : joined (take (at + 1) parts) ≡ joined (take at parts) ++ (get_or parts at d).now = joined_more (take at parts) (take (at + 1) parts) (get_or parts at d) (get_or parts at d).now (take_more parts at d inside) refl in
    let whole : joined (take (at + 1) parts) ++ joined (drop (at + 1) parts) ≡ joined parts =
    sym (flat_map-append (λ (p : Bor (List ℕ)). p.now) (take (at + 1) parts) (drop (at + 1) parts)) ∙ ap joined (take-append-drop (at + 1) parts) in
    subst (TakesFront a c) whole (takes_within a c _ _ (subst (TakesFront a c) (sym here) front))

-- what holds anyway holds where there is an error
pub where_failed : {T E P : Type 0} (r : Result T E) → P → OnErr r P
where_failed (Ok x) holds = tt
where_failed (Err e) holds = holds
