-- Lines behind one another.
use Rattle.std.proofs.Common.{◌≡◌, List, ◌++◌, ap, ◌∙◌, append_assoc}
use Rattle.std.specs.Prelude.{ℕ, Result, Ok, Err, OnOk}

pub on_ok : {A E P Q : Type 0} (r : Result A E) → (P → Q) → OnOk r P → OnOk r Q
on_ok (Ok x) next h = next h
on_ok (Err e) next h = tt

pub four_behind : (out first second third last one two three all : List ℕ) → one ≡ out ++ first → two ≡ one ++ second → three ≡ two ++ third → all ≡ three ++ last
    → all ≡ out ++ (first ++ (second ++ (third ++ last)))
four_behind out first second third last one two three all a b d e =
    e ∙ ap (λ (t : List ℕ). t ++ last) (d ∙ ap (λ (t : List ℕ). t ++ third) (b ∙ ap (λ (t : List ℕ). t ++ second) a))
    ∙ simp append_assoc
