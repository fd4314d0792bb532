-- Names of words, whatever the case of their letters.
use Rattle.std.proofs.Common.{◌≡◌, ◌↔◌, ℕ, Bool, true, false, List, IsTrue, refl, sym, ◌∙◌, true≢false}
use Rattle.std.proofs.lemmas.Slice.Eq.{bytes_eq-Decides}
use Rattle.std.specs.Prelude.{bytes_eq}
use Rattle.gufi_select.specs.Names.{lower}

told : (b : Bool) (letters name : List ℕ) → (IsTrue b ↔ (lower letters ≡ lower name)) → name ≡ lower name → (e : Bool) → e ≡ bytes_eq name (lower letters) → b ≡ e
told true letters name tells small e is = sym (is ∙ (bytes_eq-Decides name (lower letters)).1 (small ∙ sym (tells.0 refl)))
told false letters name tells small true is = absurd (true≢false (sym (tells.1 (sym ((bytes_eq-Decides name (lower letters)).0 (sym is)) ∙ small))))
told false letters name tells small false is = refl

pub same_name : (b : Bool) (letters name : List ℕ) → (IsTrue b ↔ (lower letters ≡ lower name)) → lower name ≡ name → b ≡ bytes_eq name (lower letters)
same_name b letters name tells small = told b letters name tells (sym small) (bytes_eq name (lower letters)) refl
