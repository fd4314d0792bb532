-- Lemmas on files in memory.
use Rattle.std.proofs.Common.{◌≡◌, ℕ, zero, suc, ◌+◌, ◌<◌, List, [], ◌∷◌, ◌++◌, length, take, drop, get_or, true, Some, refl, sym, ap, ◌∙◌, arith, add-zero}
use Rattle.std.specs.Prelude.{String, Vec}
use Rattle.std.specs.declared.alloc.Global.{Global}
use Rattle.std.specs.String.{string_bytes}
use Rattle.std.specs.Str.{bytes_eq}
use Rattle.std.proofs.lemmas.List.{take-append-drop, drop-drop}
use Rattle.gufi_io.specs.Held.{MemFiles, held, bytes_at}

-- the file at i has the name
pub held_here : (files : MemFiles) (i : ℕ) (name : List ℕ) (file : String Global × Vec ℕ Global) → i < length files → file ≡ get_or files i file → bytes_eq (string_bytes file.0) name ≡ true
    → held (drop i files) name ≡ Some (bytes_at files i)
held_here [] i name file inside is eq = absurd (omega arith)
held_here (x ∷ files) zero name file inside is eq = let e : bytes_eq (string_bytes x.0) name ≡ true = ap (λ (f : String Global × Vec ℕ Global). bytes_eq (string_bytes f.0) name) (sym is) ∙ eq in rw e refl
held_here (x ∷ files) (suc i) name file inside is eq = held_here files i name file (omega arith) is eq

-- n bytes were read of what is left from at on
pub read_gives : (bytes buf rest : List ℕ) (at n : ℕ) → rest ≡ drop at bytes → take n buf ≡ take n rest → (n ≡ 0 → 0 < length buf → rest ≡ [])
    → (drop at bytes ≡ take n buf ++ drop (at + n) bytes) × (n ≡ 0 → 0 < length buf → drop (at + n) bytes ≡ [])
read_gives bytes buf rest at n is front some = (
  sym (take-append-drop n (drop at bytes)) ∙ ap (λ l. take n l ++ drop n (drop at bytes)) (sym is) ∙ ap (λ l. l ++ drop n (drop at bytes)) (sym front) ∙ ap (λ l. take n buf ++ l) (drop-drop n at bytes),
  λ z room. let none : drop at bytes ≡ [] = sym is ∙ some z room in rw (z, add-zero) none,
)
