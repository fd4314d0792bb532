-- What a phase asks of the call that makes the bodies of its replies, and of questions that are kept under one key.
use denote.Ref.{Bor}
use Rattle.std.specs.Prelude.{◌≡◌, ℕ, ◌++◌, List, Contains, Result, Vec, IfOk}
use Rattle.std.specs.Fn.{Shared, AnyResult, always_fn}
use Rattle.std.specs.declared.alloc.Global.{Global}
use Rattle.gufi_cache.specs.declared.key.CacheKey.{CacheKey}

-- It may be made of each question, and puts the body from an item behind a text.
pub record BodiesBy {A Q T E : Type 0} (g : Shared A (Bor Q × (Vec ℕ Global × (Bor T × Unit {0}))) (Result (Vec ℕ Global) E)) (body : Q → T → List ℕ) (call : A) : Type 0 where
  pub may : always_fn g call
  pub gives : (question : Bor Q) (text : Vec ℕ Global) (item : Bor T)
      → AnyResult g call (question, (text, (item, tt))) (λ r. IfOk r (λ whole. whole.items ≡ text.items ++ body question.now item.now))

-- Of these questions, those with one key have one body.
abbrev pub AreAlike : {Q T : Type 0} → (Q → ℕ → CacheKey) → (Q → T → List ℕ) → List Q → Type 0
AreAlike key body asked = (one other : _) → Contains asked one → Contains asked other → (n m : ℕ) → key one n ≡ key other m → (item : _) → body one item ≡ body other item
