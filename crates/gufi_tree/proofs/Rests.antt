-- What is left of a path behind another that leads to it.
use Rattle.std.proofs.Common.{◌≡◌, ◌≢◌, ℕ, Bool, true, false, cond, Option, Some, None, List, [], ◌∷◌, ◌++◌, refl, sym, ap, ◌∙◌, append_assoc}
use Rattle.std.specs.Prelude.{bytes_eq}
use Rattle.std.proofs.lemmas.Bool.{false_from_ne_true}
use Rattle.std.proofs.lemmas.Slice.Eq.{bytes_eq-Decides}
use Rattle.gufi_base.specs.Paths.{Components, path_eq}
use Rattle.gufi_tree.proofs.Built.{path_eq-Decides}

-- what is left of the second path behind the first, where that leads to it
abbrev pub rest_after : Components → Components → Option Components
rest_after [] path = Some path
rest_after (name ∷ names) [] = None
rest_after (name ∷ names) (first ∷ path) = cond (bytes_eq name first) (rest_after names path) None

pub path_eq-other : (p q : Components) → (p ≢ q) → path_eq p q ≡ false
path_eq-other p q h = false_from_ne_true _ (λ e. h ((path_eq-Decides p q).0 e))

pub bytes_eq-refl : (a : List ℕ) → bytes_eq a a ≡ true
bytes_eq-refl a = (bytes_eq-Decides a a).1 refl

-- what is left after a prefix
pub rest_after-append : (s rest : Components) → rest_after s (s ++ rest) ≡ Some rest
rest_after-append [] rest = refl
rest_after-append (name ∷ s) rest = rw (bytes_eq-refl name) (rest_after-append s rest)

-- after one name more
pub rest_after-push : (s : Components) (name first : List ℕ) (rest : Components) → rest_after (s ++ name ∷ []) (s ++ first ∷ rest) ≡ cond (bytes_eq name first) (Some rest) None
rest_after-push [] name first rest = refl
rest_after-push (next ∷ s) name first rest = rw (bytes_eq-refl next) (rest_after-push s name first rest)

pub rest_after-short : (s : Components) (name : List ℕ) → rest_after (s ++ name ∷ []) s ≡ None
rest_after-short [] name = refl
rest_after-short (next ∷ s) name = rw (bytes_eq-refl next) (rest_after-short s name)

pub none≢some : {A : Type 0} {a : A} → None ≢ Some a
none≢some = λ e. cc

when_some : {A : Type 0} (b : Bool) (o : Option A) (a : A) → cond b o None ≡ Some a → (b ≡ true) × (o ≡ Some a)
when_some true o a e = (refl, e)
when_some false o a e = absurd (none≢some e)

when_none : {A : Type 0} (b : Bool) (o u : Option A) → (o ≡ None → u ≡ None) → cond b o None ≡ None → cond b u None ≡ None
when_none true o u h e = h e
when_none false o u h e = refl

some_same : {A : Type 0} (a b : A) → Some a ≡ Some b → a ≡ b
some_same a b e = cc

pub rest_after-Some : (s path rest : Components) → rest_after s path ≡ Some rest → path ≡ s ++ rest
rest_after-Some [] path rest e = some_same path rest e
rest_after-Some (name ∷ s) [] rest e = absurd (none≢some e)
rest_after-Some (name ∷ s) (first ∷ path) rest e =
    let w = when_some (bytes_eq name first) (rest_after s path) rest e in
    let n : name ≡ first = (bytes_eq-Decides name first).0 w.0 in
    let p : path ≡ s ++ rest = rest_after-Some s path rest w.1 in
    rw (n, p) refl

-- a longer prefix leaves nothing where a shorter one does
pub rest_after-None : (s : Components) (name : List ℕ) (path : Components) → rest_after s path ≡ None → rest_after (s ++ name ∷ []) path ≡ None
rest_after-None [] name path e = absurd (none≢some (sym e))
rest_after-None (next ∷ s) name [] e = refl
rest_after-None (next ∷ s) name (first ∷ path) e =
    when_none (bytes_eq next first) (rest_after s path) _ (rest_after-None s name path) e

-- the names that follow one prefix of a path are the same
pub next_same : (s path : Components) (a b : List ℕ) (r q : Components) → rest_after (s ++ a ∷ []) path ≡ Some r → rest_after (s ++ b ∷ []) path ≡ Some q → a ≡ b
next_same s path a b r q e f =
    let p : path ≡ s ++ b ∷ q = rest_after-Some (s ++ b ∷ []) path q f ∙ append_assoc s (b ∷ []) q in
    let g : cond (bytes_eq a b) (Some q) None ≡ Some r = sym (rest_after-push s a b q) ∙ ap (rest_after (s ++ a ∷ [])) (sym p) ∙ e in
    (bytes_eq-Decides a b).0 (when_some (bytes_eq a b) (Some q) r g).0

pub longer_differs : (s : Components) (name : List ℕ) (rest : Components) → s ≢ s ++ name ∷ rest
longer_differs s name rest = λ e. none≢some (sym (rest_after-short s name) ∙ ap (rest_after (s ++ name ∷ [])) (e ∙ sym (append_assoc s (name ∷ []) rest)) ∙ rest_after-append (s ++ name ∷ []) rest)
