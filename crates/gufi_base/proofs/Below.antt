-- A path below another, by the kept texts.
use Rattle.std.proofs.Common.{◌≡◌, ℕ, zero, suc, ◌-◌, ◌≤◌, Bool, true, false, eqb, List, [], ◌∷◌, ◌++◌, length, drop, refl, sym, ap, ◌∙◌, arith, append_assoc}
use Rattle.std.specs.Prelude.{not, ◌&&◌, filter, bytes_eq}
use Rattle.std.specs.List.{list_all}
use Rattle.std.proofs.lemmas.Bool.{cond-false, and_parts, and_from, not-true, eq-eqb, false≢true}
use Rattle.std.proofs.lemmas.Bool.Decides.{same_from_decides}
use Rattle.std.proofs.lemmas.List.{length-append, length-drop}
use Rattle.std.proofs.lemmas.Slice.Eq.{bytes_eq-Decides, slice_eq-Decides}
use Rattle.std.proofs.Math.Seq.{drop-append_seam}
use Rattle.gufi_base.specs.Basics.{is_empty}
use Rattle.gufi_base.specs.Names.{is_name}
use Rattle.gufi_base.specs.Paths.{Components, slashed_text, parent_path, is_prefix, path_eq, is_child_of}
use Rattle.gufi_base.specs.PathTexts.{closed_names, kept_text, names, IsText}
use Rattle.gufi_base.proofs.Parts.{has_no, closed_cons}
use Rattle.gufi_base.proofs.Names.{name_has_no, names-kept_text, IsText-kept_text, kept_text-injective}
use Rattle.gufi_base.proofs.Texts.{slashed_text-closed, parent_named}

-- where two texts are cut at the first place of a byte
pub same_cut : (s : ℕ) (a b c d : List ℕ) → has_no s a ≡ true → has_no s c ≡ true → a ++ s ∷ b ≡ c ++ s ∷ d → (a ≡ c) × (b ≡ d)
same_cut s [] b [] d p q e = (refl, cc)
same_cut s [] b (y ∷ c) d p q e =
    let h : s ≡ y = cc in
    absurd (false≢true (sym (not-true _ (and_parts _ _ q).0) ∙ eq-eqb y s (sym h)))
same_cut s (x ∷ a) b [] d p q e =
    let h : x ≡ s = cc in
    absurd (false≢true (sym (not-true _ (and_parts _ _ p).0) ∙ eq-eqb x s h))
same_cut s (x ∷ a) b (y ∷ c) d p q e =
    let h : x ≡ y = cc in
    let t : a ++ s ∷ b ≡ c ++ s ∷ d = cc in
    let rest : (a ≡ c) × (b ≡ d) = same_cut s a b c d (and_parts _ _ p).1 (and_parts _ _ q).1 t in
    (ap (λ (z : List ℕ). x ∷ z) rest.0 ∙ ap (λ (z : ℕ). z ∷ c) h, rest.1)

pub closed_names_cons : (name : List ℕ) (path : Components) → closed_names (name ∷ path) ≡ name ++ 47 ∷ closed_names path
closed_names_cons name path = append_assoc name (47 ∷ []) (closed_names path)

no_root : (name : List ℕ) (root : Components) (x : List ℕ) → [] ≡ closed_names (name ∷ root) ++ x → ⊥
no_root name root x e =
    let h : 0 ≡ length (name ++ 47 ∷ (closed_names root ++ x)) = ap length e ∙ ap length (closed_cons 47 name root x) in
    absurd (omega (arith, h, length-append name (47 ∷ (closed_names root ++ x))))

-- a text that goes on from a root's text is that of a path below the root
pub record Below (root path : Components) (left : List ℕ) : Type 0 where
  pub prefix : is_prefix root path ≡ true
  pub rest : left ≡ closed_names (drop (length root) path)

closed_below : (root path : Components) (x : List ℕ) → list_all is_name root ≡ true → list_all is_name path ≡ true → closed_names path ≡ closed_names root ++ x → Below root path x
closed_below [] path x p q e = record { prefix = refl; rest = sym e }
closed_below (r ∷ root) [] x p q e = absurd (no_root r root x e)
closed_below (r ∷ root) (name ∷ path) x p q e =
    let a = and_parts _ _ p in
    let b = and_parts _ _ q in
    let cut = same_cut 47 name (closed_names path) r (closed_names root ++ x) (name_has_no name b.0) (name_has_no r a.0) (sym (closed_names_cons name path) ∙ e ∙ closed_cons 47 r root x) in
    let rec = closed_below root path x a.1 b.1 cut.1 in
    record { prefix = and_from _ _ ((bytes_eq-Decides r name).1 (sym cut.0)) rec.prefix; rest = rec.rest }

pub closed_names-drop : (root path : Components) → is_prefix root path ≡ true → closed_names path ≡ closed_names root ++ closed_names (drop (length root) path)
closed_names-drop [] path e = refl
closed_names-drop (r ∷ root) [] e = absurd cc
closed_names-drop (r ∷ root) (name ∷ path) e =
    let both = and_parts _ _ e in
    let same : r ≡ name = (bytes_eq-Decides r name).0 both.0 in
    closed_names_cons name path ∙ ap (λ (y : List ℕ). name ++ 47 ∷ y) (closed_names-drop root path both.1) ∙ ap (λ (y : List ℕ). y ++ 47 ∷ (closed_names root ++ closed_names (drop (length root) path))) (sym same)
    ∙ sym (closed_cons 47 r root (closed_names (drop (length root) path)))

pub drop_named : (n : ℕ) (path : Components) → list_all is_name path ≡ true → list_all is_name (drop n path) ≡ true
drop_named zero path h = h
drop_named (suc n) [] h = refl
drop_named (suc n) (name ∷ path) h = drop_named n path (and_parts _ _ h).1

pub Below-text : (root path rest : List ℕ) → IsText root → IsText path → path ≡ root ++ rest → Below (names root) (names path) rest
Below-text root path rest p q e =
    let h : kept_text (names path) ≡ kept_text (names root) ++ rest = q.whole ∙ e ∙ ap (λ (t : List ℕ). t ++ rest) (sym p.whole) in
    let k : closed_names (names path) ≡ closed_names (names root) ++ rest = cc in
    closed_below (names root) (names path) rest p.each q.each k

pub prefix-text : (root path rest : List ℕ) → IsText root → IsText path → path ≡ root ++ rest → true ≡ is_prefix (names root) (names path)
prefix-text root path rest p q e = sym (Below-text root path rest p q e).prefix

-- a path behind a root
pub is_prefix-append : (root path : Components) → is_prefix root (root ++ path) ≡ true
is_prefix-append [] path = refl
is_prefix-append (name ∷ root) path = and_from _ _ ((bytes_eq-Decides name name).1 refl) (is_prefix-append root path)

prefix_case : (root path : List ℕ) (b : Bool) → IsText root → IsText path → ((rest : List ℕ) → path ≡ root ++ rest → ⊥) → is_prefix (names root) (names path) ≡ b → false ≡ b
prefix_case root path true p q never e =
    let h : path ≡ root ++ closed_names (drop (length (names root)) (names path)) =
    sym q.whole ∙ ap (λ (t : List ℕ). 47 ∷ t) (closed_names-drop (names root) (names path) e) ∙ ap (λ (t : List ℕ). t ++ closed_names (drop (length (names root)) (names path))) p.whole in
    absurd (never _ h)
prefix_case root path false p q never e = refl

pub no_prefix-text : (root path : List ℕ) → IsText root → IsText path → ((rest : List ℕ) → path ≡ root ++ rest → ⊥) → false ≡ is_prefix (names root) (names path)
no_prefix-text root path p q never = prefix_case root path (is_prefix (names root) (names path)) p q never refl

-- the text of what is left: the bytes from the root's last slash on
pub drop-text : (root path : List ℕ) → IsText root → IsText path → is_prefix (names root) (names path) ≡ true → drop (length root - 1) path ≡ kept_text (drop (length (names root)) (names path))
drop-text root path p q e =
    let rest = closed_names (drop (length (names root)) (names path)) in
    let front = slashed_text (names root) in
    let whole : path ≡ front ++ 47 ∷ rest =
    sym q.whole ∙ ap (λ (t : List ℕ). 47 ∷ t) (closed_names-drop (names root) (names path) e) ∙ ap (λ (t : List ℕ). t ++ rest) (sym (slashed_text-closed (names root))) ∙ append_assoc front (47 ∷ []) rest in
    let n : length root - 1 ≡ length front = omega (arith, ap length p.whole, ap length (slashed_text-closed (names root)), length-append front (47 ∷ [])) in
    ap (λ k. drop k path) n ∙ ap (drop (length front)) whole ∙ drop-append_seam front (47 ∷ rest)

pub IsText-drop : (root path text : List ℕ) → IsText root → IsText path → is_prefix (names root) (names path) ≡ true → text ≡ drop (length root - 1) path → IsText text
IsText-drop root path text p q e is = rw (is, drop-text root path p q e) (IsText-kept_text _ (drop_named (length (names root)) (names path) q.each))

pub names-drop : (root path text : List ℕ) → IsText root → IsText path → is_prefix (names root) (names path) ≡ true → text ≡ drop (length root - 1) path → names text ≡ drop (length (names root)) (names path)
names-drop root path text p q e is = ap names (is ∙ drop-text root path p q e) ∙ names-kept_text _ (drop_named (length (names root)) (names path) q.each)

-- equal texts are those of equal paths
pub same_text : (p q : Components) → list_all is_name p ≡ true → list_all is_name q ≡ true → bytes_eq (kept_text p) (kept_text q) ≡ path_eq q p
same_text p q h k =
    let by_texts = bytes_eq-Decides (kept_text p) (kept_text q) in
    let by_names = slice_eq-Decides bytes_eq-Decides q p (path_eq q p) refl in
    same_from_decides (bytes_eq (kept_text p) (kept_text q)) (path_eq q p) by_texts ((λ e. ap kept_text (sym (by_names.0 e))), (λ e. by_names.1 (sym (kept_text-injective p q h k e))))

-- the slashes of a kept text are one more than its names
no_slashes_in : (name rest : List ℕ) → has_no 47 name ≡ true → filter (λ b. eqb b 47) (name ++ rest) ≡ filter (λ b. eqb b 47) rest
no_slashes_in [] rest h = refl
no_slashes_in (b ∷ name) rest h =
    let both = and_parts _ _ h in
    cond-false (eqb b 47) (b ∷ filter (λ b. eqb b 47) (name ++ rest)) (filter (λ b. eqb b 47) (name ++ rest)) (not-true _ both.0) ∙ no_slashes_in name rest both.1

slashes : (path : Components) → list_all is_name path ≡ true → length (filter (λ b. eqb b 47) (closed_names path)) ≡ length path
slashes [] h = refl
slashes (name ∷ path) h =
    ap (λ (t : List ℕ). length (filter (λ b. eqb b 47) t)) (closed_names_cons name path) ∙ ap length (no_slashes_in name (47 ∷ closed_names path) (name_has_no name (and_parts _ _ h).0)) ∙ ap suc (slashes path (and_parts _ _ h).1)

pub slashes-text : (text : List ℕ) → IsText text → length (filter (λ b. eqb b 47) text) ≡ suc (length (names text))
slashes-text text is = ap (λ (t : List ℕ). length (filter (λ b. eqb b 47) t)) (sym is.whole) ∙ ap suc (slashes (names text) is.each)

pub depth-text : (text : List ℕ) (count : ℕ) → IsText text → count ≡ length (filter (λ b. eqb b 47) text) → count - 1 ≡ length (names text)
depth-text text count is n = omega (arith, n, slashes-text text is)

some_names : (path : Components) → (path ≡ [] → ⊥) → not (is_empty path) ≡ true
some_names [] some = absurd (some refl)
some_names (name ∷ path) some = refl

-- a path is a parent's child where the text before its last name is the parent's
pub child-text : (path parent : Components) (above text : List ℕ) (r : Bool) → list_all is_name path ≡ true → list_all is_name parent ≡ true → (path ≡ [] → ⊥) → above ≡ kept_text (parent_path path) → text ≡ kept_text parent → r ≡ bytes_eq above text
    → r ≡ is_child_of parent path
child-text path parent above text r p q some is same eq =
    let texts : bytes_eq above text ≡ bytes_eq (kept_text (parent_path path)) (kept_text parent) = ap (λ (t : List ℕ). bytes_eq t text) is ∙ ap (bytes_eq (kept_text (parent_path path))) same in
    eq ∙ texts ∙ same_text (parent_path path) parent (parent_named path p) q ∙ sym (ap (λ t. t && path_eq parent (parent_path path)) (some_names path some))

pub prefix-given : (root front text given : List ℕ) (b : Bool) → front ≡ root → given ≡ text → b ≡ is_prefix (names front) (names given) → b ≡ true → is_prefix (names root) (names text) ≡ true
prefix-given root front text given b e f is t =
    sym (is ∙ ap (λ (t : List ℕ). is_prefix (names t) (names given)) e ∙ ap (λ (t : List ℕ). is_prefix (names root) (names t)) f) ∙ t

pub front-fits : (root path : List ℕ) → IsText root → IsText path → is_prefix (names root) (names path) ≡ true → length root - 1 ≤ length path
front-fits root path p q e = omega (arith, ap length (drop-text root path p q e), length-drop (length root - 1) path)
