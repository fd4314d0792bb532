-- Sets of texts, with one text more; and paths by their texts, over all lines.
use Rattle.std.proofs.Common.{◌≡◌, ℕ, ◌+◌, ◌<◌, ◌≤◌, Bool, true, false, not, ◌&&◌, ◌||◌, cond, List, [], ◌∷◌, length, take, drop, get_or, reverse, Some, None, refl, sym, ap, ◌∙◌}
use Rattle.std.specs.Borrow.{Bor}
use Rattle.std.specs.List.{list_any, list_all}
use Rattle.std.specs.Option.{option_or}
use Rattle.std.specs.Prelude.{bytes_eq}
use Rattle.std.proofs.lemmas.Bool.{and_parts, and_from, cond-true, cond-false}
use Rattle.std.proofs.lemmas.Bool.Decides.{same_from_decides}
use Rattle.std.proofs.lemmas.List.{take_more, drop_more, drop_all, take-append-drop, reverse-append}
use Rattle.std.proofs.lemmas.List.Folds.{list_any-append, list_all-append}
use Rattle.std.proofs.lemmas.Slice.Eq.{bytes_eq-Decides}
use Rattle.gufi_base.specs.declared.record.Line.{Line}
use Rattle.gufi_base.specs.Basics.{is_empty}
use Rattle.gufi_base.specs.Names.{is_name}
use Rattle.gufi_base.specs.Paths.{Components, path_eq, parent_path}
use Rattle.gufi_base.specs.PathTexts.{kept_text, names}
use Rattle.gufi_base.proofs.Names.{names-kept_text}
use Rattle.gufi_base.proofs.Texts.{parent_named}
use Rattle.gufi_tree.specs.declared.fault.TreeFault.TheVariants.{NoRoot, Duplicate, Orphan}
use Rattle.gufi_tree.specs.Build.{is_dir_line, names_dir, is_duplicate, line_fault, least_fault, tree_fault}
use Rattle.gufi_tree.specs.Texts.{are_named, has_path_text, has_dir_text, is_orphan_by, fault_by}
use Rattle.gufi_tree.proofs.Built.{path_eq-Decides}

-- a text as a key
abbrev pub key_of : List ℕ → Bor (List ℕ)
key_of text = record { ref_ptr = (0, 0); now = text }

bytes_eq_flip : (xs ys : List ℕ) → bytes_eq xs ys ≡ bytes_eq ys xs
bytes_eq_flip xs ys =
    let d = bytes_eq-Decides xs ys in
    let e = bytes_eq-Decides ys xs in
    same_from_decides (bytes_eq xs ys) (bytes_eq ys xs) d ((λ h. sym (e.0 h)), (λ h. e.1 (sym h)))

or_is : (a x : Bool) → cond a true x ≡ (a || x)
or_is true x = refl
or_is false x = refl

or_flip : (a b : Bool) → (a || b) ≡ (b || a)
or_flip true true = refl
or_flip true false = refl
or_flip false true = refl
or_flip false false = refl

or_false : (x : Bool) → (x || false) ≡ x
or_false true = refl
or_false false = refl

pub with_text : (key text : List ℕ) (x : Bool) → cond (bytes_eq key text) true x ≡ (bytes_eq text key || x)
with_text key text x = or_is (bytes_eq key text) x ∙ ap (λ b. b || x) (bytes_eq_flip key text)

pub with_text_behind : (key text : List ℕ) (x : Bool) → cond (bytes_eq key text) true x ≡ (x || bytes_eq text key)
with_text_behind key text x = with_text key text x ∙ or_flip (bytes_eq text key) x

pub with_dir : (x d : Bool) (t : Bool) → d ≡ true → (x || t) ≡ (x || (d && t))
with_dir x true t e = refl
with_dir x false t e = absurd cc

and_true : (x : Bool) → (x && true) ≡ x
and_true true = refl
and_true false = refl

module _ {X : Type 0} where
  pub any_more : (p : X → Bool) (xs : List X) (i : ℕ) (x : X) → i < length xs → x ≡ get_or xs i x → list_any p (take (i + 1) xs) ≡ (list_any p (take i xs) || p x)
  any_more p xs i x lt is =
      ap (list_any p) (take_more xs i x lt) ∙ list_any-append p (take i xs) (get_or xs i x ∷ []) ∙ ap (λ b. list_any p (take i xs) || b) (or_false (p (get_or xs i x))) ∙ ap (λ (y : X). list_any p (take i xs) || p y) (sym is)

  pub all_more : (p : X → Bool) (xs : List X) (i : ℕ) (x : X) → i < length xs → x ≡ get_or xs i x → list_all p (take i xs) ≡ true → p x ≡ true → list_all p (take (i + 1) xs) ≡ true
  all_more p xs i x lt is all one =
      ap (list_all p) (take_more xs i x lt) ∙ list_all-append p (take i xs) (get_or xs i x ∷ []) ∙ ap (λ b. b && list_all p (get_or xs i x ∷ [])) all ∙ and_true (p (get_or xs i x)) ∙ ap p (sym is) ∙ one

  -- the newest first
  pub reverse_more : (xs : List X) (i : ℕ) (x : X) → i < length xs → x ≡ get_or xs i x → reverse (take (i + 1) xs) ≡ x ∷ reverse (take i xs)
  reverse_more xs i x lt is =
      ap reverse (take_more xs i x lt) ∙ reverse-append (take i xs) (get_or xs i x ∷ []) ∙ ap (λ (y : X). y ∷ reverse (take i xs)) (sym is)

same_text : (p q : Components) → list_all is_name p ≡ true → list_all is_name q ≡ true → bytes_eq (kept_text p) (kept_text q) ≡ path_eq p q
same_text p q h k =
    let texts = bytes_eq-Decides (kept_text p) (kept_text q) in
    same_from_decides (bytes_eq (kept_text p) (kept_text q)) (path_eq p q)
    ((λ e. sym (names-kept_text p h) ∙ ap names (texts.0 e) ∙ names-kept_text q k), (λ e. texts.1 (ap kept_text e)))
    (path_eq-Decides p q)

paths_same : (p : Components) (lines : List Line) → list_all is_name p ≡ true → are_named lines ≡ true → list_any (has_path_text (kept_text p)) lines ≡ list_any (λ (other : Line). path_eq p other.path) lines
paths_same p [] h k = refl
paths_same p (line ∷ lines) h k =
    let both = and_parts (list_all is_name line.path) (are_named lines) k in
    ap (λ b. b || list_any (has_path_text (kept_text p)) lines) (same_text p line.path h both.0) ∙ ap (λ b. path_eq p line.path || b) (paths_same p lines h both.1)

pub dirs_same : (p : Components) (lines : List Line) → list_all is_name p ≡ true → are_named lines ≡ true → list_any (has_dir_text (kept_text p)) lines ≡ names_dir lines p
dirs_same p [] h k = refl
dirs_same p (line ∷ lines) h k =
    let both = and_parts (list_all is_name line.path) (are_named lines) k in
    ap (λ b. (is_dir_line line && b) || list_any (has_dir_text (kept_text p)) lines) (same_text p line.path h both.0)
    ∙ ap (λ b. (is_dir_line line && path_eq p line.path) || b) (dirs_same p lines h both.1)

-- the fault of a line, by tests of texts
fault_same : (all earlier : List Line) (seen dirs : List ℕ → Bool) (line : Line) → are_named all ≡ true → are_named earlier ≡ true → list_all is_name line.path ≡ true
    → ((text : List ℕ) → seen text ≡ list_any (has_path_text text) earlier) → ((text : List ℕ) → dirs text ≡ list_any (has_dir_text text) all) → fault_by seen dirs line ≡ line_fault all earlier line
fault_same all earlier seen dirs line named front k s d =
    ap (λ b. cond b (Some (Duplicate line.number)) (cond (is_orphan_by dirs line) (Some (Orphan line.number)) None)) (s (kept_text line.path) ∙ paths_same line.path earlier k front)
    ∙ ap (λ b. cond (is_duplicate earlier line) (Some (Duplicate line.number)) (cond (cond (is_empty line.path) (not (is_dir_line line)) (not b)) (Some (Orphan line.number)) None))
    (d (kept_text (parent_path line.path)) ∙ dirs_same (parent_path line.path) all (parent_named line.path k) named)

named_parts : (lines : List Line) (i : ℕ) → are_named lines ≡ true → (are_named (take i lines) ≡ true) × (are_named (drop i lines) ≡ true)
named_parts lines i h = and_parts _ _ (sym (list_all-append (λ (line : Line). list_all is_name line.path) (take i lines) (drop i lines)) ∙ ap are_named (take-append-drop i lines) ∙ h)

named_back : (lines : List Line) → are_named lines ≡ true → are_named (reverse lines) ≡ true
named_back [] h = refl
named_back (line ∷ lines) h =
    let both = and_parts (list_all is_name line.path) (are_named lines) h in
    ap are_named (reverse-append (line ∷ []) lines) ∙ list_all-append (λ (other : Line). list_all is_name other.path) (reverse lines) (line ∷ [])
    ∙ and_from _ _ (named_back lines both.1) (and_from _ _ both.0 refl)

-- the fault of the line at a place
pub fault_at : (all : List Line) (i : ℕ) (line : Line) (seen dirs : List ℕ → Bool) → i < length all → line ≡ get_or all i line → are_named all ≡ true
    → ((text : List ℕ) → seen text ≡ list_any (has_path_text text) (reverse (take i all))) → ((text : List ℕ) → dirs text ≡ list_any (has_dir_text text) all)
    → fault_by seen dirs line ≡ line_fault all (reverse (take i all)) line
fault_at all i line seen dirs lt is named s d =
    let parts = named_parts all i named in
    let here : are_named (get_or all i line ∷ drop (i + 1) all) ≡ true = ap are_named (sym (drop_more all i line lt)) ∙ parts.1 in
    let own = ap (λ (x : Line). list_all is_name x.path) is ∙ (and_parts _ _ here).0 in
    fault_same all (reverse (take i all)) seen dirs line named (named_back (take i all) parts.0) own s d

-- the lines one after another
pub least_step : (all : List Line) (i : ℕ) (line : Line) → i < length all → line ≡ get_or all i line
    → least_fault all (reverse (take i all)) (drop i all) ≡ option_or (line_fault all (reverse (take i all)) line) (least_fault all (reverse (take (i + 1) all)) (drop (i + 1) all))
least_step all i line lt is =
    ap (least_fault all (reverse (take i all))) (drop_more all i line lt)
    ∙ ap (λ (x : Line). option_or (line_fault all (reverse (take i all)) x) (least_fault all (x ∷ reverse (take i all)) (drop (i + 1) all))) (sym is)
    ∙ ap (λ (xs : List Line). option_or (line_fault all (reverse (take i all)) line) (least_fault all xs (drop (i + 1) all))) (sym (reverse_more all i line lt is))

pub least_end : (all earlier : List Line) (i : ℕ) → length all ≤ i → least_fault all earlier (drop i all) ≡ None
least_end all earlier i le = ap (least_fault all earlier) (drop_all i all le)

pub tree_rooted : (lines : List Line) → names_dir lines [] ≡ true → tree_fault lines ≡ least_fault lines [] lines
tree_rooted lines e = cond-true (names_dir lines []) (least_fault lines [] lines) (Some NoRoot) e

pub tree_rootless : (lines : List Line) → names_dir lines [] ≡ false → Some NoRoot ≡ tree_fault lines
tree_rootless lines e = sym (cond-false (names_dir lines []) (least_fault lines [] lines) (Some NoRoot) e)

pub rooted_is : (lines : List Line) (dirs : List ℕ → Bool) → are_named lines ≡ true → ((text : List ℕ) → dirs text ≡ list_any (has_dir_text text) lines) → dirs (47 ∷ []) ≡ names_dir lines []
rooted_is lines dirs named d = d (47 ∷ []) ∙ dirs_same [] lines refl named
