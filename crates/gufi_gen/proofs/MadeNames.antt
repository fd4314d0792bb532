-- The paths of generated rows: names that differ, short, without delimiters.
use Rattle.std.proofs.Common.{◌≡◌, ℕ, zero, suc, ◌*◌, ◌^◌, ◌<◌, ◌≤◌, Bool, true, false, ◌&&◌, List, [], ◌∷◌, ◌++◌, length, get_or, refl, sym, ap, ◌∙◌, arith, length-append}
use Rattle.std.specs.Prelude.{◌/◌, ◌==◌, decimal, nat_le, nat_lt}
use Rattle.std.specs.List.{list_all}
use Rattle.std.specs.Str.Parse.{AllDigits, digits_value}
use Rattle.std.proofs.lemmas.Bool.{and_parts, and_from, or_from, le-leb, leb-true, le-ltb, lt-ltb, ne_eqb, not_from_false, true≢false}
use Rattle.std.proofs.lemmas.Fmt.{decimal_is_IsNumeral, length-decimal-le}
use Rattle.std.proofs.lemmas.List.Folds.{list_all-append}
use Rattle.std.proofs.lemmas.Str.Parse.{digit_from_value}
use Rattle.std.proofs.Math.Nat.{pow-succ'}
use Rattle.gufi_base.specs.Limits.{max_path, max_components}
use Rattle.gufi_base.specs.Names.{is_name_byte, is_name}
use Rattle.gufi_base.specs.Rows.{are_bytes}
use Rattle.gufi_base.specs.Paths.{Components, path_text, is_too_long}
use Rattle.gufi_base.specs.Basics.{last_of}
use Rattle.gufi_base.proofs.Parts.{last_of_push}
use Rattle.gufi_gen.specs.Generated.{path_within, directory_path, made_root}
use Rattle.gufi_gen.proofs.Lines.{fuel_same}
use Rattle.gufi_line.proofs.FieldsBack.{is_plain}
use Rattle.gufi_line.proofs.NumbersBack.{decimal_plain}
use Rattle.gufi_line.proofs.PathsRead.{size, slashed_size}

-- ---- names

-- what holds of each digit
digits_all : (p : ℕ → Bool) → ((c : ℕ) → 48 ≤ c → c ≤ 57 → p c ≡ true) → (ds : List ℕ) → AllDigits 10 ds → list_all p ds ≡ true
digits_all p f [] h = refl
digits_all p f (c ∷ cs) h = let r = digit_from_value c h.0 in and_from _ _ (f c r.0 r.1) (digits_all p f cs h.1)

decimal_all : (p : ℕ → Bool) → ((c : ℕ) → 48 ≤ c → c ≤ 57 → p c ≡ true) → (n : ℕ) → n < 2 ^ 64 → list_all p (decimal n) ≡ true
decimal_all p f n small = digits_all p f (decimal n) (decimal_is_IsNumeral n small).0.1

digit_in_name : (c : ℕ) → 48 ≤ c → c ≤ 57 → is_name_byte c ≡ true
digit_in_name c low high =
    and_from _ _ (and_from _ _ (not_from_false _ (ne_eqb c 0 (λ e. omega arith))) (not_from_false _ (ne_eqb c 10 (λ e. omega arith)))) (not_from_false _ (ne_eqb c 47 (λ e. omega arith)))

digit_is_byte : (c : ℕ) → 48 ≤ c → c ≤ 57 → nat_lt c 256 ≡ true
digit_is_byte c low high = lt-ltb c 256 (omega arith)

pub short_digits : (n : ℕ) → n < 2 ^ 64 → length (decimal n) ≤ 20
short_digits n small = length-decimal-le 20 n (omega arith) (omega arith) small

-- `d` or `f` and a number
abbrev pub is_made_name : List ℕ → Bool
is_made_name name = is_name name && nat_le (length name) 21 && are_bytes name && list_all is_plain name

pub directory_name : (n : ℕ) → n < 2 ^ 64 → is_made_name (100 ∷ decimal n) ≡ true
directory_name n small =
    let short = short_digits n small in
    and_from _ _ (and_from _ _ (and_from _ _
    (and_from _ _ (and_from _ _ (and_from _ _ refl (le-leb _ _ (omega arith))) (and_from _ _ refl (decimal_all is_name_byte digit_in_name n small))) refl)
    (le-leb _ _ (omega arith))) (and_from _ _ refl (decimal_all (λ b. nat_lt b 256) digit_is_byte n small))) (and_from _ _ refl (decimal_plain n small))

pub entry_name : (n : ℕ) → n < 2 ^ 64 → is_made_name (102 ∷ decimal n) ≡ true
entry_name n small =
    let short = short_digits n small in
    and_from _ _ (and_from _ _ (and_from _ _
    (and_from _ _ (and_from _ _ (and_from _ _ refl (le-leb _ _ (omega arith))) (and_from _ _ refl (decimal_all is_name_byte digit_in_name n small))) refl)
    (le-leb _ _ (omega arith))) (and_from _ _ refl (decimal_all (λ b. nat_lt b 256) digit_is_byte n small))) (and_from _ _ refl (decimal_plain n small))

-- ---- paths

path_named : (f i : ℕ) → i < 2 ^ 64 → list_all is_made_name (path_within f i) ≡ true
path_named zero i small = refl
path_named (suc f) zero small = refl
path_named (suc f) (suc i) small =
    list_all-append is_made_name (path_within f (i / 8)) ((100 ∷ decimal (suc i)) ∷ [])
    ∙ and_from _ _ (path_named f (i / 8) (omega arith)) (and_from _ _ (directory_name (suc i) small) refl)

pub directory_named : (i : ℕ) → i < 2 ^ 64 → list_all is_made_name (directory_path i) ≡ true
directory_named i small = path_named i i small

pub path_depth : (k f i : ℕ) → i < 8 ^ k → length (path_within f i) ≤ k
path_depth k zero i h = omega arith
path_depth k (suc f) zero h = omega arith
path_depth zero (suc f) (suc i) h = absurd (omega arith)
path_depth (suc k) (suc f) (suc i) h =
    let more = pow-succ' 8 k in
    let rest = path_depth k f (i / 8) (omega arith) in
    let whole = length-append (path_within f (i / 8)) ((100 ∷ decimal (suc i)) ∷ []) in
    omega arith

short_names : (path : Components) → list_all is_made_name path ≡ true → size path ≤ 22 * length path
short_names [] h = omega arith
short_names (name ∷ path) h =
    let both = and_parts (is_made_name name) (list_all is_made_name path) h in
    let outer = and_parts (is_name name && nat_le (length name) 21 && are_bytes name) (list_all is_plain name) both.0 in
    let inner = and_parts (is_name name && nat_le (length name) 21) (are_bytes name) outer.0 in
    let short = leb-true _ _ (and_parts (is_name name) (nat_le (length name) 21) inner.0).1 in
    let rest = short_names path both.1 in
    omega arith

-- a path of few names isn't too long
pub not_too_long : (path : Components) → list_all is_made_name path ≡ true → length path ≤ 7 → is_too_long (made_root ++ path) ≡ false
not_too_long path named few =
    let short = short_names path named in
    let text : length (path_text (made_root ++ path)) ≡ size (made_root ++ path) = slashed_size (made_root ++ path) in
    or_from _ _ (le-ltb max_components (length (made_root ++ path)) (omega arith)) (le-ltb max_path (length (path_text (made_root ++ path))) (omega arith))

-- ---- each directory has a path of its own

pub made_path : (i : ℕ) → directory_path (suc i) ≡ directory_path (i / 8) ++ (100 ∷ decimal (suc i)) ∷ []
made_path i = ap (λ (p : Components). p ++ (100 ∷ decimal (suc i)) ∷ []) (fuel_same i (i / 8) (i / 8) (omega arith) (omega arith))

last_name : (p q : Components) (a b : List ℕ) → p ++ a ∷ [] ≡ q ++ b ∷ [] → a ≡ b
last_name p q a b e = sym (last_of_push [] p a) ∙ ap (last_of []) e ∙ last_of_push [] q b

some_names : (p : Components) (a : List ℕ) → [] ≡ p ++ a ∷ [] → ⊥
some_names p a e = let n = ap length e in let m = length-append p (a ∷ []) in omega arith

same_number : (n m : ℕ) → n < 2 ^ 64 → m < 2 ^ 64 → decimal n ≡ decimal m → n ≡ m
same_number n m a b e = sym (decimal_is_IsNumeral n a).1 ∙ ap (digits_value 10) e ∙ (decimal_is_IsNumeral m b).1

pub same_directory : (i j : ℕ) → i < 2 ^ 64 → j < 2 ^ 64 → directory_path i ≡ directory_path j → i ≡ j
same_directory zero zero a b e = refl
same_directory zero (suc j) a b e = absurd (some_names (directory_path (j / 8)) (100 ∷ decimal (suc j)) (e ∙ made_path j))
same_directory (suc i) zero a b e = absurd (some_names (directory_path (i / 8)) (100 ∷ decimal (suc i)) (sym e ∙ made_path i))
same_directory (suc i) (suc j) a b e =
    let names : 100 ∷ decimal (suc i) ≡ 100 ∷ decimal (suc j) = last_name (directory_path (i / 8)) (directory_path (j / 8)) _ _ (sym (made_path i) ∙ e ∙ made_path j) in
    let digits : decimal (suc i) ≡ decimal (suc j) = cc in
    same_number (suc i) (suc j) a b digits

-- and none has the path of an entry
pub not_an_entry : (k : ℕ) (p : Components) (rest : List ℕ) → p ++ (102 ∷ rest) ∷ [] ≡ directory_path k → ⊥
not_an_entry zero p rest e = some_names p (102 ∷ rest) (sym e)
not_an_entry (suc k) p rest e =
    let names : 102 ∷ rest ≡ 100 ∷ decimal (suc k) = last_name p (directory_path (k / 8)) _ _ (e ∙ made_path k) in
    true≢false (ap (λ (l : List ℕ). get_or l 0 0 == 102) names)
