-- The entries of an access control list, step by step.
use Rattle.std.proofs.Common.{◌≡◌, ◌≢◌, ℕ, ◌*◌, ◌-◌, ◌<◌, ◌≤◌, true, false, ◌&&◌, ◌||◌, Bool, List, [], ◌∷◌, Option, Some, length, get_or, take, drop, refl, arith}
use Rattle.std.proofs.lemmas.Bool.{eq-eqb, ne_eqb}
use Rattle.std.proofs.lemmas.List.{take_rest}
use Rattle.std.proofs.lemmas.List.Sums.{count_by-le-length}
use Rattle.std.specs.Int.{from_le_bytes, w32}
use Rattle.gufi_access.specs.declared.acl.Entry.{Entry}
use Rattle.gufi_access.specs.declared.class.Principal.{Principal}
use Rattle.gufi_access.specs.Acl.{entries, ascends_after, is_after_last, count_of}
use Rattle.gufi_access.specs.Access.{Rights, class_for, class_bits, has_bits, is_granted}
use Rattle.gufi_access.specs.Seen.{mode_class}

-- fewer than six bytes hold no entry
pub entries_short : (xs : List ℕ) → length xs < 6 → entries xs ≡ []
unfolding entries
entries_short [] h = refl
entries_short (a ∷ []) h = refl
entries_short (a ∷ b ∷ []) h = refl
entries_short (a ∷ b ∷ c ∷ []) h = refl
entries_short (a ∷ b ∷ c ∷ d ∷ []) h = refl
entries_short (a ∷ b ∷ c ∷ d ∷ e ∷ []) h = refl
entries_short (a ∷ b ∷ c ∷ d ∷ e ∷ f ∷ xs) h = absurd (omega arith)

pub entries_none : (xs : List ℕ) → length xs ≡ 0 → entries xs ≡ []
entries_none xs none = entries_short xs (omega arith)

-- six bytes or more begin with an entry
pub entries_long : (xs : List ℕ) → 6 ≤ length xs
    → entries xs
    ≡ record { tag = get_or xs 0 0; bits = get_or xs 1 0; id = from_le_bytes w32 (get_or xs 2 0 ∷ get_or xs 3 0 ∷ get_or xs 4 0 ∷ get_or xs 5 0 ∷ []) }
    ∷ entries (take (length xs - 6) (drop 6 xs))
unfolding entries
entries_long [] h = absurd (omega arith)
entries_long (a ∷ []) h = absurd (omega arith)
entries_long (a ∷ b ∷ []) h = absurd (omega arith)
entries_long (a ∷ b ∷ c ∷ []) h = absurd (omega arith)
entries_long (a ∷ b ∷ c ∷ d ∷ []) h = absurd (omega arith)
entries_long (a ∷ b ∷ c ∷ d ∷ e ∷ []) h = absurd (omega arith)
entries_long (a ∷ b ∷ c ∷ d ∷ e ∷ f ∷ xs) h = rw (take_rest (a ∷ b ∷ c ∷ d ∷ e ∷ f ∷ xs) 6) refl

-- an entry takes six bytes
pub length-entries : (xs : List ℕ) → 6 * length (entries xs) ≤ length xs
unfolding entries
length-entries [] = omega arith
length-entries (a ∷ []) = omega arith
length-entries (a ∷ b ∷ []) = omega arith
length-entries (a ∷ b ∷ c ∷ []) = omega arith
length-entries (a ∷ b ∷ c ∷ d ∷ []) = omega arith
length-entries (a ∷ b ∷ c ∷ d ∷ e ∷ []) = omega arith
length-entries (a ∷ b ∷ c ∷ d ∷ e ∷ f ∷ xs) = let later = length-entries xs in omega arith

pub count_of-few : (tag : ℕ) (es : List Entry) → count_of tag es ≤ length es
unfolding count_of
count_of-few tag es = count_by-le-length _ es

pub ascends_step : (last : Option Entry) (es rest : List Entry) (e : Entry) → es ≡ e ∷ rest
    → ascends_after last es ≡ (is_after_last last e && ascends_after (Some e) rest)
unfolding ascends_after
ascends_step last es rest e same = rw same refl

pub ascends_end : (last : Option Entry) (es : List Entry) → es ≡ [] → ascends_after last es ≡ true
unfolding ascends_after
ascends_end last es same = rw same refl

neither : (m : Bool) → ((m || false) || false) ≡ m
neither true = refl
neither false = refl

-- without a list the groups alone tell the class
pub class_for_mode : (who : Principal) (of : Rights) → length of.acl ≡ 0 → class_for who of ≡ mode_class who of
unfolding class_for
class_for_mode who of none = rw (entries_none of.acl none, neither) refl

pub granted_mode : (who : Principal) (of : Rights) (want : ℕ) → who.uid ≢ 0 → length of.acl ≡ 0
    → is_granted who of want ≡ has_bits (class_bits (mode_class who of) of.mode) want
unfolding is_granted
granted_mode who of want other none = rw (ne_eqb who.uid 0 other, eq-eqb (length of.acl) 0 none, class_for_mode who of none) refl
