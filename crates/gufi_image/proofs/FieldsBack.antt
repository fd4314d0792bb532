-- The fields of an image, read as they are written and in no other spelling.
use Rattle.std.proofs.Common.{◌≡◌, ℕ, zero, suc, ◌<◌, ◌≤◌, ◌^◌, Bool, true, false, not, ltb, List, [], ◌∷◌, ◌++◌, length, take, drop, get_or, Result, Ok, refl, sym, ap, subst, ◌∙◌, arith}
use Rattle.std.specs.Int.{Width, w8, w16, w32, w64, byte_len, from_le_bytes}
use Rattle.std.proofs.lemmas.Bool.{and_parts, ltb-true, ltb-false}
use Rattle.std.proofs.lemmas.List.{take_at, drop_at, take-append-drop, length-append, length-take-le}
use Rattle.std.proofs.lemmas.List.Folds.{list_all-append}
use Rattle.std.proofs.lemmas.Nat.{le_bytes_2, le_bytes_4, le_bytes_8, from_le_bytes-to_le_bytes_2, from_le_bytes-to_le_bytes_4, from_le_bytes-to_le_bytes_8}
use Rattle.gufi_base.specs.Basics.{◌>>=◌, ◌>>◌, refuse}
use Rattle.gufi_base.specs.Rows.{are_bytes}
use Rattle.gufi_image.specs.declared.fault.Flaw.{Flaw}
use Rattle.gufi_image.specs.Bytes.{u8_bytes, u16_bytes, u32_bytes, u64_bytes}
use Rattle.gufi_image.specs.Fields.{bytes_at, number_at}
use Rattle.gufi_image.proofs.Repeats.{bind_ok}

-- the parts of what went on, and how it goes on
pub refused_ok : {B : Type 0} (b : Bool) (e : Flaw) (next : Result B Flaw) (y : B) → (refuse b e >> next) ≡ Ok y → (b ≡ false) × (next ≡ Ok y)
refused_ok true e next y h = absurd cc
refused_ok false e next y h = (refl, h)

pub then_ok : {A B : Type 0} (r : Result A Flaw) (f : A → Result B Flaw) (x : A) → r ≡ Ok x → (r >>= f) ≡ f x
then_ok r f x h = ap (λ v. v >>= f) h

pub goes_on : {B : Type 0} (b : Bool) (e : Flaw) (next : Result B Flaw) → b ≡ false → (refuse b e >> next) ≡ next
goes_on b e next h = ap (λ v. refuse v e >> next) h

pub not_false : (b : Bool) → not b ≡ false → b ≡ true
not_false true e = refl
not_false false e = absurd cc

-- bytes of values below 256
pub bytes_rest : (a b : List ℕ) → are_bytes (a ++ b) ≡ true → (are_bytes a ≡ true) × (are_bytes b ≡ true)
bytes_rest a b h = and_parts (are_bytes a) (are_bytes b) (sym (list_all-append (λ x. ltb x 256) a b) ∙ h)

byte_below : (bytes : List ℕ) → are_bytes bytes ≡ true → (i : ℕ) → get_or bytes i 0 < 256
byte_below [] h i = omega arith
byte_below (b ∷ bytes) h zero = ltb-true b 256 (and_parts (ltb b 256) (are_bytes bytes) h).0
byte_below (b ∷ bytes) h (suc i) = byte_below bytes (and_parts (ltb b 256) (are_bytes bytes) h).1 i

pub ok_same : {A : Type 0} (x y : A) → (let r : Result A Flaw = Ok x in r) ≡ Ok y → x ≡ y
ok_same x y e = cc

-- What is read of bytes: a value that holds, whose text they begin with.
pub record Reads {X : Type 0} (P : X → Type 0) (text : X → List ℕ) (bytes : List ℕ) (found : X × List ℕ) : Type 0 where
  pub is : bytes ≡ text found.0 ++ found.1
  pub holds : P found.0
  pub rest : are_bytes found.1 ≡ true

pub reads_from : {X : Type 0} (P : X → Type 0) (text : X → List ℕ) (bytes : List ℕ) (found : X × List ℕ) → are_bytes bytes ≡ true → bytes ≡ text found.0 ++ found.1 → P found.0 → Reads P text bytes found
reads_from P text bytes found h is holds = record { is = is; holds = holds; rest = (bytes_rest (text found.0) found.1 (ap are_bytes (sym is) ∙ h)).1 }

-- A reader of all these texts, and of no others.
pub record IsReader {X : Type 0} (P : X → Type 0) (text : X → List ℕ) (read : List ℕ → Result (X × List ℕ) Flaw) : Type 0 where
  pub back : (x : X) (rest : List ℕ) → P x → read (text x ++ rest) ≡ Ok (x, rest)
  pub once : (bytes : List ℕ) (found : X × List ℕ) → are_bytes bytes ≡ true → read bytes ≡ Ok found → Reads P text bytes found

-- what was read first, and how reading went on
pub step_by : {X Y : Type 0} {P : X → Type 0} {text : X → List ℕ} {read : List ℕ → Result (X × List ℕ) Flaw} {G : Type 0}
    → ((bytes : List ℕ) (found : X × List ℕ) → are_bytes bytes ≡ true → read bytes ≡ Ok found → Reads P text bytes found)
    → (bytes : List ℕ) (f : X × List ℕ → Result Y Flaw) (y : Y) → are_bytes bytes ≡ true → (read bytes >>= f) ≡ Ok y
    → ((x : X) (rest : List ℕ) → bytes ≡ text x ++ rest → P x → are_bytes rest ≡ true → f (x, rest) ≡ Ok y → G) → G
step_by {read = read} once bytes f y are e then =
    let found = bind_ok (read bytes) f y e in
    let own = once bytes found.0 are found.1 in
    then found.0.0 found.0.1 own.is own.holds own.rest found.2

pub step : {X Y : Type 0} {P : X → Type 0} {text : X → List ℕ} {read : List ℕ → Result (X × List ℕ) Flaw} {G : Type 0} → IsReader P text read
    → (bytes : List ℕ) (f : X × List ℕ → Result Y Flaw) (y : Y) → are_bytes bytes ≡ true → (read bytes >>= f) ≡ Ok y
    → ((x : X) (rest : List ℕ) → bytes ≡ text x ++ rest → P x → are_bytes rest ≡ true → f (x, rest) ≡ Ok y → G) → G
step r bytes f y are e then = step_by r.once bytes f y are e then

-- so many bytes
pub bytes_reader : (count : ℕ) → IsReader (λ (field : List ℕ). length field ≡ count) (λ (field : List ℕ). field) (bytes_at count)
bytes_reader count = record { back = back; once = λ bytes found are e. by bytes found are (ltb (length bytes) count) refl e } where
  back : (field rest : List ℕ) → length field ≡ count → bytes_at count (field ++ rest) ≡ Ok (field, rest)
  back field rest h =
      let long : ltb (length (field ++ rest)) count ≡ false = grind (arith, length-append field rest) in
      rw (long, take_at field rest count h, drop_at field rest count h) refl

  by : (bytes : List ℕ) (found : List ℕ × List ℕ) → are_bytes bytes ≡ true → (b : Bool) → ltb (length bytes) count ≡ b → bytes_at count bytes ≡ Ok found → Reads (λ (field : List ℕ). length field ≡ count) (λ (field : List ℕ). field) bytes found
  by bytes found are true short e = let clash = rw short at e in absurd cc
  by bytes found are false short e =
      let taken = rw short at e in
      let same : (take count bytes, drop count bytes) ≡ found = ok_same _ _ taken in
      let long : count ≤ length bytes = ltb-false (length bytes) count short in
      reads_from _ _ bytes found are
      (sym (take-append-drop count bytes) ∙ ap (λ (x : List ℕ × List ℕ). x.0 ++ x.1) same)
      (ap (λ (x : List ℕ × List ℕ). length x.0) (sym same) ∙ length-take-le count bytes long)

-- numbers of a width, whose texts have its length
module _ (w : Width) (text : ℕ → List ℕ) (limit : ℕ) (written : (n : ℕ) → n < limit → (length (text n) ≡ byte_len w) × (from_le_bytes w (text n) ≡ n))
    (spelled : (field : List ℕ) → length field ≡ byte_len w → ((i : ℕ) → get_or field i 0 < 256) → (text (from_le_bytes w field) ≡ field) × (from_le_bytes w field < limit)) where
  abbrev numbered : List ℕ × List ℕ → Result (ℕ × List ℕ) Flaw
  numbered field = Ok (from_le_bytes w field.0, field.1)

  number_back : (n : ℕ) (rest : List ℕ) → n < limit → number_at w (text n ++ rest) ≡ Ok (n, rest)
  number_back n rest h =
      let own = written n h in
      then_ok (bytes_at (byte_len w) (text n ++ rest)) numbered (text n, rest) ((bytes_reader (byte_len w)).back (text n) rest own.0) ∙ ap (λ (m : ℕ). Ok (m, rest)) own.1

  number_once : (bytes : List ℕ) (found : ℕ × List ℕ) → are_bytes bytes ≡ true → number_at w bytes ≡ Ok found → Reads (λ n. n < limit) text bytes found
  number_once bytes found are e =
      let field = bind_ok (bytes_at (byte_len w) bytes) numbered found e in
      let read = (bytes_reader (byte_len w)).once bytes field.0 are field.1 in
      let parts = bytes_rest field.0.0 field.0.1 (ap are_bytes (sym read.is) ∙ are) in
      let own = spelled field.0.0 read.holds (byte_below field.0.0 parts.0) in
      let same : (from_le_bytes w field.0.0, field.0.1) ≡ found = ok_same _ _ field.2 in
      reads_from (λ n. n < limit) text bytes found are
      (read.is ∙ ap (λ (t : List ℕ). t ++ field.0.1) (sym own.0) ∙ ap (λ (x : ℕ × List ℕ). text x.0 ++ x.1) same)
      (subst (λ (x : ℕ × List ℕ). x.0 < limit) same own.1)

  number_reader : IsReader (λ n. n < limit) text (number_at w)
  number_reader = record { back = number_back; once = number_once }

pub u8_reader : IsReader (λ n. n < 2 ^ 8) u8_bytes (number_at w8)
u8_reader = number_reader w8 u8_bytes (2 ^ 8) (λ n h. (refl, refl)) (λ field len below. one field len below) where
  one : (field : List ℕ) → length field ≡ 1 → ((i : ℕ) → get_or field i 0 < 256) → (get_or field 0 0 ∷ [] ≡ field) × (get_or field 0 0 < 256)
  one [] len below = absurd (omega (arith, len))
  one (b ∷ []) len below = (refl, below 0)
  one (b ∷ c ∷ field) len below = absurd (omega (arith, len))

pub u16_reader : IsReader (λ n. n < 2 ^ 16) u16_bytes (number_at w16)
unfolding u16_bytes
u16_reader = number_reader w16 u16_bytes (2 ^ 16) (λ n h. (refl, from_le_bytes-to_le_bytes_2 n h)) (λ field len below. (le_bytes_2 field (from_le_bytes w16 field) len below refl, omega (arith, below 0, below 1)))

pub u32_reader : IsReader (λ n. n < 2 ^ 32) u32_bytes (number_at w32)
unfolding u32_bytes
u32_reader = number_reader w32 u32_bytes (2 ^ 32) (λ n h. (refl, from_le_bytes-to_le_bytes_4 n h)) (λ field len below. (le_bytes_4 field (from_le_bytes w32 field) len below refl, omega (arith, below 0, below 1, below 2, below 3)))

pub u64_reader : IsReader (λ n. n < 2 ^ 64) u64_bytes (number_at w64)
unfolding u64_bytes
u64_reader = number_reader w64 u64_bytes (2 ^ 64) (λ n h. (refl, from_le_bytes-to_le_bytes_8 n h))
    (λ field len below. (le_bytes_8 field (from_le_bytes w64 field) len below refl, omega (arith, below 0, below 1, below 2, below 3, below 4, below 5, below 6, below 7)))
