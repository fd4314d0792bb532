-- The head and the flags of an image, read as they are written and in no other spelling.
use Rattle.std.proofs.Common.{◌≡◌, ℕ, ◌<◌, ◌≤◌, ◌^◌, Bool, true, false, not, cond, eqb, ltb, List, [], ◌∷◌, ◌++◌, length, map, take, drop, Some, None, Ok, refl, sym, ap, subst, ◌∙◌, arith, append_assoc}
use Rattle.std.specs.List.{starts_with}
use Rattle.std.specs.Bool.{nat_eq}
use Rattle.std.proofs.lemmas.Bool.{ltb-false, eqb-true, ne_eqb}
use Rattle.std.proofs.lemmas.List.{take-append-drop}
use Rattle.std.proofs.lemmas.Slice.Eq.{bytes_eq-Decides}
use Rattle.gufi_base.specs.Limits.{max_dirs, max_entries}
use Rattle.gufi_base.specs.Rows.{are_bytes}
use Rattle.gufi_image.specs.declared.width.Width.{Width}
use Rattle.gufi_image.specs.declared.fault.ImageKind.TheVariants as kinds
use Rattle.gufi_image.specs.declared.directory.Flag.{Flag}
use Rattle.gufi_image.specs.declared.width.Width.TheVariants.{Narrow, Named, Guarded}
use Rattle.gufi_image.specs.Widths.{version_of, width_in}
use Rattle.gufi_image.specs.Bytes.{magic, u16_bytes, u32_bytes, u64_bytes}
use Rattle.gufi_image.specs.Reading.{Counts, counts_at, version_at, head_at, differs, wrong_flag}
use Rattle.gufi_image.proofs.FieldsBack.{refused_ok, goes_on, ok_same, not_false, bytes_rest, step, step_by, Reads, reads_from, u16_reader, u32_reader, u64_reader}
use Rattle.gufi_image.proofs.EntriesBack.{some_ok}

pub record AreCounts (counts : Counts) : Type 0 where
  pub limit : counts.limit < 2 ^ 64
  pub some : 0 < counts.dirs
  pub few : counts.dirs ≤ max_dirs
  pub entries : counts.entries ≤ max_entries

abbrev counts_image : Counts → List ℕ
counts_image counts = u64_bytes counts.limit ++ (u32_bytes counts.dirs ++ u32_bytes counts.entries)

-- the mark and the version, and then the counts
abbrev pub head_of : Counts → List ℕ
head_of counts = magic ++ (u16_bytes (version_of counts.width) ++ counts_image counts)

counts_apart : (counts : Counts) (rest : List ℕ) → counts_image counts ++ rest ≡ u64_bytes counts.limit ++ (u32_bytes counts.dirs ++ (u32_bytes counts.entries ++ rest))
counts_apart counts rest = simp append_assoc

counts_back : (counts : Counts) (rest : List ℕ) → AreCounts counts → (left : ℕ) × (counts_at counts.width (counts_image counts ++ rest) ≡ Ok (record counts { left = left }, rest))
unfolding counts_at
counts_back counts rest h =
    let last = u32_bytes counts.entries ++ rest in
    let few : ltb max_dirs counts.dirs ≡ false = grind (arith, h.few) in
    let some : eqb counts.dirs 0 ≡ false = ne_eqb counts.dirs 0 (λ e. absurd (omega (arith, e, h.some))) in
    let fewer : ltb max_entries counts.entries ≡ false = grind (arith, h.entries) in
    let limit = u64_reader.back counts.limit (u32_bytes counts.dirs ++ last) h.limit in
    let dirs = u32_reader.back counts.dirs last (omega (arith, h.few)) in
    let entries = u32_reader.back counts.entries rest (omega (arith, h.entries)) in
    (length last, rw (counts_apart counts rest, limit, dirs, few, some, entries, fewer) refl)

-- counts that are read where records have a width
record AreCountsOf (width : Width) (found : Counts) : Type 0 where
  pub counts : AreCounts found
  pub wide_is : width ≡ found.width

counts_once : (width : Width) (bytes : List ℕ) (found : Counts × List ℕ) → are_bytes bytes ≡ true → counts_at width bytes ≡ Ok found → Reads (AreCountsOf width) counts_image bytes found
unfolding counts_at
counts_once width bytes found are e =
    step u64_reader bytes _ found are e (λ limit r1 i1 b1 a1 e1.
    step u32_reader r1 _ found a1 e1 (λ dirs r2 i2 b2 a2 e2.
    let few = refused_ok (ltb max_dirs dirs) _ _ found e2 in
    let some = refused_ok (eqb dirs 0) _ _ found few.1 in
    step u32_reader r2 _ found a2 some.1 (λ entries rest i3 b3 a3 e3.
    let fewer = refused_ok (ltb max_entries entries) _ _ found e3 in
    let counts : Counts = record { width = width; limit = limit; dirs = dirs; entries = entries; left = length r2 } in
    let same : (counts, rest) ≡ found = ok_same _ _ fewer.1 in
    let is : bytes ≡ u64_bytes limit ++ (u32_bytes dirs ++ (u32_bytes entries ++ rest)) = i1 ∙ ap (λ (t : List ℕ). u64_bytes limit ++ t) (i2 ∙ ap (λ (t : List ℕ). u32_bytes dirs ++ t) i3) in
    let one : 0 < dirs = above dirs some.0 in
    let holds : AreCounts counts = record { limit = b1; some = one; few = ltb-false max_dirs dirs few.0; entries = ltb-false max_entries entries fewer.0 } in
    reads_from (AreCountsOf width) counts_image bytes found are (is ∙ sym (counts_apart counts rest) ∙ ap (λ (x : Counts × List ℕ). counts_image x.0 ++ x.1) same) (subst (λ (x : Counts × List ℕ). AreCountsOf width x.0) same (record { counts = holds; wide_is = refl }))))) where
      above : (n : ℕ) → eqb n 0 ≡ false → 0 < n
      above n h = grind (arith, h)

-- the version
abbrev version_image : Width → List ℕ
version_image width = u16_bytes (version_of width)

version_back : (width : Width) (rest : List ℕ) → version_at (version_image width ++ rest) ≡ Ok (width, rest)
unfolding version_at
version_back Narrow rest = let version = u16_reader.back 1 rest (omega arith) in rw version refl
version_back Named rest = let version = u16_reader.back 2 rest (omega arith) in rw version refl
version_back Guarded rest = let version = u16_reader.back 3 rest (omega arith) in rw version refl

pub head_back : (counts : Counts) (rest : List ℕ) → AreCounts counts → (left : ℕ) × (head_at (head_of counts ++ rest) ≡ Ok (record counts { left = left }, rest))
unfolding head_at
head_back counts rest h =
    let own = counts_back counts rest h in
    let version = version_back counts.width (counts_image counts ++ rest) in
    let text : (version_image counts.width ++ counts_image counts) ++ rest ≡ version_image counts.width ++ (counts_image counts ++ rest) = append_assoc (version_image counts.width) (counts_image counts) rest in
    (own.0, rw (text, version, own.1) refl)

version_is : (version : ℕ) (width : Width) → width_in version ≡ Some width → version ≡ version_of width
version_is version width h = one (eqb version 1) refl h where
  is : (n : ℕ) (w : Width) → eqb version n ≡ true → version_of w ≡ n → w ≡ width → version ≡ version_of width
  is n w same own e = eqb-true version n same ∙ sym own ∙ ap version_of e

  three : (b : Bool) → eqb version 3 ≡ b → cond b (Some Guarded) None ≡ Some width → version ≡ version_of width
  three true same e = is 3 Guarded same refl cc
  three false other e = absurd cc

  two : (b : Bool) → eqb version 2 ≡ b → cond b (Some Named) (cond (eqb version 3) (Some Guarded) None) ≡ Some width → version ≡ version_of width
  two true same e = is 2 Named same refl cc
  two false other e = three (eqb version 3) refl e

  one : (b : Bool) → eqb version 1 ≡ b → cond b (Some Narrow) (cond (eqb version 2) (Some Named) (cond (eqb version 3) (Some Guarded) None)) ≡ Some width → version ≡ version_of width
  one true same e = is 1 Narrow same refl cc
  one false other e = two (eqb version 2) refl e

version_once : (bytes : List ℕ) (found : Width × List ℕ) → are_bytes bytes ≡ true → version_at bytes ≡ Ok found → Reads (λ (width : Width). Unit {0}) version_image bytes found
unfolding version_at
version_once bytes found are e =
    step u16_reader bytes _ found are e (λ version rest i1 b1 a1 e1.
    let known = some_ok (width_in version) _ _ found e1 in
    let same : (known.0, rest) ≡ found = ok_same _ _ known.2 in
    reads_from (λ (width : Width). Unit {0}) version_image bytes found are (i1 ∙ ap (λ v. u16_bytes v ++ rest) (version_is version known.0 known.1) ∙ ap (λ (x : Width × List ℕ). version_image x.0 ++ x.1) same) tt)

mark_once : (bytes : List ℕ) → starts_with nat_eq bytes magic ≡ true → bytes ≡ magic ++ drop 6 bytes
mark_once bytes h =
    let first : magic ≡ take 6 bytes = (bytes_eq-Decides magic (take 6 bytes)).0 h in
    sym (take-append-drop 6 bytes) ∙ ap (λ (t : List ℕ). t ++ drop 6 bytes) (sym first)

pub head_once : (bytes : List ℕ) (found : Counts × List ℕ) → are_bytes bytes ≡ true → head_at bytes ≡ Ok found → Reads AreCounts head_of bytes found
unfolding head_at
head_once bytes found are e =
    let mark = refused_ok (not (starts_with nat_eq bytes magic)) _ _ found e in
    let split = mark_once bytes (not_false _ mark.0) in
    let after = bytes_rest magic (drop 6 bytes) (ap are_bytes (sym split) ∙ are) in
    step_by version_once (drop 6 bytes) _ found after.1 mark.1 (λ width r1 i1 b1 a1 e1.
    let read = counts_once width r1 found a1 e1 in
    let text = i1 ∙ ap (λ v. version_image v ++ r1) read.holds.wide_is ∙ ap (λ (t : List ℕ). version_image found.0.width ++ t) read.is ∙ sym (append_assoc (version_image found.0.width) (counts_image found.0) found.1) in
    reads_from AreCounts head_of bytes found are (split ∙ ap (λ (t : List ℕ). magic ++ t) text) read.holds.counts)

-- flags by the rule
pub flags_back : (rolls : List Bool) (flags : List Flag) → map (λ (flag : Flag). flag.set) flags ≡ rolls → wrong_flag rolls flags ≡ Ok tt
flags_back [] flags h = refl
flags_back (roll ∷ rolls) [] h = refl
flags_back (roll ∷ rolls) (flag ∷ flags) h =
    let one : flag.set ≡ roll = cc in
    let others : map (λ (f : Flag). f.set) flags ≡ rolls = cc in
    goes_on (differs flag.set roll) (record { left = flag.left; kind = kinds.Roll }) (wrong_flag rolls flags) (ap (λ b. differs b roll) one ∙ alike roll) ∙ flags_back rolls flags others where
      alike : (b : Bool) → differs b b ≡ false
      alike true = refl
      alike false = refl

differs_not : (a b : Bool) → differs a b ≡ false → a ≡ b
differs_not true true h = refl
differs_not true false h = absurd cc
differs_not false true h = absurd cc
differs_not false false h = refl

pub flags_once : (rolls : List Bool) (flags : List Flag) → length rolls ≡ length flags → wrong_flag rolls flags ≡ Ok tt → map (λ (flag : Flag). flag.set) flags ≡ rolls
flags_once [] [] len h = refl
flags_once [] (flag ∷ flags) len h = absurd (omega (arith, len))
flags_once (roll ∷ rolls) [] len h = absurd (omega (arith, len))
flags_once (roll ∷ rolls) (flag ∷ flags) len h =
    let both = refused_ok (differs flag.set roll) (record { left = flag.left; kind = kinds.Roll }) (wrong_flag rolls flags) tt h in
    ap (λ b. b ∷ map (λ (f : Flag). f.set) flags) (differs_not flag.set roll both.0) ∙ ap (λ (bs : List Bool). roll ∷ bs) (flags_once rolls flags (omega (arith, len)) both.1)
