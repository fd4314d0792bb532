-- Ranges hold exactly where the number that they speak of is in them, as they stood before they were cut.
use Rattle.std.proofs.Common.{◌≡◌, ℕ, ◌≤◌, ◌^◌, Bool, true, false, refl, ap, ◌∙◌, arith}
use Rattle.std.specs.Prelude.{ℤ, pos, negsuc, int_le, int_lt, ◌&&◌, ◌||◌, not, nat_lt, if◌then◌else◌}
use Rattle.std.proofs.lemmas.Bool.Decides.{nat_tests}
use Rattle.std.proofs.lemmas.Int.{ints}
use Rattle.std.proofs.lemmas.Bool.{and_parts}
use Rattle.gufi_base.specs.declared.record.Meta.{Meta}
use Rattle.gufi_base.specs.declared.record.Rec.{Rec}
use Rattle.gufi_base.specs.declared.hint.Hint.{Hint}
use Rattle.gufi_base.specs.declared.hint.Hint.TheVariants.{SizeIn, MtimeIn, UidIn, GidIn}
use Rattle.gufi_base.specs.Kinds.{is_file}
use Rattle.gufi_base.specs.Rows.{fits_i64, fits_types}
use Rattle.gufi_formula.specs.Hints.{is_in, certain, chance_at, is_size, fits_sums}
use Rattle.gufi_formula.specs.Ranges.{nearest_natural, has_naturals, naturals_in, sizes_in, uids_in, gids_in, times_in, nearest_time, least_time, greatest_time}

natural_cut : (most n : ℕ) (first last : ℤ) → n ≤ most
    → (if has_naturals most first last then is_in (nearest_natural most first) (nearest_natural most last) n else is_in 1 0 n) ≡ int_le first (pos n) && int_le (pos n) last
natural_cut most n (pos a) (pos b) h = grind (arith, nat_tests)
natural_cut most n (pos a) (negsuc b) h = grind (arith, nat_tests)
natural_cut most n (negsuc a) (pos b) h = grind (arith, nat_tests)
natural_cut most n (negsuc a) (negsuc b) h = grind (arith, nat_tests)

-- the same of times, between any bounds
time_cut : (least most m first last : ℤ) → int_le least m ≡ true → int_le m most ≡ true
    → (if int_le first most && int_le least last
    then int_le (if int_lt first least then least else if int_lt most first then most else first) m && int_le m (if int_lt last least then least else if int_lt most last then most else last)
    else int_le (pos 1) m && int_le m (pos 0)) ≡ int_le first m && int_le m last
time_cut least most m first last l h = grind (arith, ints)

on_both : (meta : Meta) (b p q : Bool) (x y : Hint) → chance_at meta x ≡ certain p → chance_at meta y ≡ certain q
    → chance_at meta (if b then x else y) ≡ certain (if b then p else q)
on_both meta true p q x y k l = k
on_both meta false p q x y k l = l

-- a range of naturals that a hint tells of a record
naturals_exact : (meta : Meta) (range : ℕ → ℕ → Hint) (most n : ℕ) (first last : ℤ) → ((a b : ℕ) → chance_at meta (range a b) ≡ certain (is_in a b n)) → n ≤ most
    → chance_at meta (naturals_in range most first last) ≡ certain (int_le first (pos n) && int_le (pos n) last)
naturals_exact meta range most n first last at fits =
    on_both meta (has_naturals most first last) (is_in (nearest_natural most first) (nearest_natural most last) n) (is_in 1 0 n) (range (nearest_natural most first) (nearest_natural most last)) (range 1 0)
    (at (nearest_natural most first) (nearest_natural most last)) (at 1 0)
    ∙ ap certain (natural_cut most n first last fits)

pub sizes_exact : (meta : Meta) (first last : ℤ) → nat_lt meta.size (2 ^ 64) ≡ true
    → chance_at meta (sizes_in first last) ≡ certain (int_le first (pos meta.size) && int_le (pos meta.size) last)
sizes_exact meta first last fits = naturals_exact meta SizeIn 18446744073709551615 meta.size first last (λ a b. refl) (grind (arith, nat_tests))

pub uids_exact : (meta : Meta) (first last : ℤ) → nat_lt meta.uid (2 ^ 32) ≡ true
    → chance_at meta (uids_in first last) ≡ certain (int_le first (pos meta.uid) && int_le (pos meta.uid) last)
uids_exact meta first last fits = naturals_exact meta UidIn 4294967295 meta.uid first last (λ a b. refl) (grind (arith, nat_tests))

pub gids_exact : (meta : Meta) (first last : ℤ) → nat_lt meta.gid (2 ^ 32) ≡ true
    → chance_at meta (gids_in first last) ≡ certain (int_le first (pos meta.gid) && int_le (pos meta.gid) last)
gids_exact meta first last fits = naturals_exact meta GidIn 4294967295 meta.gid first last (λ a b. refl) (grind (arith, nat_tests))

pub not_above : (z : ℤ) → int_lt z (pos (2 ^ 63)) ≡ true → int_le z greatest_time ≡ true
not_above z h = grind (arith, ints)

pub times_exact : (meta : Meta) (first last : ℤ) → fits_i64 meta.mtime ≡ true
    → chance_at meta (times_in first last) ≡ certain (int_le first meta.mtime && int_le meta.mtime last)
times_exact meta first last fits =
    let f = and_parts (int_le least_time meta.mtime) (int_lt meta.mtime (pos (2 ^ 63))) fits in
    on_both meta (int_le first greatest_time && int_le least_time last) (int_le (nearest_time first) meta.mtime && int_le meta.mtime (nearest_time last)) (int_le (pos 1) meta.mtime && int_le meta.mtime (pos 0))
    (MtimeIn (nearest_time first) (nearest_time last)) (MtimeIn (pos 1) (pos 0)) refl refl
    ∙ ap certain (time_cut least_time greatest_time meta.mtime first last f.0 (not_above meta.mtime f.1))

chosen_size : (b : Bool) (x y : Hint) → is_size x ≡ true → is_size y ≡ true → is_size (if b then x else y) ≡ true
chosen_size true x y h k = h
chosen_size false x y h k = k

pub sizes_speak : (first last : ℤ) → is_size (sizes_in first last) ≡ true
sizes_speak first last =
    chosen_size (has_naturals 18446744073709551615 first last) (SizeIn (nearest_natural 18446744073709551615 first) (nearest_natural 18446744073709551615 last)) (SizeIn 1 0) refl refl

-- the numbers that a hint may speak of are in range: a size only where it speaks of sizes
pub record InRange (meta : Meta) (hint : Hint) : Type 0 where
  pub size : is_size hint ≡ true → nat_lt meta.size (2 ^ 64) ≡ true
  pub uid : nat_lt meta.uid (2 ^ 32) ≡ true
  pub gid : nat_lt meta.gid (2 ^ 32) ≡ true
  pub mtime : fits_i64 meta.mtime ≡ true

pub in_range : (rec : Rec) (hint : Hint) → fits_types rec ≡ true → InRange rec.meta hint
in_range rec hint fits =
    let ctime = and_parts _ _ (and_parts _ _ (and_parts _ _ (and_parts _ _ fits).0).0).0 in
    let mtime = and_parts _ _ ctime.0 in
    let blocks = and_parts _ _ (and_parts _ _ mtime.0).0 in
    let size = and_parts _ _ (and_parts _ _ blocks.0).0 in
    let gid = and_parts _ _ size.0 in
    let uid = and_parts _ _ gid.0 in
    record { size = λ _. size.1; uid = uid.1; gid = gid.1; mtime = mtime.1 }

files_size : (file fits : Bool) → (not file || fits) ≡ true → file ≡ true → fits ≡ true
files_size true fits h e = h
files_size false fits h e = cc

-- of what is no file a hint may speak but of no size
pub in_sums : (meta : Meta) (hint : Hint) → fits_sums meta ≡ true → (is_size hint ≡ true → is_file meta.kind ≡ true) → InRange meta hint
in_sums meta hint fits file =
    let size = and_parts (not (is_file meta.kind) || nat_lt meta.size (2 ^ 64)) (fits_i64 meta.mtime && (nat_lt meta.uid (2 ^ 32) && nat_lt meta.gid (2 ^ 32))) fits in
    let mtime = and_parts (fits_i64 meta.mtime) (nat_lt meta.uid (2 ^ 32) && nat_lt meta.gid (2 ^ 32)) size.1 in
    let ids = and_parts (nat_lt meta.uid (2 ^ 32)) (nat_lt meta.gid (2 ^ 32)) mtime.1 in
    record { size = λ s. files_size (is_file meta.kind) (nat_lt meta.size (2 ^ 64)) size.0 (file s); uid = ids.0; gid = ids.1; mtime = mtime.0 }
