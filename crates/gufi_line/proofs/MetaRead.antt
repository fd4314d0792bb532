-- What is known of the numbers of a line that are read.
use Rattle.std.proofs.Common.{◌≡◌, ℕ, zero, suc, ◌+◌, ◌-◌, ◌^◌, ◌<◌, Bool, true, false, ◌&&◌, cond, List, drop, refl, subst, arith, ℤ, pos, neg_ℤ}
use Rattle.std.specs.Prelude.{Option, Some, None, Result, Ok, Err, ok_or, option_map, nat_lt, nat_le, ◌%◌}
use Rattle.std.specs.Str.Parse.{digits_value, starts_with_minus}
use Rattle.std.proofs.lemmas.Bool.{and_parts, and_from, ltb-true, lt-ltb, le-leb}
use Rattle.gufi_base.specs.declared.record.Meta.{Meta}
use Rattle.gufi_base.specs.Basics.{◌>>=◌, ◌>>◌, refuse, result_map_err}
use Rattle.gufi_base.specs.Numbers.{is_numeral, read_below, read_u32, read_u64, read_i64}
use Rattle.gufi_base.specs.Kinds.{read_kind}
use Rattle.gufi_base.specs.Rows.{are_bytes, fits_i64, fits_types}
use Rattle.gufi_line.specs.Fields.{Texts}
use Rattle.gufi_line.specs.Lines.{numbered, meta_in}
use Rattle.gufi_line.specs.declared.fault.TraceKind.{TraceKind}
use Rattle.gufi_line.specs.declared.fault.TraceKind.TheVariants.{BadType}

-- ---- a value that came through

module _ {E : Type 0} where
  pub bound : {A B : Type 0} (r : Result A E) (f : A → Result B E) (y : B) → (r >>= f) ≡ Ok y → (x : A) × (r ≡ Ok x) × (f x ≡ Ok y)
  bound (Ok x) f y e = (x, refl, e)
  bound (Err w) f y e = absurd cc

  pub passed : {B : Type 0} (b : Bool) (w : E) (next : Result B E) (y : B) → (refuse b w >> next) ≡ Ok y → (b ≡ false) × (next ≡ Ok y)
  passed true w next y e = absurd cc
  passed false w next y e = (refl, e)

  pub some_given : {A : Type 0} (o : Option A) (w : E) (x : A) → ok_or o w ≡ Ok x → o ≡ Some x
  some_given None w x e = absurd cc
  some_given (Some y) w x e = cc

pub map_err_ok : {A E F : Type 0} (f : E → F) (r : Result A E) (x : A) → result_map_err f r ≡ Ok x → r ≡ Ok x
map_err_ok f (Ok y) x e = cc
map_err_ok f (Err w) x e = absurd cc

-- ---- numbers

below_limit : (b : Bool) (v limit n : ℕ) → (b ≡ true → v < limit) → cond b (Some v) None ≡ Some n → n < limit
below_limit true v limit n h e = let same : v ≡ n = cc in let less = h refl in omega arith
below_limit false v limit n h e = absurd cc

number_bound : (radix limit : ℕ) (bytes : List ℕ) (n : ℕ) → read_below radix limit bytes ≡ Some n → n < limit
number_bound radix limit bytes n e =
    below_limit (is_numeral radix bytes && nat_lt (digits_value radix bytes) limit) (digits_value radix bytes) limit n
    (λ h. ltb-true _ _ (and_parts (is_numeral radix bytes) (nat_lt (digits_value radix bytes) limit) h).1) e

mapped : {A B : Type 0} (f : A → B) (o : Option A) (y : B) → option_map f o ≡ Some y → (x : A) × (o ≡ Some x) × (f x ≡ y)
mapped f None y e = absurd cc
mapped f (Some x) y e = (x, refl, cc)

pub fits_below : (n : ℕ) → n < 2 ^ 63 → fits_i64 (pos n) ≡ true
fits_below n h = and_from _ _ refl (lt-ltb n (2 ^ 63) h)

fits_minus : (n : ℕ) → n < 2 ^ 63 + 1 → fits_i64 (neg_ℤ (pos n)) ≡ true
fits_minus zero h = refl
fits_minus (suc n) h = and_from _ _ (le-leb n (2 ^ 63 - 1) (omega arith)) refl

pub signed_fits : (bytes : List ℕ) (z : ℤ) → read_i64 bytes ≡ Some z → fits_i64 z ≡ true
signed_fits bytes z e = by (starts_with_minus bytes) e where
  by : (b : Bool) → cond b (option_map (λ n. neg_ℤ (pos n)) (read_below 10 (2 ^ 63 + 1) (drop 1 bytes))) (option_map pos (read_below 10 (2 ^ 63) bytes)) ≡ Some z → fits_i64 z ≡ true
  by true h =
      let w = mapped (λ n. neg_ℤ (pos n)) (read_below 10 (2 ^ 63 + 1) (drop 1 bytes)) z h in
      subst (λ v. fits_i64 v ≡ true) w.2 (fits_minus w.0 (number_bound 10 (2 ^ 63 + 1) (drop 1 bytes) w.0 w.1))
  by false h =
      let w = mapped pos (read_below 10 (2 ^ 63) bytes) z h in
      subst (λ v. fits_i64 v ≡ true) w.2 (fits_below w.0 (number_bound 10 (2 ^ 63) bytes w.0 w.1))

-- ---- the numbers of a line

pub record IsReadMeta (meta : Meta) : Type 0 where
  pub mode : nat_le meta.mode 4095 ≡ true
  pub fits : (link names acl : List ℕ) → are_bytes link ≡ true → are_bytes names ≡ true → are_bytes acl ≡ true → fits_types (record { meta = meta; link = link; xattrs = names; acl = acl }) ≡ true

mode_fits : (m : ℕ) → nat_lt (m % 4096) (2 ^ 16) ≡ true
mode_fits m = lt-ltb _ _ (omega arith)

mode_small : (m : ℕ) → nat_le (m % 4096) 4095 ≡ true
mode_small m = le-leb _ _ (omega arith)

meta_same : (r : Result Meta TraceKind) (x y : Meta) → r ≡ Ok x → r ≡ Ok y → x ≡ y
meta_same r x y e h = cc

u64 : (bytes : List ℕ) (n : ℕ) → read_u64 bytes ≡ Some n → nat_lt n (2 ^ 64) ≡ true
u64 bytes n e = lt-ltb n (2 ^ 64) (number_bound 10 (2 ^ 64) bytes n e)

u32 : (bytes : List ℕ) (n : ℕ) → read_u32 bytes ≡ Some n → nat_lt n (2 ^ 32) ≡ true
u32 bytes n e = lt-ltb n (2 ^ 32) (number_bound 10 (2 ^ 32) bytes n e)

pub meta_read : (f : Texts) (meta : Meta) → meta_in f ≡ Ok meta → IsReadMeta meta
unfolding meta_in
meta_read f meta e =
    let kind = bound (ok_or (read_kind f.kind) BadType) _ meta e in
    let inode = bound (numbered 3 (read_u64 f.inode)) _ meta kind.2 in
    let mode = bound (numbered 4 (read_u32 f.mode)) _ meta inode.2 in
    let nlink = bound (numbered 5 (read_u64 f.nlink)) _ meta mode.2 in
    let uid = bound (numbered 6 (read_u32 f.uid)) _ meta nlink.2 in
    let gid = bound (numbered 7 (read_u32 f.gid)) _ meta uid.2 in
    let size = bound (numbered 8 (read_u64 f.size)) _ meta gid.2 in
    let blksize = bound (numbered 9 (read_u64 f.blksize)) _ meta size.2 in
    let blocks = bound (numbered 10 (read_u64 f.blocks)) _ meta blksize.2 in
    let atime = bound (numbered 11 (read_i64 f.atime)) _ meta blocks.2 in
    let mtime = bound (numbered 12 (read_i64 f.mtime)) _ meta atime.2 in
    let ctime = bound (numbered 13 (read_i64 f.ctime)) _ meta mtime.2 in
    let made : Meta = record { kind = kind.0; inode = inode.0; mode = mode.0 % 4096; nlink = nlink.0; uid = uid.0; gid = gid.0; size = size.0; blksize = blksize.0; blocks = blocks.0; atime = atime.0; mtime = mtime.0; ctime = ctime.0 } in
    let same : made ≡ meta = meta_same (Ok made) made meta refl ctime.2 in
    subst IsReadMeta same (record {
      mode = mode_small mode.0;
      fits = λ link names acl bytes names_bytes acl_bytes.
          and_from _ _ (and_from _ _ (and_from _ _ (and_from _ _ (and_from _ _ (and_from _ _ (and_from _ _ (and_from _ _ (and_from _ _ (and_from _ _ (and_from _ _ (and_from _ _ (and_from _ _
          (u64 f.inode inode.0 (some_given _ _ _ inode.1)) (mode_fits mode.0)) (u64 f.nlink nlink.0 (some_given _ _ _ nlink.1))) (u32 f.uid uid.0 (some_given _ _ _ uid.1))) (u32 f.gid gid.0 (some_given _ _ _ gid.1)))
          (u64 f.size size.0 (some_given _ _ _ size.1))) (u64 f.blksize blksize.0 (some_given _ _ _ blksize.1))) (u64 f.blocks blocks.0 (some_given _ _ _ blocks.1)))
          (signed_fits f.atime atime.0 (some_given _ _ _ atime.1))) (signed_fits f.mtime mtime.0 (some_given _ _ _ mtime.1))) (signed_fits f.ctime ctime.0 (some_given _ _ _ ctime.1))) bytes) names_bytes) acl_bytes;
    })
