-- The numbers of a record in the bytes that spell them.
use Rattle.std.proofs.Common.{◌≡◌, ℕ, ◌+◌, ◌-◌, ◌<◌, ◌≤◌, true, false, ltb, List, ◌++◌, length, take, drop, replicate, Ok, Err, refl, sym, ap, ◌∙◌, arith, length-append}
use Rattle.std.specs.Int.{Width as Bits, w16, w32, w64, byte_len, from_le_bytes}
use Rattle.std.proofs.lemmas.List.{length-drop, length-replicate, drop-drop, drop-take, take-take}
use Rattle.gufi_base.specs.declared.record.Kind.{Kind}
use Rattle.gufi_base.specs.declared.record.Meta.{Meta}
use Rattle.gufi_base.specs.Basics.{◌>>◌}
use Rattle.gufi_image.specs.declared.fault.ImageKind.TheVariants as kinds
use Rattle.gufi_image.specs.Fields.{flaw, wrong, number_at, meta_at}
use Rattle.gufi_image.specs.Numbers.{number_in, meta_in}
use Rattle.gufi_image.proofs.FieldsBack.{refused_ok, ok_same}
use Rattle.gufi_image.proofs.Longer.{meta_goes}

-- a number that is wholly there
number_there : (w : Bits) (place : ℕ) (bytes : List ℕ) → place + byte_len w ≤ length bytes → number_at w (drop place bytes) ≡ Ok (number_in w place bytes, drop (place + byte_len w) bytes)
number_there w place bytes h =
    let left = length-drop place bytes in
    let long : ltb (length (drop place bytes)) (byte_len w) ≡ false = grind (arith, left, h) in
    rw (long, drop-drop (byte_len w) place bytes) refl

-- where all numbers are there, only the mode may be none
meta_there : (kind : Kind) (bytes : List ℕ) → 74 ≤ length bytes
    → meta_at kind bytes ≡ (wrong (ltb 4095 (number_in w16 8 bytes)) (drop 8 bytes) kinds.Number >> Ok (meta_in kind bytes, drop 74 bytes))
unfolding meta_at meta_in
meta_there kind bytes h =
    let inode = number_there w64 0 bytes (omega arith) in
    let mode = number_there w16 8 bytes (omega arith) in
    let nlink = number_there w64 10 bytes (omega arith) in
    let uid = number_there w32 18 bytes (omega arith) in
    let gid = number_there w32 22 bytes (omega arith) in
    let size = number_there w64 26 bytes (omega arith) in
    let blksize = number_there w64 34 bytes (omega arith) in
    let blocks = number_there w64 42 bytes (omega arith) in
    let atime = number_there w64 50 bytes (omega arith) in
    let mtime = number_there w64 58 bytes (omega arith) in
    let ctime = number_there w64 66 bytes (omega arith) in
    rw (inode, mode, nlink, uid, gid, size, blksize, blocks, atime, mtime, ctime) refl

-- the numbers stand in the first bytes
number_kept : (w : Bits) (place size : ℕ) (bytes : List ℕ) → place + byte_len w ≤ size → number_in w place (take size bytes) ≡ number_in w place bytes
number_kept w place size bytes h =
    let parts : size ≡ place + (size - place) = omega (arith, h) in
    let dropped : drop place (take size bytes) ≡ take (size - place) (drop place bytes) = ap (λ n. drop place (take n bytes)) parts ∙ drop-take place (size - place) bytes in
    ap (λ (t : List ℕ). from_le_bytes w (take (byte_len w) t)) dropped ∙ ap (from_le_bytes w) (take-take (byte_len w) (size - place) (drop place bytes) (omega (arith, h)))

meta_kept : (kind : Kind) (bytes : List ℕ) → meta_in kind (take 74 bytes) ≡ meta_in kind bytes
unfolding meta_in
meta_kept kind bytes =
    let of : (w : Bits) (place : ℕ) → place + byte_len w ≤ 74 → number_in w place (take 74 bytes) ≡ number_in w place bytes = λ w place h. number_kept w place 74 bytes h in
    rw (of w64 0 (omega arith), of w16 8 (omega arith), of w64 10 (omega arith), of w32 18 (omega arith), of w32 22 (omega arith), of w64 26 (omega arith), of w64 34 (omega arith), of w64 42 (omega arith), of w64 50 (omega arith), of w64 58 (omega arith), of w64 66 (omega arith)) refl

-- what is read of them, by their mode
pub mode_sound : (kind : Kind) (bytes front rest : List ℕ) (mode : ℕ) → 74 ≤ length bytes → mode ≡ number_in w16 8 bytes → mode ≤ 4095 → front ≡ take 74 bytes → rest ≡ drop 74 bytes
    → meta_at kind bytes ≡ Ok (meta_in kind front, rest)
mode_sound kind bytes front rest mode long is few is_front is_rest =
    let sound : ltb 4095 (number_in w16 8 bytes) ≡ false = grind (arith, is, few) in
    let read = rw sound at (meta_there kind bytes long) in
    rw (is_front, is_rest, meta_kept kind bytes) read

pub mode_refused : (kind : Kind) (bytes : List ℕ) (mode : ℕ) → 74 ≤ length bytes → mode ≡ number_in w16 8 bytes → 4095 < mode → meta_at kind bytes ≡ Err (flaw (drop 8 bytes) kinds.Number)
mode_refused kind bytes mode long is over =
    let none : ltb 4095 (number_in w16 8 bytes) ≡ true = grind (arith, is, over) in
    meta_there kind bytes long ∙ rw none refl

-- what was read whole had all its bytes
pub meta_long : (kind : Kind) (bytes : List ℕ) (found : Meta × List ℕ) → meta_at kind bytes ≡ Ok found → 74 ≤ length bytes
meta_long kind bytes found e =
    let more : List ℕ = replicate 74 0 in
    let whole = bytes ++ more in
    let both = length-append bytes more in
    let size = length-replicate {A = ℕ} 74 0 in
    let there = meta_there kind whole (omega (arith, both, size)) in
    let read = refused_ok (ltb 4095 (number_in w16 8 whole)) (flaw (drop 8 whole) kinds.Number) (Ok (meta_in kind whole, drop 74 whole)) (found.0, found.1 ++ more) (sym there ∙ (meta_goes more kind bytes).ok found e) in
    let same = ok_same (meta_in kind whole, drop 74 whole) (found.0, found.1 ++ more) read.1 in
    omega (arith, ap (λ (x : Meta × List ℕ). length x.1) same, length-drop 74 whole, length-append found.1 more, both, size)
