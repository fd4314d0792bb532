-- The records of an image, read as they are written and in no other spelling.
use Rattle.std.proofs.Common.{◌≡◌, ℕ, suc, ◌-◌, ◌<◌, ◌≤◌, ◌^◌, Bool, true, false, not, ◌&&◌, ◌||◌, ltb, leb, List, [], ◌∷◌, ◌++◌, length, Result, Ok, refl, sym, ap, subst, ◌∙◌, arith, append_assoc, ℤ, pos, negsuc, neg_ℤ}
use Rattle.std.specs.Prelude.{int_lt, int_le}
use Rattle.std.specs.List.{list_all}
use Rattle.std.specs.Int.{w16, w32, w64, cast_signed, cast_unsigned}
use Rattle.std.proofs.lemmas.Bool.{and_parts, and_from, ltb-true, ltb-false, leb-true, lt-ltb, le-leb}
use Rattle.std.proofs.lemmas.Int.{of_z-to_z, to_z-of_z}
use Rattle.gufi_base.specs.declared.record.Kind.{Kind}
use Rattle.gufi_base.specs.declared.record.Meta.{Meta}
use Rattle.gufi_base.specs.declared.record.Rec.{Rec}
use Rattle.gufi_base.specs.Limits.{max_link, max_xattrs}
use Rattle.gufi_base.specs.Basics.{is_empty}
use Rattle.gufi_base.specs.Names.{is_path_byte}
use Rattle.gufi_base.specs.Xattrs.{are_xattrs}
use Rattle.gufi_base.specs.Rows.{are_bytes, fits_i64, fits_types}
use Rattle.gufi_access.specs.Acl.{is_acl_or_none}
use Rattle.gufi_tree.specs.Tree.{is_well_formed}
use Rattle.gufi_image.specs.declared.fault.Flaw.{Flaw}
use Rattle.gufi_image.specs.Bytes.{u16_bytes, u32_bytes, u64_bytes, i64_bytes, owner_image, size_image, times_image, extra_image, record_image}
use Rattle.gufi_image.specs.declared.width.Width.{Width}
use Rattle.gufi_image.specs.declared.width.Width.TheVariants.{Named, Guarded}
use Rattle.gufi_image.specs.Widths.{has_names, has_acls, record_needs}
use Rattle.gufi_image.specs.Fields.{bytes_at, number_at, signed_at, meta_at, link_at, names_at, acl_at, extra_at, record_at}
use Rattle.gufi_image.proofs.Repeats.{bind_ok}
use Rattle.gufi_image.proofs.ShortAcls.{acl_short}
use Rattle.gufi_image.proofs.FieldsBack.{refused_ok, then_ok, ok_same, not_false, bytes_rest, step, Reads, reads_from, IsReader, bytes_reader, u16_reader, u32_reader, u64_reader}

-- signed numbers
unsigned_fits : (z : ℤ) → fits_i64 z ≡ true → (cast_unsigned w64 z < 2 ^ 64) × (cast_signed w64 (cast_unsigned w64 z) ≡ z)
unsigned_fits (pos n) h =
    let below : n < 2 ^ 63 = ltb-true n (2 ^ 63) (and_parts (int_le (neg_ℤ (pos (2 ^ 63))) (pos n)) (int_lt (pos n) (pos (2 ^ 63))) h).1 in
    (omega arith, to_z-of_z w64 (pos n) (record { sfits = below }))
unsigned_fits (negsuc n) h =
    let le = leb-true n (2 ^ 63 - 1) (and_parts (int_le (neg_ℤ (pos (2 ^ 63))) (negsuc n)) (int_lt (negsuc n) (pos (2 ^ 63))) h).0 in
    let below : n < 2 ^ 63 = omega arith in
    (omega arith, to_z-of_z w64 (negsuc n) (record { sfits = below }))

signed_fits : (n : ℕ) → n < 2 ^ 64 → fits_i64 (cast_signed w64 n) ≡ true
signed_fits n h = by (ltb n (2 ^ 63)) refl where
  by : (b : Bool) → ltb n (2 ^ 63) ≡ b → fits_i64 (cast_signed w64 n) ≡ true
  by true e = rw e (and_from _ _ refl e)
  by false e =
      let le : 2 ^ 63 ≤ n = ltb-false n (2 ^ 63) e in
      rw e (and_from _ _ (le-leb (2 ^ 64 - suc n) (2 ^ 63 - 1) (omega arith)) refl)

abbrev signed : ℕ × List ℕ → Result (ℤ × List ℕ) Flaw
signed n = Ok (cast_signed w64 n.0, n.1)

pub signed_reader : IsReader (λ z. fits_i64 z ≡ true) i64_bytes signed_at
signed_reader = record { back = back; once = once } where
  back : (z : ℤ) (rest : List ℕ) → fits_i64 z ≡ true → signed_at (i64_bytes z ++ rest) ≡ Ok (z, rest)
  back z rest h =
      let own = unsigned_fits z h in
      then_ok (number_at w64 (i64_bytes z ++ rest)) signed (cast_unsigned w64 z, rest) (u64_reader.back (cast_unsigned w64 z) rest own.0) ∙ ap (λ (v : ℤ). Ok (v, rest)) own.1

  once : (bytes : List ℕ) (found : ℤ × List ℕ) → are_bytes bytes ≡ true → signed_at bytes ≡ Ok found → Reads (λ z. fits_i64 z ≡ true) i64_bytes bytes found
  once bytes found are e =
      let n = bind_ok (number_at w64 bytes) signed found e in
      let read = u64_reader.once bytes n.0 are n.1 in
      let same : (cast_signed w64 n.0.0, n.0.1) ≡ found = ok_same _ _ n.2 in
      reads_from (λ z. fits_i64 z ≡ true) i64_bytes bytes found are
      (read.is ∙ ap (λ k. u64_bytes k ++ n.0.1) (sym (of_z-to_z w64 n.0.0 read.holds)) ∙ ap (λ (x : ℤ × List ℕ). i64_bytes x.0 ++ x.1) same)
      (subst (λ (x : ℤ × List ℕ). fits_i64 x.0 ≡ true) same (signed_fits n.0.0 read.holds))

-- the ranges of what a record of a kind holds before its link
pub record IsMeta (given : Kind) (m : Meta) : Type 0 where
  pub kind : m.kind ≡ given
  pub inode : m.inode < 2 ^ 64
  pub mode : m.mode ≤ 4095
  pub nlink : m.nlink < 2 ^ 64
  pub uid : m.uid < 2 ^ 32
  pub gid : m.gid < 2 ^ 32
  pub size : m.size < 2 ^ 64
  pub blksize : m.blksize < 2 ^ 64
  pub blocks : m.blocks < 2 ^ 64
  pub atime : fits_i64 m.atime ≡ true
  pub mtime : fits_i64 m.mtime ≡ true
  pub ctime : fits_i64 m.ctime ≡ true

abbrev meta_image : Meta → List ℕ
meta_image m = owner_image m ++ (size_image m ++ times_image m)

-- each field in front of the next
abbrev meta_then : Meta → List ℕ → List ℕ
meta_then m rest =
    u64_bytes m.inode ++ (u16_bytes m.mode ++ (u64_bytes m.nlink ++ (u32_bytes m.uid ++ (u32_bytes m.gid ++ (u64_bytes m.size ++ (u64_bytes m.blksize ++ (u64_bytes m.blocks ++ (i64_bytes m.atime ++ (i64_bytes m.mtime ++ (i64_bytes m.ctime ++ rest))))))))))

meta_apart : (m : Meta) (rest : List ℕ) → meta_image m ++ rest ≡ meta_then m rest
unfolding owner_image size_image times_image
meta_apart m rest = simp append_assoc

u16_back : (n : ℕ) (rest : List ℕ) → n < 2 ^ 16 → number_at w16 (u16_bytes n ++ rest) ≡ Ok (n, rest)
u16_back = u16_reader.back

u32_back : (n : ℕ) (rest : List ℕ) → n < 2 ^ 32 → number_at w32 (u32_bytes n ++ rest) ≡ Ok (n, rest)
u32_back = u32_reader.back

u64_back : (n : ℕ) (rest : List ℕ) → n < 2 ^ 64 → number_at w64 (u64_bytes n ++ rest) ≡ Ok (n, rest)
u64_back = u64_reader.back

signed_back : (z : ℤ) (rest : List ℕ) → fits_i64 z ≡ true → signed_at (i64_bytes z ++ rest) ≡ Ok (z, rest)
signed_back = signed_reader.back

meta_back : (kind : Kind) (m : Meta) (rest : List ℕ) → IsMeta kind m → meta_at kind (meta_then m rest) ≡ Ok (record m { kind = kind }, rest)
unfolding meta_at
meta_back kind m rest h =
    let inode = h.inode in
    let mode : m.mode < 2 ^ 16 = omega (arith, h.mode) in
    let few : ltb 4095 m.mode ≡ false = grind (arith, h.mode) in
    let nlink = h.nlink in
    let uid = h.uid in
    let gid = h.gid in
    let size = h.size in
    let blksize = h.blksize in
    let blocks = h.blocks in
    let atime = h.atime in
    let mtime = h.mtime in
    let ctime = h.ctime in
    rw (u64_back, u16_back, few, u64_back, u32_back, u32_back, u64_back, u64_back, u64_back, signed_back, signed_back, signed_back) refl

meta_once : (kind : Kind) (bytes : List ℕ) (found : Meta × List ℕ) → are_bytes bytes ≡ true → meta_at kind bytes ≡ Ok found → Reads (IsMeta kind) meta_image bytes found
unfolding meta_at
meta_once kind bytes found are e =
    step u64_reader bytes _ found are e (λ inode r1 i1 b1 a1 e1.
    step u16_reader r1 _ found a1 e1 (λ mode r2 i2 b2 a2 e2.
    let few = refused_ok (ltb 4095 mode) _ _ found e2 in
    step u64_reader r2 _ found a2 few.1 (λ nlink r3 i3 b3 a3 e3.
    step u32_reader r3 _ found a3 e3 (λ uid r4 i4 b4 a4 e4.
    step u32_reader r4 _ found a4 e4 (λ gid r5 i5 b5 a5 e5.
    step u64_reader r5 _ found a5 e5 (λ size r6 i6 b6 a6 e6.
    step u64_reader r6 _ found a6 e6 (λ blksize r7 i7 b7 a7 e7.
    step u64_reader r7 _ found a7 e7 (λ blocks r8 i8 b8 a8 e8.
    step signed_reader r8 _ found a8 e8 (λ atime r9 i9 b9 a9 e9.
    step signed_reader r9 _ found a9 e9 (λ mtime r10 i10 b10 a10 e10.
    step signed_reader r10 _ found a10 e10 (λ ctime rest i11 b11 a11 e11.
    let meta : Meta = record { kind = kind; inode = inode; mode = mode; nlink = nlink; uid = uid; gid = gid; size = size; blksize = blksize; blocks = blocks; atime = atime; mtime = mtime; ctime = ctime } in
    let same : (meta, rest) ≡ found = ok_same _ _ e11 in
    let is : bytes ≡ meta_then meta rest = cc in
    let holds : IsMeta kind meta = record {
      kind = refl;
      inode = b1;
      mode = ltb-false 4095 mode few.0;
      nlink = b3;
      uid = b4;
      gid = b5;
      size = b6;
      blksize = b7;
      blocks = b8;
      atime = b9;
      mtime = b10;
      ctime = b11;
    } in
    reads_from (IsMeta kind) meta_image bytes found are (is ∙ sym (meta_apart meta rest) ∙ ap (λ (x : Meta × List ℕ). meta_image x.0 ++ x.1) same) (subst (λ (x : Meta × List ℕ). IsMeta kind x.0) same holds))))))))))))

meta_reader : (kind : Kind) → IsReader (IsMeta kind) meta_image (meta_at kind)
meta_reader kind = record {
  back = λ m rest h. ap (meta_at kind) (meta_apart m rest) ∙ meta_back kind m rest h ∙ ap (λ (k : Kind). Ok (record m { kind = k }, rest)) (sym h.kind);
  once = meta_once kind;
}

-- links
pub record IsLink (link : List ℕ) : Type 0 where
  pub short : length link ≤ max_link
  pub sound : list_all is_path_byte link ≡ true
  pub bytes : are_bytes link ≡ true

abbrev link_image : List ℕ → List ℕ
link_image link = u16_bytes (length link) ++ link

link_back : (link rest : List ℕ) → IsLink link → link_at (link_image link ++ rest) ≡ Ok (link, rest)
unfolding link_at
link_back link rest h =
    let fits : length link < 2 ^ 16 = omega (arith, h.short) in
    let few : ltb max_link (length link) ≡ false = grind (arith, h.short) in
    let count = u16_back (length link) (link ++ rest) fits in
    let field = (bytes_reader (length link)).back link rest refl in
    let sound = h.sound in
    rw (append_assoc, count, few, field, sound) refl

link_once : (bytes : List ℕ) (found : List ℕ × List ℕ) → are_bytes bytes ≡ true → link_at bytes ≡ Ok found → Reads IsLink link_image bytes found
unfolding link_at
link_once bytes found are e =
    let count = bind_ok (number_at w16 bytes) _ found e in
    let n = u16_reader.once bytes count.0 are count.1 in
    let few = refused_ok (ltb max_link count.0.0) _ _ found count.2 in
    let link = bind_ok (bytes_at count.0.0 count.0.1) _ found few.1 in
    let l = (bytes_reader count.0.0).once count.0.1 link.0 n.rest link.1 in
    let sound = refused_ok (not (list_all is_path_byte link.0.0)) _ _ found link.2 in
    let same : link.0 ≡ found = ok_same _ _ sound.1 in
    let len = l.holds in
    let both : bytes ≡ u16_bytes (length link.0.0) ++ (link.0.0 ++ link.0.1) = cc in
    let parts = bytes_rest link.0.0 link.0.1 (ap are_bytes (sym l.is) ∙ n.rest) in
    let holds : IsLink link.0.0 = record { short = omega (arith, len, ltb-false max_link count.0.0 few.0); sound = not_false _ sound.0; bytes = parts.0 } in
    reads_from IsLink link_image bytes found are (both ∙ sym (append_assoc (u16_bytes (length link.0.0)) link.0.0 link.0.1) ∙ ap (λ (x : List ℕ × List ℕ). link_image x.0 ++ x.1) same) (subst (λ (x : List ℕ × List ℕ). IsLink x.0) same holds)

link_reader : IsReader IsLink link_image link_at
link_reader = record { back = link_back; once = link_once }

-- what stands behind the link
pub record IsNames (names : List ℕ) : Type 0 where
  pub sound : are_xattrs names ≡ true
  pub bytes : are_bytes names ≡ true

pub record IsAclOrNone (acl : List ℕ) : Type 0 where
  pub sound : is_acl_or_none acl ≡ true
  pub bytes : are_bytes acl ≡ true

-- which a record has only in some widths
abbrev pub IsHeld : (List ℕ → Type 0) → Bool → List ℕ → Type 0
IsHeld P false bytes = bytes ≡ []
IsHeld P true bytes = P bytes

names_short : (names : List ℕ) → are_xattrs names ≡ true → length names ≤ max_xattrs
names_short names h = leb-true (length names) max_xattrs (and_parts _ _ (and_parts (leb (length names) max_xattrs && list_all is_path_byte names) _ h).0).0

names_back : (names rest : List ℕ) → IsNames names → names_at (link_image names ++ rest) ≡ Ok (names, rest)
unfolding names_at
names_back names rest h =
    let short = names_short names h.sound in
    let fits : length names < 2 ^ 16 = omega arith in
    let few : ltb max_xattrs (length names) ≡ false = grind arith in
    let count = u16_back (length names) (names ++ rest) fits in
    let field = (bytes_reader (length names)).back names rest refl in
    let sound = h.sound in
    rw (append_assoc, count, few, field, sound) refl

names_once : (bytes : List ℕ) (found : List ℕ × List ℕ) → are_bytes bytes ≡ true → names_at bytes ≡ Ok found → Reads IsNames link_image bytes found
unfolding names_at
names_once bytes found are e =
    step u16_reader bytes _ found are e (λ count r1 i1 b1 a1 e1.
    let few = refused_ok (ltb max_xattrs count) _ _ found e1 in
    step (bytes_reader count) r1 _ found a1 few.1 (λ names rest i2 b2 a2 e2.
    let sound = refused_ok (not (are_xattrs names)) _ _ found e2 in
    let same : (names, rest) ≡ found = ok_same _ _ sound.1 in
    let both : bytes ≡ u16_bytes (length names) ++ (names ++ rest) = cc in
    let parts = bytes_rest names rest (ap are_bytes (sym i2) ∙ a1) in
    let holds : IsNames names = record { sound = not_false _ sound.0; bytes = parts.0 } in
    reads_from IsNames link_image bytes found are (both ∙ sym (append_assoc (u16_bytes (length names)) names rest) ∙ ap (λ (x : List ℕ × List ℕ). link_image x.0 ++ x.1) same) (subst (λ (x : List ℕ × List ℕ). IsNames x.0) same holds)))

acl_back : (acl rest : List ℕ) → IsAclOrNone acl → acl_at (link_image acl ++ rest) ≡ Ok (acl, rest)
unfolding acl_at
acl_back acl rest h =
    let short = acl_short acl h.sound in
    let fits : length acl < 2 ^ 16 = omega arith in
    let count = u16_back (length acl) (acl ++ rest) fits in
    let field = (bytes_reader (length acl)).back acl rest refl in
    let sound = h.sound in
    rw (append_assoc, count, field, sound) refl

acl_once : (bytes : List ℕ) (found : List ℕ × List ℕ) → are_bytes bytes ≡ true → acl_at bytes ≡ Ok found → Reads IsAclOrNone link_image bytes found
unfolding acl_at
acl_once bytes found are e =
    step u16_reader bytes _ found are e (λ count r1 i1 b1 a1 e1.
    step (bytes_reader count) r1 _ found a1 e1 (λ acl rest i2 b2 a2 e2.
    let sound = refused_ok (not (is_acl_or_none acl)) _ _ found e2 in
    let same : (acl, rest) ≡ found = ok_same _ _ sound.1 in
    let both : bytes ≡ u16_bytes (length acl) ++ (acl ++ rest) = cc in
    let parts = bytes_rest acl rest (ap are_bytes (sym i2) ∙ a1) in
    let holds : IsAclOrNone acl = record { sound = not_false _ sound.0; bytes = parts.0 } in
    reads_from IsAclOrNone link_image bytes found are (both ∙ sym (append_assoc (u16_bytes (length acl)) acl rest) ∙ ap (λ (x : List ℕ × List ℕ). link_image x.0 ++ x.1) same) (subst (λ (x : List ℕ × List ℕ). IsAclOrNone x.0) same holds)))

extra_reader : (P : List ℕ → Type 0) (read : List ℕ → Result (List ℕ × List ℕ) Flaw) (held : Bool) → IsReader P link_image read → IsReader (IsHeld P held) (extra_image held) (extra_at read held)
extra_reader P read true r = r
extra_reader P read false r = record {
  back = λ bytes rest none. ap (λ (t : List ℕ). Ok (t, rest)) (sym none);
  once = λ bytes found are e.
      let same : ([], bytes) ≡ found = ok_same _ _ e in
      reads_from (IsHeld P false) (extra_image false) bytes found are (ap (λ (x : List ℕ × List ℕ). x.1) same) (ap (λ (x : List ℕ × List ℕ). x.0) (sym same));
}

xattrs_reader : (held : Bool) → IsReader (IsHeld IsNames held) (extra_image held) (extra_at names_at held)
xattrs_reader held = extra_reader IsNames names_at held (record { back = names_back; once = names_once })

acl_reader : (held : Bool) → IsReader (IsHeld IsAclOrNone held) (extra_image held) (extra_at acl_at held)
acl_reader held = extra_reader IsAclOrNone acl_at held (record { back = acl_back; once = acl_once })

-- records of a kind
pub record IsRecord (width : Width) (kind : Kind) (rec : Rec) : Type 0 where
  pub meta : IsMeta kind rec.meta
  pub link : IsLink rec.link
  pub xattrs : IsHeld IsNames (has_names width) rec.xattrs
  pub acl : IsHeld IsAclOrNone (has_acls width) rec.acl

record_apart : (width : Width) (rec : Rec) (rest : List ℕ)
    → record_image width rec ++ rest ≡ meta_image rec.meta ++ (link_image rec.link ++ (extra_image (has_names width) rec.xattrs ++ (extra_image (has_acls width) rec.acl ++ rest)))
unfolding record_image
record_apart width rec rest = by (extra_image (has_names width) rec.xattrs) (extra_image (has_acls width) rec.acl) where
  by : (names acl : List ℕ)
      → (owner_image rec.meta ++ (size_image rec.meta ++ (times_image rec.meta ++ (u16_bytes (length rec.link) ++ (rec.link ++ (names ++ acl)))))) ++ rest ≡ meta_image rec.meta ++ (link_image rec.link ++ (names ++ (acl ++ rest)))
  by names acl = simp append_assoc

record_back : (width : Width) (kind : Kind) (rec : Rec) (rest : List ℕ) → IsRecord width kind rec → record_at width kind (record_image width rec ++ rest) ≡ Ok (rec, rest)
unfolding record_at
record_back width kind rec rest h =
    let list = extra_image (has_acls width) rec.acl ++ rest in
    let names = extra_image (has_names width) rec.xattrs ++ list in
    let meta = (meta_reader kind).back rec.meta (link_image rec.link ++ names) h.meta in
    let link = link_back rec.link names h.link in
    let xattrs = (xattrs_reader (has_names width)).back rec.xattrs list h.xattrs in
    let acl = (acl_reader (has_acls width)).back rec.acl rest h.acl in
    rw (record_apart width rec rest, meta, link, xattrs, acl) refl

record_once : (width : Width) (kind : Kind) (bytes : List ℕ) (found : Rec × List ℕ) → are_bytes bytes ≡ true → record_at width kind bytes ≡ Ok found → Reads (IsRecord width kind) (record_image width) bytes found
unfolding record_at
record_once width kind bytes found are e =
    step (meta_reader kind) bytes _ found are e (λ meta r1 i1 b1 a1 e1.
    step link_reader r1 _ found a1 e1 (λ link r2 i2 b2 a2 e2.
    step (xattrs_reader (has_names width)) r2 _ found a2 e2 (λ xattrs r3 i3 b3 a3 e3.
    step (acl_reader (has_acls width)) r3 _ found a3 e3 (λ acl rest i4 b4 a4 e4.
    let rec : Rec = record { meta = meta; link = link; xattrs = xattrs; acl = acl } in
    let same : (rec, rest) ≡ found = ok_same _ _ e4 in
    let is : bytes ≡ meta_image meta ++ (link_image link ++ (extra_image (has_names width) xattrs ++ (extra_image (has_acls width) acl ++ rest))) =
    i1 ∙ ap (λ (t : List ℕ). meta_image meta ++ t) (i2 ∙ ap (λ (t : List ℕ). link_image link ++ t) (i3 ∙ ap (λ (t : List ℕ). extra_image (has_names width) xattrs ++ t) i4)) in
    let holds : IsRecord width kind rec = record { meta = b1; link = b2; xattrs = b3; acl = b4 } in
    reads_from (IsRecord width kind) (record_image width) bytes found are (is ∙ sym (record_apart width rec rest) ∙ ap (λ (x : Rec × List ℕ). record_image width x.0 ++ x.1) same) (subst (λ (x : Rec × List ℕ). IsRecord width kind x.0) same holds)))))

pub record_reader : (width : Width) (kind : Kind) → IsReader (IsRecord width kind) (record_image width) (record_at width kind)
record_reader width kind = record { back = record_back width kind; once = record_once width kind }

-- A record that has nothing which only a greater width holds.
abbrev pub fits_width : Width → Rec → Bool
fits_width width rec = (has_names width || not (record_needs Named rec)) && (has_acls width || not (record_needs Guarded rec))

held_from : (P : List ℕ → Type 0) (held : Bool) (bytes : List ℕ) → P bytes → (held || not (not (is_empty bytes))) ≡ true → IsHeld P held bytes
held_from P true bytes sound h = sound
held_from P false [] sound h = refl
held_from P false (b ∷ bytes) sound h = absurd cc

names_sound : (held : Bool) (names : List ℕ) → IsHeld IsNames held names → IsNames names
names_sound true names h = h
names_sound false names h = rw h (record { sound = refl; bytes = refl })

acl_sound : (held : Bool) (acl : List ℕ) → IsHeld IsAclOrNone held acl → IsAclOrNone acl
acl_sound true acl h = h
acl_sound false acl h = rw h (record { sound = refl; bytes = refl })

-- A record is one of its kind where it is well formed and its numbers fit their types.
pub record_parts : (width : Width) (rec : Rec) → is_well_formed rec ≡ true → fits_types rec ≡ true → fits_width width rec ≡ true → IsRecord width rec.meta.kind rec
record_parts width rec sound fits fitting =
    let guarded = and_parts (leb rec.meta.mode 4095 && leb (length rec.link) max_link && list_all is_path_byte rec.link && are_xattrs rec.xattrs) (is_acl_or_none rec.acl) sound in
    let named = and_parts (leb rec.meta.mode 4095 && leb (length rec.link) max_link && list_all is_path_byte rec.link) (are_xattrs rec.xattrs) guarded.0 in
    let outer = and_parts (leb rec.meta.mode 4095 && leb (length rec.link) max_link) (list_all is_path_byte rec.link) named.0 in
    let inner = and_parts (leb rec.meta.mode 4095) (leb (length rec.link) max_link) outer.0 in
    let held = and_parts (has_names width || not (record_needs Named rec)) (has_acls width || not (record_needs Guarded rec)) fitting in
    let acl = and_parts _ _ fits in
    let xattrs = and_parts _ _ acl.0 in
    let link = and_parts _ _ xattrs.0 in
    let ctime = and_parts _ _ link.0 in
    let mtime = and_parts _ _ ctime.0 in
    let atime = and_parts _ _ mtime.0 in
    let blocks = and_parts _ _ atime.0 in
    let blksize = and_parts _ _ blocks.0 in
    let size = and_parts _ _ blksize.0 in
    let gid = and_parts _ _ size.0 in
    let uid = and_parts _ _ gid.0 in
    let nlink = and_parts _ _ uid.0 in
    let mode = and_parts _ _ nlink.0 in
    record {
      meta = record {
        kind = refl;
        inode = ltb-true _ _ mode.0;
        mode = leb-true _ _ inner.0;
        nlink = ltb-true _ _ nlink.1;
        uid = ltb-true _ _ uid.1;
        gid = ltb-true _ _ gid.1;
        size = ltb-true _ _ size.1;
        blksize = ltb-true _ _ blksize.1;
        blocks = ltb-true _ _ blocks.1;
        atime = atime.1;
        mtime = mtime.1;
        ctime = ctime.1;
      };
      link = record { short = leb-true _ _ inner.1; sound = outer.1; bytes = link.1 };
      xattrs = held_from IsNames (has_names width) rec.xattrs (record { sound = named.1; bytes = xattrs.1 }) held.0;
      acl = held_from IsAclOrNone (has_acls width) rec.acl (record { sound = guarded.1; bytes = acl.1 }) held.1;
    }

pub record_sound : (width : Width) (kind : Kind) (rec : Rec) → IsRecord width kind rec → is_well_formed rec ≡ true
record_sound width kind rec h =
    and_from _ _ (and_from _ _ (and_from _ _ (and_from _ _ (le-leb rec.meta.mode 4095 h.meta.mode) (le-leb (length rec.link) max_link h.link.short)) h.link.sound) (names_sound (has_names width) rec.xattrs h.xattrs).sound)
    (acl_sound (has_acls width) rec.acl h.acl).sound

pub record_fits : (width : Width) (kind : Kind) (rec : Rec) → IsRecord width kind rec → fits_types rec ≡ true
record_fits width kind rec h =
    let m = h.meta in
    let mode : rec.meta.mode < 2 ^ 16 = omega (arith, m.mode) in
    and_from _ _
    (and_from _ _
    (and_from _ _
    (and_from _ _
    (and_from _ _
    (and_from _ _
    (and_from _ _
    (and_from _ _
    (and_from _ _
    (and_from _ _
    (and_from _ _
    (and_from _ _
    (and_from _ _ (lt-ltb _ _ m.inode) (lt-ltb _ _ mode))
    (lt-ltb _ _ m.nlink))
    (lt-ltb _ _ m.uid))
    (lt-ltb _ _ m.gid))
    (lt-ltb _ _ m.size))
    (lt-ltb _ _ m.blksize))
    (lt-ltb _ _ m.blocks))
    m.atime)
    m.mtime)
    m.ctime)
    h.link.bytes)
    (names_sound (has_names width) rec.xattrs h.xattrs).bytes)
    (acl_sound (has_acls width) rec.acl h.acl).bytes
