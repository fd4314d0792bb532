-- A row that is written as a line is read again.
use Rattle.std.proofs.Common.{◌≡◌, ℕ, ◌+◌, ◌^◌, ◌<◌, ◌≤◌, true, false, ◌&&◌, ◌||◌, leb, List, [], ◌∷◌, ◌++◌, length, refl, ap, ◌∙◌, arith}
use Rattle.std.specs.Prelude.{Some, None, Ok, ok_or, decimal}
use Rattle.std.specs.Fmt.{signed_decimal}
use Rattle.std.specs.List.{list_all, list_any, join_with_byte}
use Rattle.std.proofs.lemmas.Bool.{and_parts, and_from, or_parts, leb-true, ltb-true, le-ltb, cond-true}
use Rattle.std.proofs.lemmas.Slice.Eq.{bytes_eq-Decides}
use Rattle.std.proofs.Math.Seq.{drop-append_seam}
use Rattle.std.proofs.Math.Nat.{mod-eq_of_lt}
use Rattle.gufi_base.specs.declared.record.Kind.{Kind}
use Rattle.gufi_base.specs.declared.record.Kind.TheVariants.{Block, Char, Dir, Link, Fifo, File, Socket}
use Rattle.gufi_base.specs.declared.record.Meta.{Meta}
use Rattle.gufi_base.specs.declared.record.Rec.{Rec}
use Rattle.gufi_base.specs.declared.record.Row.{Row}
use Rattle.gufi_base.specs.declared.record.Line.{Line}
use Rattle.gufi_base.specs.Basics.{◌>>=◌, part_at}
use Rattle.gufi_base.specs.Limits.{max_link}
use Rattle.gufi_base.specs.Names.{is_path_byte, is_name}
use Rattle.gufi_base.specs.Paths.{Components, read_path, path_text, is_prefix, is_too_long}
use Rattle.gufi_base.specs.Kinds.{kind_letter, read_kind}
use Rattle.gufi_base.specs.Rows.{are_bytes, fits_i64, fits_types}
use Rattle.gufi_access.specs.Acl.{is_acl_or_none}
use Rattle.gufi_acl.specs.AclTexts.{acl_text}
use Rattle.gufi_acl.proofs.Plain.{acl_texts_are_plain}
use Rattle.gufi_tree.specs.Tree.{is_well_formed}
use Rattle.gufi_line.specs.TraceRows.{names_text, row_fields, extra_fields}
use Rattle.gufi_base.specs.Xattrs.{mark, are_xattrs}
use Rattle.gufi_base.specs.Delimiters.{may_delimit}
use Rattle.gufi_line.specs.declared.fault.TraceKind.TheVariants.{Short}
use Rattle.gufi_line.specs.LineText.{read_line}
use Rattle.gufi_line.specs.TraceRows.{holds_byte, rec_holds}
use Rattle.gufi_line.specs.AttributeField.{xattrs_of}
use Rattle.gufi_line.specs.AclField.{acl_field}
use Rattle.gufi_line.specs.Fields.{Texts, fields_of}
use Rattle.gufi_line.specs.Lines.{path_with_link, meta_in, place_fault, below_root, line_in}
use Rattle.gufi_line.proofs.LineIs.{line_is}
use Rattle.gufi_line.proofs.FieldsBack.{is_plain, IsField, AreFields, plain_field, field_append, split_joined}
use Rattle.gufi_line.proofs.AclFields.{names_back, acl_back}
use Rattle.gufi_line.proofs.NumbersBack.{read_below-decimal, read_i64-signed_decimal, decimal_plain, signed_plain}
use Rattle.gufi_line.proofs.PathsBack.{read_path-path_text, path_field, absent, no_newline, no_zero}

-- a row that is written so that it can be read
pub record IsWritable (root : Components) (delim : ℕ) (row : Row) : Type 0 where
  pub named : list_all is_name (root ++ row.path) ≡ true
  pub apart : list_any (holds_byte delim) (root ++ row.path) ≡ false
  pub short : is_too_long (root ++ row.path) ≡ false
  pub rec_apart : rec_holds delim row.rec ≡ false
  pub sound : is_well_formed row.rec ≡ true
  pub fits : fits_types row.rec ≡ true

record Bounds (m : Meta) : Type 0 where
  inode : m.inode < 2 ^ 64
  mode : m.mode < 2 ^ 16
  nlink : m.nlink < 2 ^ 64
  uid : m.uid < 2 ^ 32
  gid : m.gid < 2 ^ 32
  size : m.size < 2 ^ 64
  blksize : m.blksize < 2 ^ 64
  blocks : m.blocks < 2 ^ 64
  atime : fits_i64 m.atime ≡ true
  mtime : fits_i64 m.mtime ≡ true
  ctime : fits_i64 m.ctime ≡ true

bounds : (rec : Rec) → fits_types rec ≡ true → Bounds rec.meta
bounds rec h =
    let y = and_parts _ _ h in
    let x = and_parts _ _ y.0 in
    let l = and_parts _ _ x.0 in
    let c = and_parts _ _ l.0 in
    let m = and_parts _ _ c.0 in
    let a = and_parts _ _ m.0 in
    let blocks = and_parts _ _ a.0 in
    let blksize = and_parts _ _ blocks.0 in
    let size = and_parts _ _ blksize.0 in
    let gid = and_parts _ _ size.0 in
    let uid = and_parts _ _ gid.0 in
    let nlink = and_parts _ _ uid.0 in
    let mode = and_parts _ _ nlink.0 in
    record {
      inode = ltb-true _ _ mode.0;
      mode = ltb-true _ _ mode.1;
      nlink = ltb-true _ _ nlink.1;
      uid = ltb-true _ _ uid.1;
      gid = ltb-true _ _ gid.1;
      size = ltb-true _ _ size.1;
      blksize = ltb-true _ _ blksize.1;
      blocks = ltb-true _ _ blocks.1;
      atime = a.1;
      mtime = m.1;
      ctime = c.1;
    }

record Sound (rec : Rec) : Type 0 where
  mode : rec.meta.mode ≤ 4095
  short : length rec.link ≤ max_link
  bytes : list_all is_path_byte rec.link ≡ true
  names : are_xattrs rec.xattrs ≡ true
  list : is_acl_or_none rec.acl ≡ true

sound_parts : (rec : Rec) → is_well_formed rec ≡ true → Sound rec
sound_parts rec h =
    let all = and_parts (leb rec.meta.mode 4095 && leb (length rec.link) max_link && list_all is_path_byte rec.link && are_xattrs rec.xattrs) (is_acl_or_none rec.acl) h in
    let whole = and_parts (leb rec.meta.mode 4095 && leb (length rec.link) max_link && list_all is_path_byte rec.link) (are_xattrs rec.xattrs) all.0 in
    let outer = and_parts (leb rec.meta.mode 4095 && leb (length rec.link) max_link) (list_all is_path_byte rec.link) whole.0 in
    let inner = and_parts (leb rec.meta.mode 4095) (leb (length rec.link) max_link) outer.0 in
    record { mode = leb-true _ _ inner.0; short = leb-true _ _ inner.1; bytes = outer.1; names = whole.1; list = all.1 }

letter_plain : (kind : Kind) → list_all is_plain (kind_letter kind ∷ []) ≡ true
letter_plain Block = refl
letter_plain Char = refl
letter_plain Dir = refl
letter_plain Link = refl
letter_plain Fifo = refl
letter_plain File = refl
letter_plain Socket = refl

read_kind-letter : (kind : Kind) → read_kind (kind_letter kind ∷ []) ≡ Some kind
read_kind-letter Block = refl
read_kind-letter Char = refl
read_kind-letter Dir = refl
read_kind-letter Link = refl
read_kind-letter Fifo = refl
read_kind-letter File = refl
read_kind-letter Socket = refl

names_field : (delim : ℕ) (names : List ℕ) → may_delimit delim ≡ true → holds_byte delim names ≡ false → are_xattrs names ≡ true → IsField delim (names_text names)
names_field delim [] may apart sound = record { apart = refl; line = refl }
names_field delim (b ∷ names) may apart sound =
    let bytes = (and_parts _ _ (and_parts _ _ sound).0).1 in
    field_append delim mark (b ∷ names) (plain_field delim may mark refl) (record { apart = absent delim (b ∷ names) apart; line = no_newline (b ∷ names) bytes })

list_field : (delim : ℕ) (acl : List ℕ) → holds_byte delim (acl_text acl) ≡ false → IsField delim (acl_text acl)
list_field delim acl apart = let text = acl_texts_are_plain acl in record { apart = absent delim (acl_text acl) apart; line = no_newline (acl_text acl) text.plain }

extras_are_fields : (delim : ℕ) (names acl : List ℕ) → may_delimit delim ≡ true → holds_byte delim names ≡ false → holds_byte delim (acl_text acl) ≡ false → are_xattrs names ≡ true → AreFields delim (extra_fields names acl)
unfolding AreFields
extras_are_fields delim [] [] may apart list_apart sound = tt
extras_are_fields delim (b ∷ names) [] may apart list_apart sound = (names_field delim (b ∷ names) may apart sound, tt)
extras_are_fields delim names (a ∷ acl) may apart list_apart sound = (names_field delim names may apart sound, (list_field delim (a ∷ acl) list_apart, tt))

pub are_fields : (root : Components) (delim : ℕ) (row : Row) → may_delimit delim ≡ true → IsWritable root delim row → AreFields delim (row_fields root row)
unfolding AreFields
are_fields root delim row may h =
    let b = bounds row.rec h.fits in
    let plain = plain_field delim may in
    let number : (n : ℕ) → n < 2 ^ 64 → IsField delim (decimal n) = λ n small. plain (decimal n) (decimal_plain n small) in
    let m = row.rec.meta in
    let s = sound_parts row.rec h.sound in
    let both = or_parts (holds_byte delim row.rec.link || holds_byte delim row.rec.xattrs) (holds_byte delim (acl_text row.rec.acl)) h.rec_apart in
    let apart = or_parts (holds_byte delim row.rec.link) (holds_byte delim row.rec.xattrs) both.0 in
    let link : IsField delim row.rec.link = record { apart = absent delim row.rec.link apart.0; line = no_newline row.rec.link s.bytes } in (
      path_field delim may (root ++ row.path) h.named h.apart,
      (
        plain (kind_letter m.kind ∷ []) (letter_plain m.kind),
        (
          number m.inode b.inode,
          (
            number m.mode (let s = b.mode in omega arith),
            (
              number m.nlink b.nlink,
              (
                number m.uid (let s = b.uid in omega arith),
                (
                  number m.gid (let s = b.gid in omega arith),
                  (
                    number m.size b.size,
                    (
                      number m.blksize b.blksize,
                      (
                        number m.blocks b.blocks,
                        (
                          plain (signed_decimal m.atime) (signed_plain m.atime b.atime),
                          (
                            plain (signed_decimal m.mtime) (signed_plain m.mtime b.mtime),
                            (
                              plain (signed_decimal m.ctime) (signed_plain m.ctime b.ctime),
                              (link, extras_are_fields delim row.rec.xattrs row.rec.acl may apart.1 both.1 s.names),
                            ),
                          ),
                        ),
                      ),
                    ),
                  ),
                ),
              ),
            ),
          ),
        ),
      ),
    )

abbrev row_texts : Components → Row → Texts
row_texts root row =
    let m = row.rec.meta in record {
      path = path_text (root ++ row.path);
      kind = kind_letter m.kind ∷ [];
      inode = decimal m.inode;
      mode = decimal m.mode;
      nlink = decimal m.nlink;
      uid = decimal m.uid;
      gid = decimal m.gid;
      size = decimal m.size;
      blksize = decimal m.blksize;
      blocks = decimal m.blocks;
      atime = signed_decimal m.atime;
      mtime = signed_decimal m.mtime;
      ctime = signed_decimal m.ctime;
      link = row.rec.link;
      xattrs = part_at (extra_fields row.rec.xattrs row.rec.acl) 1;
      acl = part_at (extra_fields row.rec.xattrs row.rec.acl) 2;
    }

path_back : (root : Components) (delim : ℕ) (row : Row) → IsWritable root delim row → path_with_link (read_path (path_text (root ++ row.path))) row.rec.link ≡ Ok (root ++ row.path)
path_back root delim row h =
    let s = sound_parts row.rec h.sound in
    rw (read_path-path_text (root ++ row.path) h.named h.short, no_zero row.rec.link s.bytes, le-ltb max_link (length row.rec.link) s.short) refl

meta_back : (root : Components) (row : Row) → is_well_formed row.rec ≡ true → fits_types row.rec ≡ true → meta_in (row_texts root row) ≡ Ok row.rec.meta
unfolding meta_in
meta_back root row sound fits =
    let b = bounds row.rec fits in
    let s = sound_parts row.rec sound in
    let m = row.rec.meta in
    let small : m.mode < 4096 = omega (arith, s.mode) in
    rw (
      read_kind-letter m.kind,
      read_below-decimal (2 ^ 64) m.inode b.inode b.inode,
      read_below-decimal (2 ^ 32) m.mode (omega arith) (omega arith),
      read_below-decimal (2 ^ 64) m.nlink b.nlink b.nlink,
      read_below-decimal (2 ^ 32) m.uid b.uid (let u = b.uid in omega arith),
      read_below-decimal (2 ^ 32) m.gid b.gid (let u = b.gid in omega arith),
      read_below-decimal (2 ^ 64) m.size b.size b.size,
      read_below-decimal (2 ^ 64) m.blksize b.blksize b.blksize,
      read_below-decimal (2 ^ 64) m.blocks b.blocks b.blocks,
      read_i64-signed_decimal m.atime b.atime,
      read_i64-signed_decimal m.mtime b.mtime,
      read_i64-signed_decimal m.ctime b.ctime,
      mod-eq_of_lt small,
    ) refl

prefix_append : (root path : Components) → is_prefix root (root ++ path) ≡ true
prefix_append [] path = refl
prefix_append (name ∷ root) path = and_from _ _ ((bytes_eq-Decides name name).1 refl) (prefix_append root path)

below_back : (root path : Components) → below_root root (root ++ path) ≡ Ok path
below_back root path = cond-true (is_prefix root (root ++ path)) _ _ (prefix_append root path) ∙ ap (λ (p : Components). Ok p) (drop-append_seam root path)

abbrev pub line_at : List Line → Row → Line
line_at earlier row = record { number = length earlier + 1; path = row.path; rec = row.rec }

line_from : (root : Components) (earlier : List Line) (f : Texts) (path full : Components) (meta : Meta) (names acl : List ℕ) → path_with_link (read_path f.path) f.link ≡ Ok full → meta_in f ≡ Ok meta → xattrs_of f.xattrs ≡ Ok names → acl_field f.acl ≡ Ok acl → below_root root full ≡ Ok path → place_fault earlier meta.kind path ≡ None
    → line_in root earlier f ≡ Ok (record { number = length earlier + 1; path = path; rec = record { meta = meta; link = f.link; xattrs = names; acl = acl } })
unfolding line_in
line_from root earlier f path full meta names acl a b c g d e = rw (a, b, c, g, d, e) refl

pub line_back : (root : Components) (delim : ℕ) (earlier : List Line) (row : Row) → may_delimit delim ≡ true → IsWritable root delim row → place_fault earlier row.rec.meta.kind row.path ≡ None
    → read_line delim root earlier (join_with_byte delim (row_fields root row)) ≡ Ok (line_at earlier row)
unfolding fields_of
line_back root delim earlier row may h placed =
    line_is delim root earlier (join_with_byte delim (row_fields root row))
    ∙ ap (λ (parts : List (List ℕ)). ok_or (fields_of parts) Short >>= line_in root earlier) (split_joined delim _ _ (are_fields root delim row may h))
    ∙ line_from root earlier (row_texts root row) row.path (root ++ row.path) row.rec.meta row.rec.xattrs row.rec.acl (path_back root delim row h) (meta_back root row h.sound h.fits) (names_back row.rec.xattrs row.rec.acl (sound_parts row.rec h.sound).names) (acl_back row.rec.xattrs row.rec.acl (sound_parts row.rec h.sound).list (and_parts _ (are_bytes row.rec.acl) h.fits).1) (below_back root row.path) placed
