-- The values of a row: their bytes are bytes, and their numbers fit 64 bits.
use Rattle.std.proofs.Common.{◌≡◌, ℕ, ℤ, pos, negsuc, ◌^◌, ◌<◌, true, [], ◌∷◌, length, refl, ◌∙◌, arith}
use Rattle.std.specs.Prelude.{nat_lt, not}
use Rattle.std.specs.List.{list_all}
use Rattle.std.proofs.lemmas.Bool.{and_parts, and_from, ltb-true, ltb-false, not-true, or_parts}
use Rattle.std.proofs.lemmas.Bool.Decides.{nat_tests}
use Rattle.std.proofs.lemmas.List.Folds.{list_all-append}
use Rattle.gufi_base.specs.declared.record.Kind as kind
use Rattle.gufi_base.specs.declared.record.Kind.TheVariants as kinds
use Rattle.gufi_base.specs.declared.record.Rec.{Rec}
use Rattle.gufi_base.specs.declared.record.Row.{Row}
use Rattle.gufi_base.specs.Kinds.{kind_letter}
use Rattle.gufi_base.specs.Paths.{Components, base_name, path_text, slashed_text, is_too_long}
use Rattle.gufi_base.specs.Rows.{are_bytes, depth_below, fits_i64, fits_types, row_fits_types}
use Rattle.gufi_select.specs.declared.column.Column.{Column}
use Rattle.gufi_select.specs.declared.column.Column.TheVariants.{Path, Name, Kind, Inode, Mode, Nlink, Uid, Gid, Size, Blksize, Blocks, Atime, Mtime, Ctime, Linkname, Xattrs, Level}
use Rattle.gufi_select.specs.declared.condition.Value.{Value}
use Rattle.gufi_select.specs.declared.condition.Value.TheVariants.{Text, Number}
use Rattle.gufi_select.specs.Columns.{value_at}
use Rattle.gufi_forms.specs.Forms.{is_held}
use Rattle.gufi_forms.proofs.Numbers.{IsSmall}

abbrev pub IsSound : Value → Type 0
IsSound (Text bytes) = are_bytes bytes ≡ true
IsSound (Number n) = IsSmall n

record Fits (rec : Rec) : Type 0 where
  inode : rec.meta.inode < 2 ^ 64
  mode : rec.meta.mode < 2 ^ 16
  nlink : rec.meta.nlink < 2 ^ 64
  uid : rec.meta.uid < 2 ^ 32
  gid : rec.meta.gid < 2 ^ 32
  size : rec.meta.size < 2 ^ 64
  blksize : rec.meta.blksize < 2 ^ 64
  blocks : rec.meta.blocks < 2 ^ 64
  atime : fits_i64 rec.meta.atime ≡ true
  mtime : fits_i64 rec.meta.mtime ≡ true
  ctime : fits_i64 rec.meta.ctime ≡ true
  link : are_bytes rec.link ≡ true
  xattrs : are_bytes rec.xattrs ≡ true

fitting : (rec : Rec) → fits_types rec ≡ true → Fits rec
fitting rec fits =
    let acl = and_parts _ _ fits in
    let xattrs = and_parts _ _ acl.0 in
    let link = and_parts _ _ xattrs.0 in
    let ctime = and_parts _ _ link.0 in
    let mtime = and_parts _ _ ctime.0 in
    let atime = and_parts _ _ mtime.0 in
    let blocks = and_parts _ _ atime.0 in
    let blksize = and_parts _ _ blocks.0 in
    let size = and_parts _ _ blksize.0 in
    let gid = and_parts _ _ size.0 in
    let uid = and_parts _ _ gid.0 in
    let nlink = and_parts _ _ uid.0 in
    let mode = and_parts _ _ nlink.0 in
    record {
      inode = ltb-true _ _ mode.0;
      mode = ltb-true _ _ mode.1;
      nlink = ltb-true _ _ nlink.1;
      uid = ltb-true _ _ uid.1;
      gid = ltb-true _ _ gid.1;
      size = ltb-true _ _ size.1;
      blksize = ltb-true _ _ blksize.1;
      blocks = ltb-true _ _ blocks.1;
      atime = atime.1;
      mtime = mtime.1;
      ctime = ctime.1;
      link = link.1;
      xattrs = xattrs.1;
    }

small_time : (z : ℤ) → fits_i64 z ≡ true → IsSmall z
small_time (pos n) fits = grind (arith, nat_tests)
small_time (negsuc n) fits = grind (arith, nat_tests)

slashed_bytes : (path : Components) → list_all are_bytes path ≡ true → are_bytes (slashed_text path) ≡ true
slashed_bytes [] each = refl
slashed_bytes (name ∷ path) each =
    let both = and_parts (are_bytes name) (list_all are_bytes path) each in
    list_all-append (λ b. nat_lt b 256) (47 ∷ name) (slashed_text path) ∙ and_from _ _ both.0 (slashed_bytes path both.1)

path_bytes : (path : Components) → list_all are_bytes path ≡ true → are_bytes (path_text path) ≡ true
path_bytes [] each = refl
path_bytes (name ∷ path) each = slashed_bytes (name ∷ path) each

base_bytes : (path : Components) → list_all are_bytes path ≡ true → are_bytes (base_name path) ≡ true
base_bytes [] each = refl
base_bytes (name ∷ []) each = (and_parts (are_bytes name) true each).0
base_bytes (name ∷ next ∷ path) each = base_bytes (next ∷ path) (and_parts (are_bytes name) (list_all are_bytes (next ∷ path)) each).1

letter_bytes : (k : kind.Kind) → are_bytes (kind_letter k ∷ []) ≡ true
letter_bytes kinds.Block = refl
letter_bytes kinds.Char = refl
letter_bytes kinds.Dir = refl
letter_bytes kinds.Link = refl
letter_bytes kinds.Fifo = refl
letter_bytes kinds.File = refl
letter_bytes kinds.Socket = refl

pub value_sound : (row : Row) (depth : ℕ) → row_fits_types row ≡ true → depth < 2 ^ 64 → (column : Column) → IsSound (value_at column row depth)
value_sound row depth fits small column =
    let both = and_parts (list_all are_bytes row.path) (fits_types row.rec) fits in
    let rec = fitting row.rec both.1 in
    elim column as (λ c. IsSound (value_at c row depth)) [
      | Path ↦ path_bytes row.path both.0
      | Name ↦ base_bytes row.path both.0
      | Kind ↦ letter_bytes row.rec.meta.kind
      | Inode ↦ rec.inode
      | Mode ↦ omega (arith, rec.mode)
      | Nlink ↦ rec.nlink
      | Uid ↦ omega (arith, rec.uid)
      | Gid ↦ omega (arith, rec.gid)
      | Size ↦ rec.size
      | Blksize ↦ rec.blksize
      | Blocks ↦ rec.blocks
      | Atime ↦ small_time row.rec.meta.atime rec.atime
      | Mtime ↦ small_time row.rec.meta.mtime rec.mtime
      | Ctime ↦ small_time row.rec.meta.ctime rec.ctime
      | Linkname ↦ rec.link
      | Xattrs ↦ rec.xattrs
      | Level ↦ small
    ]

pub held_fits : (row : Row) → is_held row ≡ true → row_fits_types row ≡ true
held_fits row held = (and_parts (row_fits_types row) (not (is_too_long row.path)) held).0

pub held_depth : (above : ℕ) (row : Row) → is_held row ≡ true → depth_below above row < 2 ^ 64
held_depth above row held =
    let short = not-true (is_too_long row.path) (and_parts (row_fits_types row) (not (is_too_long row.path)) held).1 in
    let few = ltb-false 256 (length row.path) (or_parts (nat_lt 256 (length row.path)) _ short).0 in
    omega (arith, few)
