-- What a quick reader takes of a line that is sound.
use Rattle.std.specs.Prelude.{◌≡◌, ℕ, ◌+◌, ◌^◌, ◌<◌, ◌≤◌, ◌==◌, Bool, true, false, List, ◌∷◌, ◌++◌, length, take, drop, Option, Some, None, Ok, IsTrue}
use Rattle.std.specs.List.{list_any}
use Rattle.std.specs.Str.Parse.{digits_value}
use Rattle.gufi_base.specs.declared.record.Kind.{Kind}
use Rattle.gufi_base.specs.declared.record.Meta.{Meta}
use Rattle.gufi_base.specs.declared.record.Line.{Line}
use Rattle.gufi_base.specs.Limits.{max_link}
use Rattle.gufi_base.specs.Basics.{split, part_at}
use Rattle.gufi_base.specs.Numbers.{is_numeral}
use Rattle.gufi_base.specs.Kinds.{read_kind}
use Rattle.gufi_base.specs.Paths.{Components, read_path}
use Rattle.gufi_line.specs.declared.quick.Content.{Content}
use Rattle.gufi_line.specs.AttributeField.{xattrs_of}
use Rattle.gufi_line.specs.AclField.{acl_field}
use Rattle.gufi_line.specs.Fields.{Texts, fields_of}
use Rattle.gufi_line.specs.Lines.{meta_in, place_fault, line_of}

-- the first part of a text is one byte that names a type
pub record KindBefore (delim : ℕ) (text : List ℕ) (kind : Kind) : Type 0 where
  pub reads : read_kind (take 1 text) ≡ Some kind
  pub first : split delim text ≡ take 1 text ∷ split delim (drop (1 + 1) text)
  pub within : 1 < length text

-- the first of the parts is a number of few digits, and the others are left
pub record TakesNumber (old new : List (List ℕ)) (n : ℕ) : Type 0 where
  pub field : List ℕ
  pub is : old ≡ field ∷ new
  pub numeral : IsTrue (is_numeral 10 field)
  pub value : n ≡ digits_value 10 field
  pub small : n < 10 ^ 18

-- the first of the parts is read so, and the others are left
pub record Takes (A : Type 0) (read : List ℕ → Option A) (old new : List (List ℕ)) (x : A) : Type 0 where
  pub field : List ℕ
  pub is : old ≡ field ∷ new
  pub reads : read field ≡ Some x

-- fields 2 to 13 are the first parts, and the others are left
pub record TakesMeta (old new : List (List ℕ)) (meta : Meta) : Type 0 where
  pub f : Texts
  pub is : old ≡ f.kind ∷ f.inode ∷ f.mode ∷ f.nlink ∷ f.uid ∷ f.gid ∷ f.size ∷ f.blksize ∷ f.blocks ∷ f.atime ∷ f.mtime ∷ f.ctime ∷ new
  pub reads : meta_in f ≡ Ok meta

-- the link and what stands behind it are put into content, and the rest of it stays
pub record TakesEnd (parts : List (List ℕ)) (old new : Content) : Type 0 where
  pub behind : List (List ℕ)
  pub link : parts ≡ new.link.now ∷ behind
  pub no_zero : list_any (λ b. b == 0) new.link.now ≡ false
  pub short : length new.link.now ≤ max_link
  pub xattrs : xattrs_of (part_at behind 1) ≡ Ok new.xattrs.now
  pub acl : part_at behind 2 ≡ new.acl.now
  pub path : new.path.now ≡ old.path.now
  pub meta : new.meta ≡ old.meta

-- the fields of a line whose parts these are, with a sound link and sound names of extended attributes, and what may hold a list
pub record TakesContent (parts : List (List ℕ)) (content : Content) : Type 0 where
  pub f : Texts
  pub fields : fields_of parts ≡ Some f
  pub path : f.path ≡ content.path.now
  pub link : f.link ≡ content.link.now
  pub meta : meta_in f ≡ Ok content.meta
  pub no_zero : list_any (λ b. b == 0) content.link.now ≡ false
  pub short : length content.link.now ≤ max_link
  pub xattrs : xattrs_of f.xattrs ≡ Ok content.xattrs.now
  pub acl : f.acl ≡ content.acl.now

-- bytes that spell a path below the root, which stands at its place
pub record IsPlaced (root : Components) (earlier : List Line) (kind : Kind) (bytes : List ℕ) (path : Components) : Type 0 where
  pub reads : read_path bytes ≡ Ok (root ++ path)
  pub place : place_fault earlier kind path ≡ None

-- the line that such content and a list make behind others, at a path
abbrev pub line_with : List Line → Content → List ℕ → Components → Line
line_with earlier content acl path =
    record { number = length earlier + 1; path = path; rec = record { meta = content.meta; link = content.link.now; xattrs = content.xattrs.now; acl = acl } }

-- whether content was taken: then its line has come to the others, at its place; else they are as they were
abbrev pub Adds : Bool → Components → Content → List ℕ → List Line → List Line → Type 0
Adds true root content acl old new = (path : Components) × IsPlaced root old content.meta.kind content.path.now path × (new ≡ line_with old content acl path ∷ old)
Adds false root content acl old new = new ≡ old

-- the same with the list that the content's own field holds
abbrev pub AddsListed : Bool → Components → Content → List Line → List Line → Type 0
AddsListed true root content old new = (acl : List ℕ) × (acl_field content.acl.now ≡ Ok acl) × Adds true root content acl old new
AddsListed false root content old new = new ≡ old

-- a line that is sound behind others
pub record IsSoundBehind (delim : ℕ) (root : Components) (earlier : List Line) (text : List ℕ) (line : Line) : Type 0 where
  pub reads : line_of delim root earlier text ≡ Ok line
  pub behind : 0 < length earlier

-- the same of a text's line
abbrev pub AddsNext : Bool → ℕ → Components → List ℕ → List Line → List Line → Type 0
AddsNext true delim root text old new = (line : Line) × IsSoundBehind delim root old text line × (new ≡ line ∷ old)
AddsNext false delim root text old new = new ≡ old
