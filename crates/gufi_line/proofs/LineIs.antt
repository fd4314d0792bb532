-- A line from its text is a line from its fields.
use Rattle.std.proofs.Common.{◌≡◌, ℕ, ◌+◌, Bool, true, false, not, ◌||◌, List, [], ◌∷◌, length, drop, refl, ap, ◌∙◌, arith}
use Rattle.std.specs.Prelude.{nat_lt, nat_le, if◌then◌else◌, Some, None, Result, Ok, Err, ok_or}
use Rattle.std.proofs.lemmas.Bool.{le-ltb}
use Rattle.gufi_base.specs.declared.record.Kind.{Kind}
use Rattle.gufi_base.specs.declared.record.Line.{Line}
use Rattle.gufi_base.specs.Limits.{max_dirs, max_entries}
use Rattle.gufi_base.specs.Basics.{split, part_at, ◌>>=◌, ◌>>◌, refuse}
use Rattle.gufi_base.specs.Paths.{Components, is_prefix}
use Rattle.gufi_base.specs.Kinds.{is_dir}
use Rattle.gufi_line.specs.declared.fault.TraceKind.{TraceKind}
use Rattle.gufi_line.specs.declared.fault.TraceKind.TheVariants.{Short, NotUnderRoot, WrongStanza, TooMany}
use Rattle.gufi_tree.specs.StanzaLines.{stanza_holds}
use Rattle.gufi_line.specs.LineText.{read_line_path, read_meta, read_line, is_in_stanza, too_many}
use Rattle.gufi_line.specs.AttributeField.{xattrs_of}
use Rattle.gufi_line.specs.AclField.{acl_field}
use Rattle.gufi_line.specs.Fields.{fields_of}
use Rattle.gufi_line.specs.Lines.{meta_in, dirs_of, entries_of, place_fault, unless_fault, below_root, line_in, line_of}

bind_same : {A B : Type 0} (r : Result A TraceKind) (f g : A → Result B TraceKind) → ((x : A) → f x ≡ g x) → (r >>= f) ≡ (r >>= g)
bind_same (Ok x) f g h = h x
bind_same (Err e) f g h = refl

placed : (line : Line) (d s m e : Bool)
    → (refuse (not (d || s)) WrongStanza >> ((if d then refuse m (TooMany max_dirs) else refuse e (TooMany max_entries)) >> Ok line))
    ≡ unless_fault (if d then (if m then Some (TooMany max_dirs) else None) else if s then (if e then Some (TooMany max_entries) else None) else Some WrongStanza) line
placed line true s true e = refl
placed line true s false e = refl
placed line false true m true = refl
placed line false true m false = refl
placed line false false m e = refl

place_is : (earlier : List Line) (kind : Kind) (path : Components) (line : Line)
    → (refuse (not (is_in_stanza earlier kind path)) WrongStanza >> (too_many earlier kind >> Ok line)) ≡ unless_fault (place_fault earlier kind path) line
unfolding place_fault
place_is earlier kind path line = placed line (is_dir kind) (stanza_holds earlier path) (nat_le max_dirs (dirs_of earlier)) (nat_le max_entries (entries_of earlier))

below_is : {B : Type 0} (root path : Components) (f : Components → Result B TraceKind) (next : Result B TraceKind) → next ≡ f (drop (length root) path)
    → (refuse (not (is_prefix root path)) NotUnderRoot >> next) ≡ (below_root root path >>= f)
below_is root path f next h = by (is_prefix root path)
  where
    by : (b : Bool) → (refuse (not b) NotUnderRoot >> next) ≡ ((if b then Ok (drop (length root) path) else Err NotUnderRoot) >>= f)
    by true = h
    by false = refl

-- what follows the count of the fields
behind_short : Components → List Line → List (List ℕ) → Result Line TraceKind
behind_short root earlier fields = do
  path ← read_line_path fields
  meta ← read_meta fields
  xattrs ← xattrs_of (part_at fields 15)
  acl ← acl_field (part_at fields 16)
  refuse (not (is_prefix root path)) NotUnderRoot
  refuse (not (is_in_stanza earlier meta.kind (drop (length root) path))) WrongStanza
  too_many earlier meta.kind
  Ok (record { number = length earlier + 1; path = drop (length root) path; rec = record { meta = meta; link = part_at fields 14; xattrs = xattrs; acl = acl } })

from_fields : (root : Components) (earlier : List Line) (fields : List (List ℕ))
    → (refuse (nat_lt (length fields) 14) Short >> behind_short root earlier fields) ≡ (ok_or (fields_of fields) Short >>= line_in root earlier)
unfolding behind_short fields_of line_in meta_in read_line_path read_meta
from_fields root earlier [] = refl
from_fields root earlier (a ∷ []) = refl
from_fields root earlier (a ∷ b ∷ []) = refl
from_fields root earlier (a ∷ b ∷ c ∷ []) = refl
from_fields root earlier (a ∷ b ∷ c ∷ d ∷ []) = refl
from_fields root earlier (a ∷ b ∷ c ∷ d ∷ e ∷ []) = refl
from_fields root earlier (a ∷ b ∷ c ∷ d ∷ e ∷ f ∷ []) = refl
from_fields root earlier (a ∷ b ∷ c ∷ d ∷ e ∷ f ∷ g ∷ []) = refl
from_fields root earlier (a ∷ b ∷ c ∷ d ∷ e ∷ f ∷ g ∷ h ∷ []) = refl
from_fields root earlier (a ∷ b ∷ c ∷ d ∷ e ∷ f ∷ g ∷ h ∷ i ∷ []) = refl
from_fields root earlier (a ∷ b ∷ c ∷ d ∷ e ∷ f ∷ g ∷ h ∷ i ∷ j ∷ []) = refl
from_fields root earlier (a ∷ b ∷ c ∷ d ∷ e ∷ f ∷ g ∷ h ∷ i ∷ j ∷ k ∷ []) = refl
from_fields root earlier (a ∷ b ∷ c ∷ d ∷ e ∷ f ∷ g ∷ h ∷ i ∷ j ∷ k ∷ l ∷ []) = refl
from_fields root earlier (a ∷ b ∷ c ∷ d ∷ e ∷ f ∷ g ∷ h ∷ i ∷ j ∷ k ∷ l ∷ m ∷ []) = refl
from_fields root earlier (a ∷ b ∷ c ∷ d ∷ e ∷ f ∷ g ∷ h ∷ i ∷ j ∷ k ∷ l ∷ m ∷ n ∷ more) =
    let fields : List (List ℕ) = a ∷ b ∷ c ∷ d ∷ e ∷ f ∷ g ∷ h ∷ i ∷ j ∷ k ∷ l ∷ m ∷ n ∷ more in
    ap (λ t. refuse t Short >> behind_short root earlier fields) (le-ltb (length fields) 14 (omega arith))
    ∙ bind_same (read_line_path fields) _ _ (λ path. bind_same (read_meta fields) _ _ (λ meta. bind_same (xattrs_of (part_at fields 15)) _ _ (λ xattrs. bind_same (acl_field (part_at fields 16)) _ _ (λ acl. below_is root path _ _ (place_is earlier meta.kind (drop (length root) path) (record { number = length earlier + 1; path = drop (length root) path; rec = record { meta = meta; link = n; xattrs = xattrs; acl = acl } }))))))

pub line_is : (delim : ℕ) (root : Components) (earlier : List Line) (text : List ℕ) → read_line delim root earlier text ≡ line_of delim root earlier text
unfolding read_line behind_short
line_is delim root earlier text = from_fields root earlier (split delim text)
