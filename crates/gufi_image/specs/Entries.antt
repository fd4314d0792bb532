-- The entries of a directory in an image.
use Rattle.std.specs.Prelude.{ℕ, Bool, true, not, ◌==◌, List, [], ◌∷◌, ◌++◌, Option, None, Result, Ok, ok_or, if◌then◌else◌}
use Rattle.std.specs.Int.{w8}
use Rattle.std.specs.Ordering.{nat_cmp, is_lt}
use Rattle.std.specs.Cmp.Lexicographic.{slice_cmp}
use Rattle.gufi_base.specs.declared.record.Kind.{Kind}
use Rattle.gufi_base.specs.declared.record.Kind.TheVariants.{Dir}
use Rattle.gufi_base.specs.Basics.{last_of, ◌>>=◌, ◌>>◌}
use Rattle.gufi_base.specs.Kinds.{kind_letter, kind_of_letter}
use Rattle.gufi_base.specs.Paths.{Components}
use Rattle.gufi_tree.specs.declared.tree.Entry.{Entry}
use Rattle.gufi_image.specs.declared.fault.Flaw.{Flaw}
use Rattle.gufi_image.specs.declared.fault.ImageKind.TheVariants as kinds
use Rattle.gufi_image.specs.declared.width.Width.{Width}
use Rattle.gufi_image.specs.Fields.{flaw, wrong, number_at, record_at}
use Rattle.gufi_image.specs.Names.{name_at}
use Rattle.gufi_image.specs.Repeated.{repeated}

-- the type of an entry, which is no directory
abbrev pub entry_kind : ℕ → Option Kind
entry_kind letter = if letter == kind_letter Dir then None else kind_of_letter letter

-- the name is above that of the last entry before
abbrev pub follows : List Entry → List ℕ → Bool
follows [] name = true
follows (entry ∷ entries) name = is_lt (slice_cmp nat_cmp (last_of entry entries).name name)

-- an entry of the directory at a path, behind those before it
unfoldable pub entry_at : Width → Components → List Entry → List ℕ → Result (Entry × List ℕ) Flaw
entry_at width path before bytes = do
  letter ← number_at w8 bytes
  kind ← ok_or (entry_kind letter.0) (flaw bytes kinds.Number)
  name ← name_at path letter.1
  wrong (not (follows before name.0)) bytes kinds.Order
  rec ← record_at width kind name.1
  Ok (record { name = name.0; rec = rec.0 }, rec.1)

abbrev pub one_entry : Width → Components → List Entry → List ℕ → Result (List Entry × List ℕ) Flaw
one_entry width path before bytes = entry_at width path before bytes >>= λ entry. Ok (before ++ entry.0 ∷ [], entry.1)

unfoldable pub entries_at : Width → ℕ → Components → List ℕ → Result (List Entry × List ℕ) Flaw
entries_at width count path bytes = repeated (one_entry width path) count [] bytes
