-- The names in an image.
use Rattle.std.specs.Prelude.{ℕ, ◌||◌, not, List, [], ◌∷◌, ◌++◌, Result, Ok}
use Rattle.std.specs.Int.{w8}
use Rattle.gufi_base.specs.Basics.{◌>>=◌, ◌>>◌}
use Rattle.gufi_base.specs.Names.{is_name}
use Rattle.gufi_base.specs.Paths.{Components, is_too_long}
use Rattle.gufi_image.specs.declared.fault.ImageKind.TheVariants as kinds
use Rattle.gufi_image.specs.declared.fault.Flaw.{Flaw}
use Rattle.gufi_image.specs.Fields.{wrong, bytes_at, number_at}

-- a name below a directory, behind its length
unfoldable pub name_at : Components → List ℕ → Result (List ℕ × List ℕ) Flaw
name_at above bytes = do
  count ← number_at w8 bytes
  name ← bytes_at count.0 count.1
  wrong (not (is_name name.0) || is_too_long (above ++ name.0 ∷ [])) bytes kinds.Name
  Ok name
