-- How the program keeps a whole pattern.
use Rattle.std.specs.Prelude.{List, ◌∷◌, map}
use Rattle.gufi_glob.specs.declared.glob.Form.{Form}
use Rattle.gufi_glob.specs.declared.glob.Form.TheVariants as forms
use Rattle.gufi_glob.specs.Parts.{Part, any_text, only}
use Rattle.gufi_glob.specs.KeptParts.{parts_of}

-- the parts that are kept
abbrev pub parts_in : Form → List Part
parts_in (forms.Plain bytes) = map only bytes.items
parts_in (forms.Tail tail) = any_text ∷ map only tail.items
parts_in (forms.Parts kept) = parts_of kept.items
