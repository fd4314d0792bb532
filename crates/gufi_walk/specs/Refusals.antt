-- Refusals in words.
use Rattle.std.specs.Prelude.{ℕ, List, [], ◌++◌, codes, decimal}
use Rattle.gufi_access.specs.declared.class.Class.{Class}
use Rattle.gufi_access.specs.declared.class.Class.TheVariants.{Owner, Group, Other}
use Rattle.gufi_walk.specs.declared.refusal.Refusal.{Refusal}
use Rattle.gufi_walk.specs.declared.refusal.Refusal.TheVariants as refusals

-- the class that decides
abbrev pub class_text : Class → List ℕ
class_text Owner = codes "owner"
class_text Group = codes "group"
class_text Other = codes "other"

-- Want of memory is told elsewhere.
abbrev pub refusal_text : Refusal → List ℕ
refusal_text (refusals.Denied depth class) = codes "denied at depth " ++ decimal depth ++ codes " class " ++ class_text class
refusal_text (refusals.NoSuch depth) = codes "no such at depth " ++ decimal depth
refusal_text (refusals.NotDir depth) = codes "not a directory at depth " ++ decimal depth
refusal_text refusals.Memory = []
