-- The stem and the base name of a path.
use Rattle.std.specs.Prelude.{◌≡◌, ℕ, List, [], ◌∷◌, ◌++◌, IsTrue, if◌then◌else◌}
use Rattle.std.specs.List.{list_all}
use Rattle.gufi_base.specs.Basics.{is_empty}
use Rattle.gufi_base.specs.Names.{is_name}
use Rattle.gufi_base.specs.Paths.{Components, base_name, stem}
use Rattle.gufi_base.specs.PathTexts.{names}

-- the path that a stem and a base name have
abbrev pub path_of_parts : List ℕ → List ℕ → Components
path_of_parts stem base = if is_empty stem then [] else names stem ++ base ∷ []

pub record ArePartsOf (front last : List ℕ) (path : Components) : Type 0 where
  pub names : IsTrue (list_all is_name path)
  pub stem : front ≡ stem path
  pub base : last ≡ base_name path
