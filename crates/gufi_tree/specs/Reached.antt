-- How far a walk along the text of a path has come.
use Rattle.std.specs.Prelude.{◌≡◌, ℕ, ◌<◌, List, length, take, drop, IsTrue}
use Rattle.std.specs.List.{list_all}
use Rattle.gufi_base.specs.Names.{is_name}
use Rattle.gufi_base.specs.Paths.{Components}
use Rattle.gufi_base.specs.PathTexts.{closed_names, kept_text, names}
use Rattle.gufi_access.specs.declared.class.Principal.{Principal}
use Rattle.gufi_tree.specs.Tree.{Directory}
use Rattle.gufi_tree.specs.Places.{path_at}
use Rattle.gufi_tree.specs.Resolve.{resolve_from, resolve}

-- The text before an offset is that of the directory at a place, and the rest of the path is resolved from there.
pub record IsReached (tree : List Directory) (who : Principal) (text : List ℕ) (offset place : ℕ) : Type 0 where
  pub rest : Components
  pub within : place < length tree
  pub behind : take offset text ≡ kept_text (path_at tree place)
  pub ahead : drop offset text ≡ closed_names rest
  pub named : IsTrue (list_all is_name rest)
  pub known : IsTrue (list_all is_name (path_at tree place))
  pub same : resolve_from tree who (path_at tree place) rest ≡ resolve tree who (names text)
