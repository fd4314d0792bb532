-- The directories that a principal may list by walking down from a start.
use Rattle.std.specs.Prelude.{Bool, not, ◌&&◌, ◌||◌, List}
use Rattle.std.specs.List.{list_all}
use Rattle.gufi_base.specs.Paths.{Components, is_prefix}
use Rattle.gufi_access.specs.declared.class.Principal.{Principal}
use Rattle.gufi_tree.specs.Tree.{Directory, has_dir, may_list}

-- at or below the start, and at or above the path
abbrev pub is_between : Components → Components → Components → Bool
is_between start path middle = is_prefix start middle && is_prefix middle path

-- The start is a prefix of the path, which is a directory, and each directory between them may be listed.
abbrev pub is_listed : List Directory → Principal → Components → Components → Bool
is_listed tree who start path =
    is_prefix start path && has_dir tree path && list_all (λ dir. not (is_between start path dir.path) || may_list who dir) tree
