-- A subtree replaced by another tree.
use Rattle.std.specs.Prelude.{ℕ, ◌+◌, ◌-◌, Bool, not, ◌&&◌, ◌||◌, nat_lt, List, ◌++◌, length, take, drop, filter, map, if◌then◌else◌}
use Rattle.std.specs.List.{list_any, flat_map}
use Rattle.gufi_base.specs.Limits.{max_components, max_path}
use Rattle.gufi_base.specs.Basics.{sort_by}
use Rattle.gufi_base.specs.Paths.{Components, is_prefix, is_too_long}
use Rattle.gufi_tree.specs.Tree.{Directory, dir_cmp, own_rows}

-- the directory with its path put below another
abbrev pub put_below : Components → Directory → Directory
put_below path dir = record { path = path ++ dir.path; rec = dir.rec; entries = dir.entries }

-- the tree without all at and below the path, with each directory of the part put below it
unfoldable pub graft : List Directory → Components → List Directory → List Directory
graft tree path part = sort_by dir_cmp (filter (λ dir. not (is_prefix path dir.path)) tree ++ map (put_below path) part)

-- where a parent stands, if what stands from the first place on is moved to the second
abbrev pub moved : ℕ → ℕ → ℕ → ℕ
moved from to parent = if nat_lt parent from then parent else parent - from + to

-- The parents up to the place of what is replaced stay; those of the part are moved there, but for its root's, and those behind what is replaced are moved behind the part.
abbrev pub graft_parents : List ℕ → ℕ → ℕ → List ℕ → List ℕ
graft_parents parents at end part = take (at + 1) parents ++ (map (moved 0 at) (drop 1 part) ++ map (moved end (at + length part)) (drop end parents))

-- so many components, or bytes of text, are more than a path may have
abbrev pub is_over : ℕ → ℕ → Bool
is_over names bytes = nat_lt max_components names || nat_lt max_path bytes

-- and below them a component more, and a slash, may stand
abbrev pub leaves_room : ℕ → ℕ → Bool
leaves_room names bytes = nat_lt names max_components && nat_lt bytes max_path

-- put below the path, the directory or one of its entries has such a path
abbrev pub has_long_row : Components → Directory → Bool
has_long_row path dir = list_any (λ row. is_too_long row.path) (own_rows (put_below path dir))

-- a path of more components, or of a longer text, than an index may have
abbrev pub is_too_deep : List Directory → Bool
is_too_deep tree = list_any (λ row. is_too_long row.path) (flat_map own_rows tree)
