-- Paths (XBD 3.271 Pathname, 4.13 Pathname Resolution): lists of names.
use Rattle.std.specs.Prelude.{ℕ, Bool, true, false, not, ◌&&◌, ◌||◌, nat_lt, List, [], ◌∷◌, ◌++◌, length, filter, Result, Ok, Err, if◌then◌else◌, bytes_eq}
use Rattle.std.specs.List.{list_any, flat_map}
use Rattle.std.specs.Ordering.{nat_cmp}
use Rattle.std.specs.declared.cmp.Ordering.{Ordering}
use Rattle.std.specs.Cmp.Lexicographic.{slice_cmp, pointwise}
use Rattle.gufi_base.specs.declared.path.PathFault.{PathFault}
use Rattle.gufi_base.specs.declared.path.PathFault.TheVariants.{DotDot, BadByte, LongName}
use Rattle.gufi_base.specs.Limits.{max_path, max_name, max_components}
use Rattle.gufi_base.specs.Basics.{is_empty, split, all_but_last, last_of}
use Rattle.gufi_base.specs.Names.{dot, dot_dot, is_path_byte}

-- a path of the index, from the root on; the root is the empty list
abbrev pub Components : Type 0
Components = List (List ℕ)

abbrev pub is_dropped : List ℕ → Bool
is_dropped part = is_empty part || bytes_eq part dot

-- the parts between slashes, without empty ones and "."
abbrev pub kept_parts : List ℕ → Components
kept_parts bytes = filter (λ part. not (is_dropped part)) (split 47 bytes)

-- the path that the bytes spell, or the first fault that holds
unfoldable pub read_path : List ℕ → Result Components PathFault
read_path bytes =
    let names = kept_parts bytes in
    if list_any (bytes_eq dot_dot) names then Err DotDot
    else if list_any (λ b. not (is_path_byte b)) bytes then Err BadByte
    else if nat_lt max_path (length bytes) || list_any (λ name. nat_lt max_name (length name)) names || nat_lt max_components (length names) then Err LongName
    else Ok names

-- '/' for the root, else '/' and the name for each component
abbrev pub slashed_text : Components → List ℕ
slashed_text path = flat_map (λ name. 47 ∷ name) path

abbrev pub path_text : Components → List ℕ
path_text [] = 47 ∷ []
path_text (name ∷ path) = slashed_text (name ∷ path)

-- a path that no index may hold
abbrev pub is_too_long : Components → Bool
is_too_long path = nat_lt max_components (length path) || nat_lt max_path (length (path_text path))

-- by components, each by its bytes, a proper prefix first
abbrev pub path_cmp : Components → Components → Ordering
path_cmp = slice_cmp (slice_cmp nat_cmp)

abbrev pub path_eq : Components → Components → Bool
path_eq = pointwise bytes_eq

-- the first path is the second or leads to it
abbrev pub is_prefix : Components → Components → Bool
is_prefix [] path = true
is_prefix (name ∷ front) [] = false
is_prefix (name ∷ front) (other ∷ path) = bytes_eq name other && is_prefix front path

abbrev pub is_proper_prefix : Components → Components → Bool
is_proper_prefix front path = is_prefix front path && nat_lt (length front) (length path)

-- the directory that a path lies in; the root's is the root
abbrev pub parent_path : Components → Components
parent_path path = all_but_last path

-- the last name; the root's is '/'
abbrev pub base_name : Components → List ℕ
base_name path = last_of (47 ∷ []) path

-- what stands before the base name in the path's text
abbrev pub stem : Components → List ℕ
stem [] = []
stem (name ∷ path) = slashed_text (parent_path (name ∷ path)) ++ 47 ∷ []

-- the second path is the first followed by one name
abbrev pub is_child_of : Components → Components → Bool
is_child_of path child = not (is_empty child) && path_eq path (parent_path child)
