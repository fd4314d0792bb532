-- The tree of a list of lines, or the least faulty line.
use Rattle.std.specs.Prelude.{Bool, not, ◌&&◌, List, [], ◌∷◌, filter, map, Option, Some, None, Result, Ok, Err, if◌then◌else◌}
use Rattle.std.specs.List.{list_any}
use Rattle.std.specs.Option.{option_or}
use Rattle.gufi_base.specs.declared.record.Line.{Line}
use Rattle.gufi_base.specs.Basics.{is_empty, sort_by}
use Rattle.gufi_base.specs.Paths.{Components, path_eq, parent_path, base_name}
use Rattle.gufi_base.specs.Kinds.{is_dir}
use Rattle.gufi_tree.specs.declared.tree.Entry.{Entry}
use Rattle.gufi_tree.specs.declared.fault.TreeFault.{TreeFault}
use Rattle.gufi_tree.specs.declared.fault.TreeFault.TheVariants.{NoRoot, Duplicate, Orphan}
use Rattle.gufi_tree.specs.Tree.{Directory, dir_cmp, entry_cmp}

abbrev pub is_dir_line : Line → Bool
is_dir_line line = is_dir line.rec.meta.kind

-- a directory line with this path
abbrev pub names_dir : List Line → Components → Bool
names_dir lines path = list_any (λ line. is_dir_line line && path_eq path line.path) lines

-- an earlier line has the same path
abbrev pub is_duplicate : List Line → Line → Bool
is_duplicate earlier line = list_any (λ other. path_eq line.path other.path) earlier

-- its parent is no directory line's path; an entry needs a name
abbrev pub is_orphan : List Line → Line → Bool
is_orphan lines line =
    if is_empty line.path then not (is_dir_line line) else not (names_dir lines (parent_path line.path))

-- the first line at fault, among all lines and behind earlier ones
abbrev pub line_fault : List Line → List Line → Line → Option TreeFault
line_fault lines earlier line =
    if is_duplicate earlier line then Some (Duplicate line.number)
    else if is_orphan lines line then Some (Orphan line.number)
    else None

abbrev pub least_fault : List Line → List Line → List Line → Option TreeFault
least_fault lines earlier [] = None
least_fault lines earlier (line ∷ rest) = option_or (line_fault lines earlier line) (least_fault lines (line ∷ earlier) rest)

abbrev pub tree_fault : List Line → Option TreeFault
tree_fault lines = if names_dir lines [] then least_fault lines [] lines else Some NoRoot

-- the entries of a directory are the other lines whose path is its own and one name
abbrev pub is_entry_line : Components → Line → Bool
is_entry_line path line = not (is_dir_line line) && path_eq path (parent_path line.path)

abbrev pub entry_of_line : Line → Entry
entry_of_line line = record { name = base_name line.path; rec = line.rec }

abbrev pub directory_of_line : List Line → Line → Directory
directory_of_line lines line = record {
  path = line.path;
  rec = line.rec;
  entries = sort_by entry_cmp (map entry_of_line (filter (is_entry_line line.path) lines));
}

abbrev pub directories_of_lines : List Line → List Directory
directories_of_lines lines = sort_by dir_cmp (map (directory_of_line lines) (filter is_dir_line lines))

abbrev pub unless : Option TreeFault → List Directory → Result (List Directory) TreeFault
unless None tree = Ok tree
unless (Some fault) tree = Err fault

unfoldable pub tree_of : List Line → Result (List Directory) TreeFault
tree_of lines = unless (tree_fault lines) (directories_of_lines lines)
