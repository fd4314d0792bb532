-- The directories near a start, and what the rows at and below each take up, as the walk comes to them.
use Rattle.std.specs.Prelude.{ℕ, zero, suc, Bool, List, [], ◌∷◌, ◌++◌, map, filter}
use Rattle.std.specs.List.{flat_map}
use Rattle.gufi_base.specs.declared.record.Row.{Row}
use Rattle.gufi_base.specs.Paths.{Components}
use Rattle.gufi_access.specs.declared.class.Principal.{Principal}
use Rattle.gufi_tree.specs.declared.tree.DirId.{DirId}
use Rattle.gufi_tree.specs.Tree.{Directory, own_rows}
use Rattle.gufi_tree.specs.Listed.{is_listed}
use Rattle.gufi_tree.specs.Places.{path_at}
use Rattle.gufi_walk.specs.Answer.{shown}
use Rattle.gufi_walk.specs.Walk.{open_ids}
use Rattle.gufi_usage.specs.declared.near.DirUsage.{DirUsage}
use Rattle.gufi_usage.specs.UsageLines.{usage_line}
use Rattle.gufi_usage.specs.Usages.{usage_of}

-- the rows of the directories that are listed from one on, as they are shown, directory by directory
abbrev pub rows_from : List Directory → Principal → Components → List Row
rows_from tree who top = map (shown who) (flat_map own_rows (filter (λ dir. is_listed tree who top dir.path) tree))

-- those of them that meet a question
abbrev pub met_from : List Directory → Principal → (Row → Bool) → Components → List Row
met_from tree who met top = filter met (rows_from tree who top)

abbrev pub usage_at : List Directory → Principal → (Row → Bool) → DirId → DirUsage
usage_at tree who met id = record { id = id; usage = usage_of (met_from tree who met (path_at tree id.0)) }

-- the directories at most so many levels below one that a walk comes to, each behind those below it
abbrev pub near : List Directory → Principal → ℕ → DirId → List DirId
near tree who zero id = id ∷ []
near tree who (suc levels) id = flat_map (near tree who levels) (open_ids tree who (path_at tree id.0)) ++ id ∷ []

abbrev pub line_of : List Directory → DirUsage → List ℕ
line_of tree d = usage_line (path_at tree d.id.0) d.usage
