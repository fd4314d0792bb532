-- What the pieces of a front hold, and how a front is reached from its start.
use Rattle.std.specs.Prelude.{◌≡◌, ℕ, zero, suc, ◌≤◌, List, [], ◌∷◌, length}
use Rattle.std.specs.List.{flat_map}
use Rattle.std.specs.List.Sorted.{IsPermutation}
use Rattle.gufi_base.specs.Paths.{Components}
use Rattle.gufi_access.specs.declared.class.Principal.{Principal}
use Rattle.gufi_tree.specs.declared.tree.DirId.{DirId}
use Rattle.gufi_tree.specs.declared.resolve.Resolved.TheVariants.{Found}
use Rattle.gufi_tree.specs.Tree.{Directory, HasTreeShape}
use Rattle.gufi_tree.specs.Resolve.{resolve}
use Rattle.gufi_snap.specs.Pieces.{front, kids}
use Rattle.gufi_walk.specs.Answer.{listed_rows}
use Rattle.gufi_walk.specs.Walk.{shown_piece}

-- the directories that are reached from a path through kids in at most so many steps, each once for each way that leads to it
abbrev pub reached : List Directory → Principal → ℕ → ℕ → Components → List Components
reached tree who limit zero path = path ∷ []
reached tree who limit (suc steps) path = path ∷ flat_map (reached tree who limit steps) (kids tree who path limit)

-- The pieces of the front together hold exactly the rows with a listed home, each once, as they are shown.
abbrev pub FoldsHoldTheRows : Type 0
FoldsHoldTheRows = (tree : List Directory) (who : Principal) (start : Components) (id : DirId) (limit : ℕ) → HasTreeShape tree → resolve tree who start ≡ Found id
    → IsPermutation (flat_map (shown_piece tree who limit) (front tree who start limit)) (listed_rows tree who start)

-- The directories that are reached from the start through kids are exactly the front, each once: as many steps as the tree has directories reach all.
abbrev pub KidsReachTheFront : Type 0
KidsReachTheFront = (tree : List Directory) (who : Principal) (start : Components) (id : DirId) (limit steps : ℕ) → HasTreeShape tree → resolve tree who start ≡ Found id
    → length tree ≤ steps → IsPermutation (reached tree who limit steps start) (front tree who start limit)
