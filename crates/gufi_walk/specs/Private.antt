-- What a walk looks at in trees that look alike to whoever asks, where nothing is rolled up.
use Rattle.std.specs.Prelude.{◌≡◌, ℕ, zero, suc, Bool, false, List, [], ◌∷◌, length, Option}
use Rattle.std.specs.List.{flat_map}
use Rattle.std.specs.List.Sorted.{IsPermutation}
use Rattle.gufi_base.specs.Paths.{Components}
use Rattle.gufi_access.specs.declared.class.Principal.{Principal}
use Rattle.gufi_sums.specs.declared.summary.Summary.{Summary}
use Rattle.gufi_tree.specs.declared.tree.DirId.{DirId}
use Rattle.gufi_tree.specs.declared.resolve.Resolved.TheVariants.{Found}
use Rattle.gufi_tree.specs.Tree.{Directory, HasTreeShape}
use Rattle.gufi_tree.specs.Places.{path_at}
use Rattle.gufi_tree.specs.Resolve.{resolve}
use Rattle.gufi_walk.specs.Answer.{Alike}
use Rattle.gufi_walk.specs.Walk.{front_met, sees_all, next_ids}

-- Whatever the question, one thread's answer takes as many steps in both.
abbrev pub StepsAreAlike : Type 0
StepsAreAlike = (tree other : List Directory) (who : Principal) (start : Components) → HasTreeShape tree → HasTreeShape other → Alike tree other who start
    → (skips : Summary → Bool) (deepest : Option ℕ) → length (front_met skips deepest tree who start 0) ≡ length (front_met skips deepest other who start 0)

-- the directories to which a walk comes from one, itself first, where it goes on so many times at most
abbrev pub visited : (Summary → Bool) → Option ℕ → ℕ → List Directory → Principal → ℕ → ℕ → DirId → List Components
visited skips deepest above tree who limit zero id = path_at tree id.0 ∷ []
visited skips deepest above tree who limit (suc times) id =
    path_at tree id.0 ∷ flat_map (visited skips deepest above tree who limit times) (next_ids skips deepest above tree who (path_at tree id.0) limit)

-- Whatever the question, the walk of a user other than uid 0, who lists all, comes to the same directories in both.
abbrev pub VisitsAreAlike : Type 0
VisitsAreAlike = (tree other : List Directory) (who : Principal) (start : Components) (id place : DirId) → HasTreeShape tree → HasTreeShape other → Alike tree other who start
    → sees_all who ≡ false → resolve tree who start ≡ Found id → resolve other who start ≡ Found place → (skips : Summary → Bool) (deepest : Option ℕ)
    → IsPermutation (visited skips deepest (length start) tree who 0 (length tree) id) (visited skips deepest (length start) other who 0 (length other) place)
