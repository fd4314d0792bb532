-- The job of the tests: a heap of tasks below task 0, and one task more beside it.
use Rattle.std.specs.Prelude.{ℕ, ◌+◌, ◌*◌, nat_lt, List, [], ◌∷◌, if◌then◌else◌}
use Rattle.std.specs.List.{range_with_len}

-- the two kids of a task, where both lie in a heap of so many tasks
abbrev pub heap_kids : ℕ → ℕ → List ℕ
heap_kids size task = if nat_lt (2 * task + 2) size then (2 * task + 1) ∷ (2 * task + 2) ∷ [] else []

abbrev pub heap_first : ℕ → List ℕ
heap_first size = 0 ∷ size ∷ []

abbrev pub heap_given : ℕ → List ℕ
heap_given size = range_with_len 0 (size + 1)
