-- A text in two pieces.
use Rattle.std.specs.Prelude.{ℕ, List, ◌++◌}
use Rattle.gufi_glob.specs.declared.joined.Joined.{Joined}

abbrev pub joined : Joined → List ℕ
joined text = text.front.now ++ text.back.now
