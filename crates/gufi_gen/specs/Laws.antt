-- The laws of generated traces. A public function's contract has to name each.
use Rattle.std.specs.Prelude.{◌≡◌, ◌≤◌, ℕ, [], IsTrue, Ok}
use Rattle.gufi_base.specs.Limits.{max_dirs}
use Rattle.gufi_base.specs.Delimiters.{may_delimit}
use Rattle.gufi_access.specs.declared.class.Principal.{Principal}
use Rattle.gufi_tree.specs.Resolve.{resolve, is_found}
use Rattle.gufi_trace.specs.TraceText.{trace_means}
use Rattle.gufi_gen.specs.Generated.{gen_text}
use Rattle.gufi_gen.specs.MadeTree.{made_tree}

-- With whichever delimiter, a trace of as many directories as an index may have is read.
abbrev pub GeneratedTracesAreRead : Type 0
GeneratedTracesAreRead = (n delim : ℕ) → 1 ≤ n → n ≤ max_dirs → IsTrue (may_delimit delim) → trace_means delim (gen_text n delim) ≡ Ok (made_tree n)

-- Everybody may list the root of what it means.
abbrev pub GeneratedRootsAreListed : Type 0
GeneratedRootsAreListed = (n : ℕ) (who : Principal) → 1 ≤ n → n ≤ max_dirs → IsTrue (is_found (resolve (made_tree n) who []))
