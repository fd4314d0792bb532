-- What a cache ends as, once a text that it lends is given back.
use Rattle.std.specs.Prelude.{◌≡◌, ⊤}
use Rattle.std.specs.Borrow.{Fml, MutBor, follows_so}
use mathlib.Core.Option.{none}
use Rattle.gufi_cache.specs.Pairs.{Kept}
use Rattle.gufi_cache.specs.contracts.cache.Cache.{the_row}

abbrev pub EndsAs : MutBor Kept → Kept → Fml
EndsAs cache end = follows_so the_row the_row cache.ghost_name none (λ _ _. ⊤) (λ new. new ≡ end)
