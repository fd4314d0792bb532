use Rattle.std.proofs.Common.{Global, List, map, subst}
use Rattle.std.specs.Prelude.{All}
use Rattle.std.specs.Arc.{arc_value}
use Rattle.std.specs.declared.sync.Arc.{Arc}
use Rattle.gufi_tree.specs.Bundles.{IsShort}
use Rattle.gufi_tree.specs.Tree.{Directory}
use Rattle.gufi_tree.proofs.Short.{places_short}
use Rattle.gufi_tree.proofs.dirs.Dirs.longest.Goals as goal

pub returns : goal.returns
returns c =
    places_short c.self.inside.bundles.items c.self.inside.last c.self.inside.places.items c.args.self.now c.longest.result c.longest_of.result
    (subst (λ (bundles : List (Arc (List Directory) Global)). All (All (IsShort c.longest_of.result)) (map arc_value bundles)) c.as_slice.ensures.value c.longest_of.ensures.short)
    c.longest.ensures c.longest_of.ensures.least c.self.invariant c.self.view_is
