use Rattle.std.proofs.lemmas.List.Sorted.{All-permutation}
use Rattle.gufi_tree.specs.Bundled.{lists_of, Stands}
use Rattle.gufi_tree.proofs.Bundled.{directories-permuted}
use Rattle.gufi_tree.proofs.dirs.Dirs.sort.Goals as goal

pub invariant_of-self : goal.invariant_of-self
invariant_of-self c = All-permutation (Stands (lists_of c.self.inside.bundles.items c.self.inside.last)) _ _ c.sort_unstable_by.ensures.permutation c.self.invariant

pub returns : goal.returns
returns c = directories-permuted _ _ _ _ c.self.view_is c.sort_unstable_by.ensures.permutation
