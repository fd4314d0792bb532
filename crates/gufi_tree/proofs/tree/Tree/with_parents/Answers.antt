use Rattle.gufi_tree.proofs.tree.Tree.with_parents.Goals as goal

pub invariant_of-result : goal.invariant_of-result
invariant_of-result c = rw (c.in_ok-links.ensures) (record { shape = c.requires.shape; few = c.requires.few; rows = c.requires.rows; parents = c.requires.parents })
