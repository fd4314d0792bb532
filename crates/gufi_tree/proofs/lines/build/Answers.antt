use Rattle.std.proofs.Common.{length, ap, arith}
use Rattle.gufi_tree.proofs.Linked.{few_directories}
use Rattle.gufi_tree.proofs.lines.build.Goals as goal

pub of-requires-clause-few : goal.of-requires-clause-few
of-requires-clause-few c = omega (arith, few_directories c.args.lines.items, ap length c.in_ok-dirs.ensures.1.tree, c.requires)

pub of-requires-clause-rows : goal.of-requires-clause-rows
of-requires-clause-rows c = let same = c.in_ok-dirs.ensures.1.rows in let few = c.requires in omega arith
