use Rattle.std.proofs.Common.{List, subst, arith}
use Rattle.std.specs.Prelude.{All}
use Rattle.gufi_tree.specs.Bundles.{IsShort}
use Rattle.gufi_tree.specs.Tree.{Directory}
use Rattle.gufi_tree.proofs.Short.{short_all, short_more}
use Rattle.gufi_tree.proofs.dirs.longest_of.Goals as goal

pub loop-bundle-preserved : goal.loop-bundle-preserved
loop-bundle-preserved c =
    let most = c.max-longest.ensures in
    let least = c.loop-bundle.invariant.least in
    record {
      least = omega arith;
      short = short_more c.args.bundles.now c.loop-bundle.bundle-index c.bundle-item.result c.loop-bundle.longest c.longest.result c.max-longest.result (omega arith) c.bundle-item.is c.loop-bundle.invariant.short
          (subst (λ (ds : List Directory). All (IsShort c.longest.result) ds) c.deref.ensures c.longest.ensures) (omega arith) (omega arith);
    }

pub returns-clause-short : goal.returns-clause-short
returns-clause-short c = short_all c.args.bundles.now c.loop-bundle.bundle-index c.loop-bundle.longest (omega arith) c.loop-bundle.invariant.short
