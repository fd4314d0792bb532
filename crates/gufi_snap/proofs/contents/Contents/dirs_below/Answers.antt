use Rattle.std.proofs.Common.{List, length, ap, ◌∙◌}
use Rattle.gufi_tree.specs.Tree.{Directory}
use Rattle.gufi_tree.specs.Places.{path_at}
use Rattle.gufi_tree.proofs.Below.{below_dirs}
use Rattle.gufi_snap.proofs.contents.Contents.dirs_below.Goals as goal

pub returns : goal.returns
returns c = c.dirs_below.ensures ∙ ap (λ (ds : List Directory). length (below_dirs ds (path_at ds c.args.id.0))) c.self.view_is
