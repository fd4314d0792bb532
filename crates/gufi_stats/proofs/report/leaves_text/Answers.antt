use Rattle.std.proofs.Common.{◌∙◌}
use Rattle.std.proofs.lemmas.Result.{IfOk-weaker}
use Rattle.gufi_stats.proofs.LeafLemmas.{leaves-of-dirs}
use Rattle.gufi_stats.proofs.report.leaves_text.Goals as goal

pub returns : goal.returns
returns c = IfOk-weaker c.leaf_lines.result _ _ (λ text lines names rows start is. lines ∙ leaves-of-dirs c.args.directories.now rows is) c.leaf_lines.ensures
