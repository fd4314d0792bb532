use Rattle.gufi_trace.proofs.TreesRead.{sound_trees}
use Rattle.gufi_trace.proofs.laws.traces_mean_sound_trees.Goals as goal

pub returns : goal.returns
returns c = sound_trees
