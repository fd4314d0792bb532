use Rattle.gufi_top.proofs.TracesBack.{indexes_back}
use Rattle.gufi_top.proofs.laws.indexes_come_back_from_traces.Goals as goal

pub returns : goal.returns
returns c = indexes_back c.traces_mean_sound_trees.ensures c.written_traces_read_back.ensures c.images_have_one_spelling.ensures.writable
