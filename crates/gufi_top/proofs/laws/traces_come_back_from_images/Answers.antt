use Rattle.gufi_top.proofs.TraceImages.{traces_back}
use Rattle.gufi_top.proofs.laws.traces_come_back_from_images.Goals as goal

pub returns : goal.returns
returns c = traces_back c.traces_mean_sound_trees.ensures c.written_images_read_back.ensures
