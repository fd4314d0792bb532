use Rattle.gufi_top.proofs.TracesBack.{images_back}
use Rattle.gufi_top.proofs.laws.images_come_back_from_traces.Goals as goal

pub returns : goal.returns
returns c = images_back c.images_have_one_spelling.ensures.spelling c.images_have_one_spelling.ensures.writable c.written_traces_read_back.ensures
