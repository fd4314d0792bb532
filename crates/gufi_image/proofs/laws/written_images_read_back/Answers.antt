use Rattle.gufi_image.proofs.ImageBack.{image_back}
use Rattle.gufi_image.proofs.Writable.{all_written}
use Rattle.gufi_image.proofs.laws.written_images_read_back.Goals as goal

pub returns : goal.returns
returns c = λ tree limit h. image_back tree limit (all_written tree limit h)
