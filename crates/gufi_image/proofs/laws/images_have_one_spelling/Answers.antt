use Rattle.gufi_image.proofs.ImageBack.{image_once}
use Rattle.gufi_image.proofs.ReadSound.{all_read}
use Rattle.gufi_image.proofs.laws.images_have_one_spelling.Goals as goal

pub returns : goal.returns
returns c = record {
  spelling = λ bytes snap are e. (image_once bytes snap are e).is;
  writable = λ bytes snap are e. all_read snap.tree snap.limit (image_once bytes snap are e).all;
}
