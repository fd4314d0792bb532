use Rattle.gufi_image.proofs.Parents.{above_below}
use Rattle.gufi_image.proofs.directory.other_at.Goals as goal

pub returns-clause-above : goal.returns-clause-above
returns-clause-above c = above_below c.args.before.now.dirs c.args.number c.in-Some.parent c.in_ok-path.path c.in-Some.ensures.there c.in_ok-path.ensures.below
