use Rattle.std.proofs.Common.{◌∙◌, sym}
use Rattle.std.proofs.lemmas.Bool.{le-leb}
use Rattle.gufi_tree.proofs.TooLong.{short_leaves_room}
use Rattle.gufi_tree.proofs.too_long.has_room.Goals as goal

pub returns-then-bytes-le-FEW : goal.returns-then-bytes-le-FEW
returns-then-bytes-le-FEW c =
    le-leb c.args.bytes 510 c.if-bytes-le-FEW.true
    ∙ sym (short_leaves_room c.args.above.now c.args.path.now c.args.bytes c.text-front.ensures.names c.text-text.ensures.names c.requires c.if-bytes-le-FEW.true)
