use Rattle.std.proofs.Common.{arith, length}
use Rattle.gufi_image.proofs.Shape.{whole_from}
use Rattle.gufi_image.proofs.Parents.{parents_of_tree}
use Rattle.gufi_image.proofs.DirectoryLoop.{few_read}
use Rattle.gufi_image.proofs.reader.all_of.Goals as goal

pub returns-clause-whole : goal.returns-clause-whole
returns-clause-whole c =
    let p = c.args.progress in
    let h = c.requires.read in
    whole_from (length p.directories.packing.dirs) p.head.entries p.directories.packing.dirs h.directories (omega (arith, h.head.some, c.requires.whole)) (omega (arith, h.head.few, few_read p h)) h.head.entries

pub returns-clause-parents : goal.returns-clause-parents
returns-clause-parents c =
    let p = c.args.progress in
    let h = c.requires.read in
    parents_of_tree p.directories.packing.dirs p.directories.parents.items h.directories.front.order h.parents
