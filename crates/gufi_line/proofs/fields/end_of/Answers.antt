use Rattle.gufi_line.proofs.FirstParts.{first_place}
use Rattle.gufi_line.proofs.fields.end_of.Goals as goal

pub returns : goal.returns
returns c = first_place c.args.delim c.args.text.now c.memchr.result c.memchr.ensures
