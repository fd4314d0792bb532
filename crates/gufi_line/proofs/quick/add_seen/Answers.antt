use Rattle.std.proofs.Common.{[], sym, ◌∙◌, arith}
use Rattle.std.proofs.lemmas.Bool.{eqb-true}
use Rattle.gufi_line.proofs.AclFields.{no_bytes}
use Rattle.gufi_line.proofs.SoundLines.{listed_result, sound_result}
use Rattle.gufi_line.proofs.quick.add_seen.Goals as goal

pub returns-then-is_empty : goal.returns-then-is_empty
returns-then-is_empty g c =
    let content = c.take_content.new.content in
    let list = no_bytes content.acl.now (eqb-true _ _ (sym c.is_empty.ensures ∙ c.if-is_empty.true)) in
    sound_result c.add_line.result c.args.delim c.args.root.now c.args.text.now _ content c.args.lines.now _ c.of.ensures c.in-Some.ensures (omega (arith, c.len.ensures.is, c.if-len-eq0.false))
    (listed_result c.add_line.result c.args.root.now content [] c.args.lines.now _ list c.add_line.ensures)

pub returns-else-is_empty : goal.returns-else-is_empty
returns-else-is_empty g c =
    sound_result c.add_listed.result c.args.delim c.args.root.now c.args.text.now _ c.take_content.new.content c.args.lines.now _ c.of.ensures c.in-Some.ensures (omega (arith, c.len.ensures.is, c.if-len-eq0.false)) c.add_listed.ensures
