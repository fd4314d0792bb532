use Rattle.gufi_forms.proofs.Objects.{text_put}
use Rattle.gufi_forms.proofs.object.put_text.Goals as goal

pub returns-clause-ok : goal.returns-clause-ok
returns-clause-ok c =
    text_put c.args.name.now c.args.bytes.now c.in-Ok.text.now c.args.writer.now.tokens c.key.new.self.tokens c.string.new.self.tokens
    c.in-Ok.ensures.cases.1 c.in-Ok.ensures.cases.0 c.in_ok-key.ensures.ok c.in_ok-string.ensures.ok
