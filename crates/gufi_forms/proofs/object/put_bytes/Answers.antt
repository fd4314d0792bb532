use Rattle.gufi_forms.proofs.Escapes.{escaped_is_utf8}
use Rattle.gufi_forms.proofs.object.put_bytes.Goals as goal

pub unreachable-requires : goal.unreachable-requires
unreachable-requires c = c.in_default.ensures.cases.0 (rw (c.as_slice.ensures.value, c.in_ok-put_escaped.ensures, c.new-text.ensures.items) (escaped_is_utf8 c.args.bytes.now))
