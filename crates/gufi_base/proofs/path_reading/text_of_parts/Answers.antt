use Rattle.std.proofs.Common.{sym, ◌∙◌}
use Rattle.gufi_base.proofs.Names.{large_by_parts, IsText-read, names-read}
use Rattle.gufi_base.proofs.path_reading.text_of_parts.Goals as goal

pub returns : goal.returns
returns c =
    let parts = c.parts_of-parts in
    let dots = sym parts.ensures.dot_dot ∙ c.if-parts.false in
    let bad = sym c.has_bad_byte.ensures ∙ c.if-has_bad_byte.false in
    let large = sym (c.is_too_large.ensures ∙ large_by_parts c.args.bytes.now parts.result.long_name parts.result.count parts.ensures.long_name parts.ensures.count) ∙ c.if-is_too_large.false in
    (IsText-read c.args.bytes.now c.in_ok-text.text.items dots bad large c.in_ok-text.ensures, names-read c.args.bytes.now c.in_ok-text.text.items dots bad large c.in_ok-text.ensures)
