use Rattle.std.proofs.Common.{ap, sym, ◌∙◌}
use Rattle.std.specs.Prelude.{Ok}
use Rattle.gufi_base.proofs.PlainTexts.{read_path-plain, IsText-plain, names-plain}
use Rattle.gufi_base.proofs.path.Path.read.Goals as goal

pub invariant_of-result : goal.invariant_of-result
invariant_of-result c =
    IsText-plain c.without_first_slash-names.result.now c.in_ok-text.text.items c.if-are_plain.ensures c.in_ok-text.ensures

pub returns-then-are_plain : goal.returns-then-are_plain
returns-then-are_plain c =
    read_path-plain c.without_first_slash-names.result.now c.args.bytes.now c.without_first_slash-names.ensures c.if-is_within_limits.ensures.short c.if-is_within_limits.ensures.few c.if-are_plain.ensures
    ∙ ap Ok (sym (names-plain c.without_first_slash-names.result.now c.in_ok-text.text.items c.if-are_plain.ensures c.in_ok-text.ensures))
