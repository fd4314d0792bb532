use Rattle.std.proofs.Common.{ap, ◌∙◌, List, ℕ}
use Rattle.std.specs.Prelude.{◌||◌, bytes_eq}
use Rattle.gufi_tree.specs.Texts.{has_text}
use Rattle.gufi_tree.proofs.Sets.{key_of, with_text}
use Rattle.gufi_tree.proofs.fault.line_fault.Goals as goal

pub returns-then-is_orphan-clause-seen : goal.returns-then-is_orphan-clause-seen
returns-then-is_orphan-clause-seen c = λ text.
    c.in_ok-insert.ensures.updates.0 (key_of text) ∙ with_text c.text.result.now text (has_text c.args.seen.now text) ∙ ap (λ (key : List ℕ). bytes_eq text key || has_text c.args.seen.now text) c.text.ensures.text

pub returns-else-is_orphan-clause-seen : goal.returns-else-is_orphan-clause-seen
returns-else-is_orphan-clause-seen c = λ text.
    c.in_ok-insert.ensures.updates.0 (key_of text) ∙ with_text c.text.result.now text (has_text c.args.seen.now text) ∙ ap (λ (key : List ℕ). bytes_eq text key || has_text c.args.seen.now text) c.text.ensures.text
