use Rattle.std.proofs.Common.{sym, ap, ◌∙◌}
use Rattle.std.specs.List.{list_all}
use Rattle.std.specs.Prelude.{◌||◌}
use Rattle.gufi_base.specs.Names.{is_name}
use Rattle.gufi_tree.specs.Texts.{has_dir_text}
use Rattle.gufi_tree.proofs.Sets.{any_more, all_more}
use Rattle.gufi_tree.proofs.fault.dir_texts.Goals as goal

pub loop-line-preserved : goal.loop-line-preserved
loop-line-preserved c = record {
  texts = λ text. c.in_ok-note_dir.ensures.texts text ∙ ap (λ b. b || has_dir_text text c.line-item.result) (c.loop-line.invariant.texts text)
      ∙ sym (any_more (has_dir_text text) c.args.lines.now c.loop-line.line-index c.line-item.result c.loop-line-test.true c.line-item.is);
  named = all_more (λ line. list_all is_name line.path) c.args.lines.now c.loop-line.line-index c.line-item.result c.loop-line-test.true c.line-item.is c.loop-line.invariant.named c.in_ok-note_dir.ensures.named;
}
