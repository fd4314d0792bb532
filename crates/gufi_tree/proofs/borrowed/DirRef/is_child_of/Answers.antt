use Rattle.std.proofs.Common.{sym, ap, ◌∙◌}
use Rattle.std.specs.List.{list_all}
use Rattle.gufi_base.specs.Names.{is_name}
use Rattle.gufi_base.specs.PathTexts.{kept_text}
use Rattle.gufi_base.proofs.Below.{child-text}
use Rattle.gufi_tree.proofs.borrowed.DirRef.is_child_of.Goals as goal

pub returns-in-Some : goal.returns-in-Some
returns-in-Some c =
    child-text c.args.self.now.path c.args.parent.now.path c.in-Some.above.now c.text.result.now c.same_bytes.result
    (ap (list_all is_name) (sym c.path.ensures) ∙ c.text-path.ensures.names) (ap (list_all is_name) (sym c.path-in-Some.ensures) ∙ c.text.ensures.names)
    (λ e. c.in-Some.ensures.0 e) c.in-Some.ensures.1 (c.text.ensures.text ∙ ap kept_text c.path-in-Some.ensures) c.same_bytes.ensures
