use Rattle.std.proofs.Common.{◌∙◌, sym, ap, subst, List}
use Rattle.gufi_base.specs.Paths.{Components}
use Rattle.gufi_base.specs.PathTexts.{names, IsText}
use Rattle.gufi_base.proofs.Names.{names-kept_text, IsText-kept_text}
use Rattle.gufi_tree.specs.Tree.{Directory}
use Rattle.gufi_tree.specs.Resolve.{resolve}
use Rattle.gufi_tree.proofs.tree.Tree.resolve.Goals as goal

pub resolve_text-requires-clause-text : goal.resolve_text-requires-clause-text
resolve_text-requires-clause-text c = subst IsText (sym c.text.ensures.text) (IsText-kept_text c.args.path.now c.text.ensures.names)

pub returns : goal.returns
returns c =
    c.resolve_text.ensures ∙ ap (λ (t : List Directory). resolve t c.args.who.now (names c.text.result.now)) c.kept.ensures.value
    ∙ ap (λ (p : Components). resolve c.args.self.now c.args.who.now p) (ap names c.text.ensures.text ∙ names-kept_text c.args.path.now c.text.ensures.names)
