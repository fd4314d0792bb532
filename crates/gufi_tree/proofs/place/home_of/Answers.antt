use Rattle.std.proofs.Common.{◌∙◌, sym, ap, subst}
use Rattle.gufi_base.specs.Paths.{parent_path}
use Rattle.gufi_base.specs.PathTexts.{names, IsText}
use Rattle.gufi_base.proofs.Names.{names-kept_text, IsText-kept_text}
use Rattle.gufi_base.proofs.Texts.{parent_named}
use Rattle.gufi_tree.specs.Tree.{place_of}
use Rattle.gufi_tree.specs.Stored.{directories_of}
use Rattle.gufi_tree.proofs.Homes.{home_is}
use Rattle.gufi_tree.proofs.place.home_of.Goals as goal

pub find_text-requires-clause-text : goal.find_text-requires-clause-text
find_text-requires-clause-text c =
    subst IsText (sym c.in_ok-parent.ensures.1) (IsText-kept_text (parent_path c.args.line.now.path) (parent_named c.args.line.now.path c.text-text.ensures.names))

pub returns : goal.returns
returns c =
    home_is c.args.stored.now c.args.line.now.path c.find_text.result c.requires c.in_ok-parent.ensures.0
    (c.find_text.ensures ∙ ap (place_of (directories_of c.args.stored.now)) (ap names c.in_ok-parent.ensures.1 ∙ names-kept_text (parent_path c.args.line.now.path) (parent_named c.args.line.now.path c.text-text.ensures.names)))
