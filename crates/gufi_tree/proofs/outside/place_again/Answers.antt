use Rattle.std.proofs.Common.{◌∙◌, [], List, get_or, sym, ap}
use Rattle.std.proofs.lemmas.Result.{IfOk-weaker}
use Rattle.gufi_tree.specs.Bundled.{no_directory}
use Rattle.gufi_tree.specs.Tree.{Directory}
use Rattle.gufi_tree.proofs.Bundled.{Keep-refl}
use Rattle.gufi_tree.proofs.outside.place_again.Goals as goal

pub returns-in-Some-clause-keep : goal.returns-in-Some-clause-keep
returns-in-Some-clause-keep c = Keep-refl _

pub returns-in-Some-clause-stands : goal.returns-in-Some-clause-stands
returns-in-Some-clause-stands c = c.requires.share.stand c.args.place c.in-Some.bundle (sym c.number_of.ensures ∙ c.in-Some.is) c.requires.stands

pub returns-in-Some-clause-same : goal.returns-in-Some-clause-same
returns-in-Some-clause-same c = c.requires.share.same c.args.place c.in-Some.bundle (sym c.number_of.ensures ∙ c.in-Some.is) c.requires.stands

pub returns-in-None-clause-same : goal.returns-in-None-clause-same
returns-in-None-clause-same c =
    IfOk-weaker c.copy_dir.result _ _ (λ place is. is ∙ c.at-dir.ensures no_directory ∙ ap (λ (ds : List Directory). get_or ds c.args.place.head no_directory) c.bundle_at.ensures) c.copy_dir.ensures.directory
