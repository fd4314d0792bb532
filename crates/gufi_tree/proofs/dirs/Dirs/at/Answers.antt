use Rattle.std.proofs.Common.{◌∙◌, [], get_or, ap}
use Rattle.gufi_tree.specs.Bundled.{lists_of, no_directory}
use Rattle.gufi_tree.proofs.Bundled.{directory_found}
use Rattle.gufi_tree.proofs.dirs.Dirs.at.Goals as goal

pub returns : goal.returns
returns c = λ d.
    let s = c.self.inside in
    let place = c.index.result.now in
    directory_found (lists_of s.bundles.items s.last) s.places.items c.args.self.now c.bundle_at.result.now c.args.place place c.at.result d c.self.view_is c.requires c.index.ensures
    (c.bundle_at.ensures ∙ ap (λ bundles. get_or (lists_of bundles s.last) place.bundle []) c.as_slice.ensures.value) (c.at.ensures no_directory)
