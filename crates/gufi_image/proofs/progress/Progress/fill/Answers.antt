use Rattle.std.proofs.Common.{◌≡◌, List, ◌++◌, ◌∷◌, [], refl, sym, ap, subst, ◌∙◌}
use Rattle.std.specs.Prelude.{Some, None}
use Rattle.gufi_base.specs.Paths.{Components}
use Rattle.gufi_image.specs.Pieces.{entries_from}
use Rattle.gufi_tree.specs.Packs.{Packs, entries_of}
use Rattle.gufi_tree.specs.Tree.{Directory}
use Rattle.gufi_image.specs.Views.{directory_in}
use Rattle.gufi_image.proofs.DirectoryLoop.{part_read, closed_read, rest_filled, rest_closed, rest_at}
use Rattle.gufi_image.proofs.progress.Progress.fill.Goals as goal

pub returns-in_ok-close-in-Ok-clause-read : goal.returns-in_ok-close-in-Ok-clause-read
returns-in_ok-close-in-Ok-clause-read c =
    let self = c.args.self.now in
    let t = c.take_entries.ensures in
    let all = entries_of c.take_entries.new.packing.pending in
    let open_ = part_read (record self { part = Some c.args.dir }) c.args.dir c.requires.read refl in
    closed_read (record self { part = Some c.args.dir }) (record self { directories = c.close.new.self }) c.args.dir all c.requires.read
    (record { heading = open_.1.heading; entries_are = t.entries; within = t.few open_.1.within }) open_.0 refl c.requires.none
    (ap (λ (p : Packs). p.dirs) c.in_ok-close-in-Ok.ensures.packing ∙ ap (λ (ds : List Directory). ds ++ directory_in c.args.dir all ∷ []) t.dirs)
    (ap (λ (p : Packs). p.pending) c.in_ok-close-in-Ok.ensures.packing)
    c.in_ok-close-in-Ok.ensures.parents c.in_ok-close-in-Ok.ensures.entries c.in_ok-close-in-Ok.ensures.needed

pub returns-in_ok-close-in-Ok-clause-same : goal.returns-in_ok-close-in-Ok-clause-same
returns-in_ok-close-in-Ok-clause-same c = λ k more.
    let self = c.args.self.now in
    let t = c.take_entries.ensures in
    let mid = record self.directories { packing = c.take_entries.new.packing } in
    let bytes = c.take_entries.new.rest.now ++ more in
    let same = subst
    (λ (p : Components). entries_from self.head.width p c.args.dir.count (entries_of self.directories.packing.pending) (c.args.rest.now.now ++ more) ≡ entries_from self.head.width p c.args.dir.count (entries_of mid.packing.pending) bytes)
    (c.of-above.ensures ∙ c.as_path_ref.ensures) (t.same more) in
    rest_filled k self.head self.directories mid c.args.dir (c.args.rest.now.now ++ more) bytes t.dirs refl same
    ∙ rest_closed k self.head mid c.args.dir c.close.new.self bytes c.in-Ok.ensures.whole (ap (λ (p : Packs). p.dirs) c.in_ok-close-in-Ok.ensures.packing) c.in_ok-close-in-Ok.ensures.flags
    ∙ sym (rest_at k (record self { directories = c.close.new.self }) None bytes c.requires.none)
