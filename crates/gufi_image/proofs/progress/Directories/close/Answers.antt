use Rattle.std.proofs.Common.{◌≡◌, ap, ◌∷◌, [], length, length-append, arith}
use Rattle.gufi_tree.specs.Packs.{Packs, entries_of}
use Rattle.gufi_tree.specs.Tree.{Directory}
use Rattle.gufi_image.specs.Widths.{has_names}
use Rattle.gufi_image.specs.Views.{directory_in}
use Rattle.gufi_image.proofs.DirectoryLoop.{needed_close}
use Rattle.gufi_image.proofs.progress.Directories.close.Goals as goal

pub is_needed-self-requires : goal.is_needed-self-requires
is_needed-self-requires c =
    let old = c.args.self.now.packing in
    let d : Directory = record { path = c.as_path_ref.result; rec = c.as_rec_ref.result; entries = entries_of old.pending } in
    omega (arith, ap (λ (p : Packs). length p.dirs) c.in_ok-close.ensures, length-append old.dirs (d ∷ []))

pub returns-clause-needed : goal.returns-clause-needed
returns-clause-needed c =
    let old = c.args.self.now.packing in
    let d : Directory = record { path = c.as_path_ref.result; rec = c.as_rec_ref.result; entries = entries_of old.pending } in
    let same : d ≡ directory_in c.args.dir (entries_of old.pending) = λ i. record { path = c.as_path_ref.ensures i; rec = c.as_rec_ref.ensures i; entries = entries_of old.pending } in
    needed_close c.args.self.now.needed (has_names c.args.width) c.is_needed-self.result c.args.width old.dirs c.close.new.self.dirs d (directory_in c.args.dir (entries_of old.pending)) (ap (λ (p : Packs). p.dirs) c.in_ok-close.ensures) same (c.is_needed-self.ensures d)
