use Rattle.std.proofs.Common.{◌≡◌, List, None, Some, sym, ap, ◌∙◌, subst}
use Rattle.std.specs.Prelude.{option_map}
use Rattle.gufi_base.specs.Basics.{GivesUnless}
use Rattle.gufi_base.specs.Paths.{Components}
use Rattle.gufi_tree.specs.Tree.{Directory, place_of}
use Rattle.gufi_tree.specs.Places.{dir_id}
use Rattle.gufi_snap.specs.Refreshed.{refreshed}
use Rattle.gufi_snap.specs.declared.refresh.RefreshFault.TheVariants.{Memory}
use Rattle.gufi_snap.proofs.Refusing.{gives_not_there, not_found, found_path}
use Rattle.gufi_snap.proofs.snapshot.Snapshot.refresh.Goals as goal

pub returns-in_default-clause-snapshot : goal.returns-in_default-clause-snapshot
returns-in_default-clause-snapshot g c = λ other.
    let tree = c.args.self.now.tree in
    let found : option_map dir_id (place_of tree c.args.at.now) ≡ None =
    ap (λ (t : List Directory). option_map dir_id (place_of t c.args.at.now)) (sym c.tree.ensures.tree) ∙ sym c.find.ensures ∙ c.in_default.is in
    gives_not_there c.args.self.now c.args.at.now c.args.part (not_found tree c.args.at.now c.tree.ensures.shape found)

pub returns-clause-snapshot : goal.returns-clause-snapshot
returns-clause-snapshot g c =
    let tree = c.args.self.now.tree in
    let found : option_map dir_id (place_of tree c.args.at.now) ≡ Some c.in-Some.id =
    ap (λ (t : List Directory). option_map dir_id (place_of t c.args.at.now)) (sym c.tree.ensures.tree) ∙ sym c.find.ensures ∙ c.in-Some.is in
    subst (λ (ds : List Directory). GivesUnless Memory c.refresh_at.result (refreshed c.args.self.now c.args.at.now ds)) c.in_ok-part.ensures.contents
    (subst (λ (p : Components). GivesUnless Memory c.refresh_at.result (refreshed c.args.self.now p c.in_ok-part.part)) (found_path tree c.args.at.now c.in-Some.id found) c.refresh_at.ensures)
