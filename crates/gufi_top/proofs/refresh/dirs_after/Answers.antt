use Rattle.std.proofs.Common.{◌≡◌, Some, sym, ◌∙◌, arith}
use Rattle.std.specs.Prelude.{option_map}
use Rattle.std.proofs.lemmas.Bool.{false≢true}
use Rattle.gufi_tree.specs.Tree.{place_of}
use Rattle.gufi_tree.specs.Places.{dir_id}
use Rattle.gufi_snap.proofs.Refusing.{not_found}
use Rattle.gufi_top.proofs.IndexCommands.{dirs_found, dirs_within}
use Rattle.gufi_top.proofs.refresh.dirs_after.Goals as goal

pub overflow_sub-dirs : goal.overflow_sub-dirs
overflow_sub-dirs c =
    let few = dirs_within c.args.tree.now c.args.path.now c.in-Some.at c.dirs-dirs.ensures.shape (sym c.find.ensures ∙ c.in-Some.is) in
    omega (arith, few)

pub returns-in-Some : goal.returns-in-Some
returns-in-Some c = λ there.
    let found : option_map dir_id (place_of c.args.tree.now c.args.path.now) ≡ Some c.in-Some.at = sym c.find.ensures ∙ c.in-Some.is in
    let whole = dirs_found c.args.tree.now c.args.part.now c.args.path.now c.in-Some.at c.dirs-dirs.ensures.shape c.dirs.ensures.shape found in
    omega (arith, whole)

pub returns-in-None : goal.returns-in-None
returns-in-None c = λ there. absurd (false≢true (sym (not_found c.args.tree.now c.args.path.now c.dirs-dirs.ensures.shape (sym c.find.ensures ∙ c.in-None.is)) ∙ there))
