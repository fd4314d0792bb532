use Rattle.std.proofs.Common.{◌∙◌, [], ◌∷◌, ◌++◌, map, ap, arith}
use Rattle.std.proofs.lemmas.List.{map-append}
use Rattle.std.proofs.lemmas.Result.{err_from_is_err_and}
use Rattle.gufi_tree.specs.Bundles.{directory_in}
use Rattle.gufi_tree.proofs.GoingOn.{directories-goes_on, IsBundle-goes_on, IsBundle-push}
use Rattle.gufi_tree.proofs.bundle.Bundle.push.Goals as goal

pub returns-in_err-head-clause-unchanged : goal.returns-in_err-head-clause-unchanged
returns-in_err-head-clause-unchanged c =
    let p = err_from_is_err_and c.from_residual.result c.from_residual.ensures.1 in
    rw p.1 (directories-goes_on _ _ _ _ c.pack_directory.ensures.goes_on c.self.invariant.packed c.self.inside.heads c.self.invariant.each ∙ c.self.view_is)

pub invariant_of-self-in_err-push : goal.invariant_of-self-in_err-push
invariant_of-self-in_err-push c =
    rw c.in_err-push.ensures.unchanged (IsBundle-goes_on _ _ _ _ c.pack_directory.ensures.goes_on c.self.invariant.packed c.self.inside.heads c.self.inside.longest c.self.invariant)

pub returns-in_err-push-clause-unchanged : goal.returns-in_err-push-clause-unchanged
returns-in_err-push-clause-unchanged c =
    let p = err_from_is_err_and c.from_residual-in_err-push.result c.from_residual-in_err-push.ensures.1 in
    rw p.1 (ap (map (directory_in c.pack_directory.new.text.items c.pack_directory.new.rows)) c.in_err-push.ensures.unchanged
    ∙ directories-goes_on _ _ _ _ c.pack_directory.ensures.goes_on c.self.invariant.packed c.self.inside.heads c.self.invariant.each ∙ c.self.view_is)

pub invariant_of-self-2 : goal.invariant_of-self-2
invariant_of-self-2 c =
    let most = c.max-self-inside.ensures in
    rw c.in_ok-push.ensures.pushed (IsBundle-push _ _ c.self.inside.heads c.self.inside.longest c.max-self-inside.result c.in_ok-head.head
    (IsBundle-goes_on _ _ _ _ c.pack_directory.ensures.goes_on c.self.invariant.packed c.self.inside.heads c.self.inside.longest c.self.invariant) c.in_ok-head.ensures.head (omega arith) (omega arith))

pub returns-clause-pushed : goal.returns-clause-pushed
returns-clause-pushed c =
    let see = directory_in c.pack_directory.new.text.items c.pack_directory.new.rows in
    let heads = c.self.inside.heads in
    ap (map see) c.in_ok-push.ensures.pushed ∙ map-append see heads (c.in_ok-head.head ∷ [])
    ∙ ap (λ ds. ds ++ see c.in_ok-head.head ∷ []) (directories-goes_on _ _ _ _ c.pack_directory.ensures.goes_on c.self.invariant.packed heads c.self.invariant.each ∙ c.self.view_is)
    ∙ ap (λ d. c.args.self.now ++ d ∷ []) c.in_ok-head.ensures.directory
