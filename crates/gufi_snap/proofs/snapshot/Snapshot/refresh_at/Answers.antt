use Rattle.std.proofs.Common.{◌≡◌, List, true, false, Ok, sym, ap, ◌∙◌}
use Rattle.gufi_tree.specs.Tree.{Directory, is_too_large}
use Rattle.gufi_tree.specs.Places.{path_at}
use Rattle.gufi_tree.specs.Graft.{graft, is_too_deep}
use Rattle.gufi_snap.proofs.Counting.{rows_fit}
use Rattle.gufi_snap.proofs.Refusing.{is_there, gives_too_many, gives_too_deep, gives_graft}
use Rattle.gufi_snap.proofs.snapshot.Snapshot.refresh_at.Goals as goal

pub returns-then-is_graft_too_large : goal.returns-then-is_graft_too_large
returns-then-is_graft_too_large c = λ other.
    let k = c.args.at.0 in
    let large : is_too_large (graft c.args.self.now.tree (path_at c.args.self.now.tree k) c.args.part.now) ≡ true =
    ap (λ (t : List Directory). is_too_large (graft t (path_at t k) c.args.part.now)) (sym c.contents.ensures) ∙ sym c.is_graft_too_large.ensures ∙ c.if-is_graft_too_large.true in
    gives_too_many c.args.self.now (path_at c.args.self.now.tree k) c.args.part.now (is_there c.args.self.now.tree k c.requires) large

pub returns-then-is_graft_too_deep : goal.returns-then-is_graft_too_deep
returns-then-is_graft_too_deep c = λ other.
    let k = c.args.at.0 in
    let large : is_too_large (graft c.args.self.now.tree (path_at c.args.self.now.tree k) c.args.part.now) ≡ false =
    ap (λ (t : List Directory). is_too_large (graft t (path_at t k) c.args.part.now)) (sym c.contents.ensures) ∙ sym c.is_graft_too_large.ensures ∙ c.if-is_graft_too_large.false in
    let deep : is_too_deep (graft c.args.self.now.tree (path_at c.args.self.now.tree k) c.args.part.now) ≡ true =
    ap (λ (t : List Directory). is_too_deep (graft t (path_at t k) c.args.part.now)) (sym c.tree.ensures.tree)
    ∙ ap (λ (t : List Directory). is_too_deep (graft c.tree.result.now (path_at c.tree.result.now k) t)) (sym c.tree-2.ensures.tree) ∙ sym c.is_graft_too_deep.ensures ∙ c.if-is_graft_too_deep.true in
    gives_too_deep c.args.self.now (path_at c.args.self.now.tree k) c.args.part.now (is_there c.args.self.now.tree k c.requires) large deep

pub replaced-requires-clause-few : goal.replaced-requires-clause-few
replaced-requires-clause-few c =
    let k = c.args.at.0 in
    let large : is_too_large (graft c.args.self.now.tree (path_at c.args.self.now.tree k) c.args.part.now) ≡ false =
    ap (λ (t : List Directory). is_too_large (graft t (path_at t k) c.args.part.now)) (sym c.contents.ensures) ∙ sym c.is_graft_too_large.ensures ∙ c.if-is_graft_too_large.false in
    rows_fit (graft c.args.self.now.tree (path_at c.args.self.now.tree k) c.args.part.now) large

pub returns : goal.returns
returns c =
    let k = c.args.at.0 in
    let large : is_too_large (graft c.args.self.now.tree (path_at c.args.self.now.tree k) c.args.part.now) ≡ false =
    ap (λ (t : List Directory). is_too_large (graft t (path_at t k) c.args.part.now)) (sym c.contents.ensures) ∙ sym c.is_graft_too_large.ensures ∙ c.if-is_graft_too_large.false in
    let deep : is_too_deep (graft c.args.self.now.tree (path_at c.args.self.now.tree k) c.args.part.now) ≡ false =
    ap (λ (t : List Directory). is_too_deep (graft t (path_at t k) c.args.part.now)) (sym c.tree.ensures.tree)
    ∙ ap (λ (t : List Directory). is_too_deep (graft c.tree.result.now (path_at c.tree.result.now k) t)) (sym c.tree-2.ensures.tree) ∙ sym c.is_graft_too_deep.ensures ∙ c.if-is_graft_too_deep.false in
    gives_graft c.args.self.now (path_at c.args.self.now.tree k) c.args.part.now (is_there c.args.self.now.tree k c.requires) large deep ∙ ap Ok (sym c.in_ok-replaced.ensures)
