use Rattle.std.proofs.Common.{◌≡◌, ℕ, Vec, Global, List, IfSome, option_map, sym, subst, ◌∙◌}
use Rattle.gufi_users.specs.Members.{noted}
use Rattle.gufi_users.proofs.askers.Askers.principal.Goals as goal

pub principal_in-requires : goal.principal_in-requires
principal_in-requires c =
    c.deref.ensures.value
    ∙ subst (λ found. IfSome (option_map (λ (gids : Vec ℕ Global). gids.items) found) (λ (gids : List ℕ). gids ≡ noted c.args.word.now c.self.inside.users.now.groups)) (sym c.in-Some.ensures.value)
    (c.self.invariant c.args.word.now)
