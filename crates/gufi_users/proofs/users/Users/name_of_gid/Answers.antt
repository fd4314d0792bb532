use Rattle.std.proofs.Common.{◌∙◌, sym, ap}
use Rattle.std.specs.Prelude.{option_map}
use Rattle.gufi_users.specs.Entries.{GroupEntry}
use Rattle.gufi_users.proofs.PlaceLemmas.{found_nowhere, found_there}
use Rattle.gufi_users.proofs.users.Users.name_of_gid.Goals as goal

pub returns-in-None : goal.returns-in-None
returns-in-None c =
    rw (← c.self.view_is)
    (ap (option_map (λ (row : GroupEntry). row.name)) (found_nowhere (λ (row : GroupEntry). row.gid) c.args.gid c.self.inside.groups (sym (c.self.invariant.gids c.args.gid) ∙ sym c.in-None.ensures)))

pub returns-in-Some : goal.returns-in-Some
returns-in-Some c =
    rw (← c.self.view_is, found_there (λ (row : GroupEntry). row.gid) c.args.gid c.self.inside.groups c.in-Some.place (sym (c.self.invariant.gids c.args.gid) ∙ sym c.in-Some.ensures))
    c.name_at.ensures
