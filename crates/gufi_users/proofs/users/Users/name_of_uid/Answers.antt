use Rattle.std.proofs.Common.{◌∙◌, sym, ap}
use Rattle.std.specs.Prelude.{option_map}
use Rattle.gufi_users.specs.Entries.{PasswdEntry}
use Rattle.gufi_users.proofs.PlaceLemmas.{found_nowhere, found_there}
use Rattle.gufi_users.proofs.users.Users.name_of_uid.Goals as goal

pub returns-in-None : goal.returns-in-None
returns-in-None c =
    rw (← c.self.view_is)
    (ap (option_map (λ (row : PasswdEntry). row.name)) (found_nowhere (λ (row : PasswdEntry). row.uid) c.args.uid c.self.inside.passwd (sym (c.self.invariant.uids c.args.uid) ∙ sym c.in-None.ensures)))

pub returns-in-Some : goal.returns-in-Some
returns-in-Some c =
    rw (← c.self.view_is, found_there (λ (row : PasswdEntry). row.uid) c.args.uid c.self.inside.passwd c.in-Some.place (sym (c.self.invariant.uids c.args.uid) ∙ sym c.in-Some.ensures))
    c.name_at.ensures
