use Rattle.std.proofs.Common.{◌∙◌, sym}
use Rattle.gufi_users.proofs.TableLemmas.{group_found}
use Rattle.gufi_users.proofs.group.Groups.gid_named.Goals as goal

pub returns : goal.returns
returns c = rw (← c.self.view_is) (c.gid_in.ensures ∙ sym (group_found c.args.name.now c.self.inside.rows.entries))
