use Rattle.gufi_users.proofs.MemberLemmas.{groups_noted}
use Rattle.gufi_users.proofs.group.Groups.note_gids.Goals as goal

pub returns : goal.returns
returns c = groups_noted c.self.inside.rows.entries c.args.self.now c.args.gids.now.entries c.note_groups.new.gids.entries c.self.view_is c.in_ok-note_groups.ensures
