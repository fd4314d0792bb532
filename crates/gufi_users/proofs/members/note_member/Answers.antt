use Rattle.std.proofs.Common.{sym}
use Rattle.gufi_users.proofs.MemberLemmas.{member_noted}
use Rattle.gufi_users.proofs.members.note_member.Goals as goal

pub returns-in_ok-push-in-Some : goal.returns-in_ok-push-in-Some
returns-in_ok-push-in-Some c =
    member_noted c.args.gid c.args.member.now c.args.gids.now.entries _ c.in-Some.list.now c.push.new.self (sym c.in-Some.ensures.value) c.in_ok-push-in-Some.ensures.items
    (c.get_mut.follows.holds c.push.new.self).0
