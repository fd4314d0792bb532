use Rattle.gufi_users.specs.Users.{members_of}
use Rattle.gufi_users.specs.Members.{GidLists, noted_in, HaveMore}
use Rattle.gufi_users.proofs.MemberLemmas.{named_ones}
use Rattle.gufi_users.proofs.members.note_members.Given as goal

abbrev pub invariant-members : goal.invariant-members
invariant-members l =
    (after : GidLists) → HaveMore (λ name. noted_in name l.gid (named_ones l.member-iterator)) l.gids.entries after → HaveMore (λ name. noted_in name l.gid (members_of l.fn.members)) l.initial.gids.entries after
