use Rattle.std.proofs.Common.{rules, arith, ◌≡◌, ◌∷◌}
use Rattle.std.proofs.lemmas.Grind.{common_steps}
use Rattle.gufi_users.proofs.MemberLemmas.{groups_more}
use Rattle.gufi_users.proofs.members.note_groups.Goals as goal

pub groups-preserved : goal.groups-preserved
groups-preserved c =
    let more : c.groups.group-iterator ≡ c.in-Some.group.now ∷ c.next.new.self = (first_of (search rules, grind (arith, common_steps))) in
    λ after have. c.groups.invariant after
    (groups_more c.groups.group-iterator c.next.new.self c.in-Some.group.now c.as_slice.result.now c.groups.gids.entries c.note_members.new.gids.entries more c.as_slice.ensures
    c.in_ok-note_members.ensures after have)
