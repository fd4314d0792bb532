use Rattle.std.proofs.Common.{rules, arith, ◌≡◌, ◌∷◌, true, false, sym, subst}
use Rattle.std.proofs.lemmas.Grind.{common_steps}
use Rattle.gufi_base.specs.Basics.{is_empty}
use Rattle.gufi_users.specs.Members.{noted_in, HaveMore}
use Rattle.gufi_users.proofs.MemberLemmas.{members_more, members_same}
use Rattle.gufi_users.proofs.members.note_members.Goals as goal

pub members-preserved-then-is_empty : goal.members-preserved-then-is_empty
members-preserved-then-is_empty c =
    let more : c.members.member-iterator ≡ c.in-Some.member.now ∷ c.next.new.self = (first_of (search rules, grind (arith, common_steps))) in
    let empty : is_empty c.in-Some.member.now ≡ true = (first_of (search rules, grind (arith, common_steps))) in
    λ after have. c.members.invariant after
    (subst (λ ones. HaveMore (λ name. noted_in name c.args.gid ones) c.members.gids.entries after) (sym (members_same c.members.member-iterator c.next.new.self c.in-Some.member.now more empty)) have)

pub members-preserved : goal.members-preserved
members-preserved c =
    let more : c.members.member-iterator ≡ c.in-Some.member.now ∷ c.next.new.self = (first_of (search rules, grind (arith, common_steps))) in
    let named : is_empty c.in-Some.member.now ≡ false = (first_of (search rules, grind (arith, common_steps))) in
    λ after have. c.members.invariant after
    (members_more c.args.gid c.members.member-iterator c.next.new.self c.in-Some.member.now c.members.gids.entries c.note_member.new.gids.entries more named c.in_ok-note_member.ensures after have)
