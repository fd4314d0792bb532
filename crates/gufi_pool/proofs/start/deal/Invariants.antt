use Rattle.std.proofs.Common.{◌≡◌, ◌+◌, map, take, sum_by}
use Rattle.gufi_pool.specs.Accounts.{Weight}
use Rattle.gufi_pool.specs.Members.{but_pushed, member_pushed}
use Rattle.gufi_pool.proofs.start.deal.Given as goal

abbrev pub invariant-loop-i : goal.invariant-loop-i
invariant-loop-i g l = record {
  same : map but_pushed l.members.items ≡ map but_pushed l.fn.members.items;
  pushed : (h : Weight) → sum_by (member_pushed h) l.members.items ≡ sum_by (member_pushed h) l.fn.members.items + sum_by h (take l.i l.tasks);
}
