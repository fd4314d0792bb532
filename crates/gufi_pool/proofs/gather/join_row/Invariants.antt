use Rattle.std.proofs.Common.{◌≡◌, ◌+◌, ◌++◌, map, length, sum_by}
use Rattle.gufi_pool.specs.Accounts.{Weight}
use Rattle.gufi_pool.specs.Members.{changed, routes_taken, but_share_and_taken, own_taken, member_share}
use Rattle.gufi_pool.proofs.gather.join_row.Given as goal

abbrev pub invariant-loop-route : goal.invariant-loop-route
invariant-loop-route g l = record {
  count : l.k ≡ length l.yielded;
  left : l.fn.routes.items ≡ l.yielded ++ l.route-iterator.rest.items;
  same : map but_share_and_taken l.members.items ≡ map but_share_and_taken l.fn.members.items;
  shares : map member_share l.members.items ≡ changed (λ n. n + 1) l.k (map member_share l.fn.members.items);
  taken : (h : Weight) → sum_by (own_taken h) l.members.items ≡ sum_by (own_taken h) l.fn.members.items + routes_taken h l.yielded;
}
