use Rattle.std.proofs.Common.{◌≡◌, ◌-◌, map, length, take}
use Rattle.gufi_pool.specs.Accounts.{Weight}
use Rattle.gufi_pool.specs.Members.{changed, new_route, route_frame, routes_taken, but_share, member_share, member_deque}
use Rattle.gufi_pool.proofs.connect.row.Given as goal

abbrev pub invariant-loop-k : goal.invariant-loop-k
invariant-loop-k g l = record {
  count : l.k-end ≡ length l.fn.members.items;
  same : map but_share l.members.items ≡ map but_share l.fn.members.items;
  shares : map member_share l.members.items ≡ changed (λ n. n - 1) l.k (map member_share l.fn.members.items);
  row : map route_frame l.routes.items ≡ map new_route (take l.k (map member_deque l.fn.members.items));
  taken : (h : Weight) → routes_taken h l.routes.items ≡ 0;
}
