use Rattle.std.proofs.Common.{◌≡◌, ◌+◌, map, length, All, sum_by}
use Rattle.gufi_pool.specs.Accounts.{Weight, whole}
use Rattle.gufi_pool.specs.Members.{changed, new_route, but_share_and_routes, member_share, member_deque, route_frames, member_stolen}
use Rattle.gufi_pool.proofs.connect.connect.Given as goal

abbrev pub invariant-loop-k : goal.invariant-loop-k
invariant-loop-k g l = record {
  count : l.k-end ≡ length l.fn.members.items;
  same : map but_share_and_routes l.members.items ≡ map but_share_and_routes l.fn.members.items;
  shares : All (λ n. n + l.k ≡ whole) (map member_share l.members.items);
  leads : map route_frames l.members.items ≡ changed (λ _. map new_route (map member_deque l.fn.members.items)) l.k (map route_frames l.fn.members.items);
  unused : (h : Weight) → sum_by (member_stolen h) l.members.items ≡ 0;
}
