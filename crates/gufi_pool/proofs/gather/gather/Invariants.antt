use Rattle.std.proofs.Common.{◌≡◌, ◌+◌, [], map, length, All, sum_by}
use Rattle.gufi_pool.specs.Accounts.{Weight, whole}
use Rattle.gufi_pool.specs.Members.{changed, own_deque_and_piece, own_taken, member_share, member_routes, member_stolen}
use Rattle.gufi_pool.proofs.gather.gather.Given as goal

abbrev pub invariant-loop-k : goal.invariant-loop-k
invariant-loop-k g l = record {
  count : l.k-end ≡ length l.fn.members.items;
  same : map own_deque_and_piece l.members.items ≡ map own_deque_and_piece l.fn.members.items;
  shares : All (λ n. n + length l.fn.members.items ≡ whole + l.k) (map member_share l.members.items);
  routes : map member_routes l.members.items ≡ changed (λ _. []) l.k (map member_routes l.fn.members.items);
  taken : (h : Weight) → sum_by (own_taken h) l.members.items + sum_by (member_stolen h) l.members.items ≡ sum_by (own_taken h) l.fn.members.items + sum_by (member_stolen h) l.fn.members.items;
}
