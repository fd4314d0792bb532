use Rattle.std.proofs.Common.{map, ◌≡◌, length}
use Rattle.gufi_pool.specs.Accounts.{Weight}
use Rattle.gufi_pool.specs.Members.{route_frame, routes_taken}
use Rattle.gufi_pool.proofs.work.steal_any.Given as goal

abbrev pub invariant-loop-k : goal.invariant-loop-k
invariant-loop-k g l = record {
  count : l.k-end ≡ length l.routes.items;
  frame : map route_frame l.routes.items ≡ map route_frame l.fn.routes.items;
  taken : (h : Weight) → routes_taken h l.routes.items ≡ routes_taken h l.fn.routes.items;
}
