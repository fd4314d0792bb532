use Rattle.std.proofs.Common.{◌≡◌}
use Rattle.gufi_pool.specs.Members.{route_view, route_frame}
use Rattle.gufi_pool.proofs.member.Route.steal.Given as goal

abbrev pub invariant-loop : goal.invariant-loop
invariant-loop g l = record {
  frame : route_frame l.self ≡ route_frame l.fn.self;
  view : route_view l.self ≡ route_view l.fn.self;
}
