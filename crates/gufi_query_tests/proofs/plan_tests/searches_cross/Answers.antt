use denote.Param.Send.{sendable}
use Rattle.gufi_plan.proofs.Sharing.{shared_send, shared_sync}
use Rattle.gufi_query_tests.proofs.plan_tests.searches_cross.Goals as goal

-- a search may be asked in another thread, and in many at once
pub crosses-requires-send-T : goal.crosses-requires-send-T
crosses-requires-send-T c κs = search (shared_send, sendable) depth 10

pub crosses-requires-sync-T : goal.crosses-requires-sync-T
crosses-requires-sync-T c κs = search (shared_sync, sendable) depth 10
