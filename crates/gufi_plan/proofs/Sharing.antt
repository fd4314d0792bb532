-- A search may cross threads.
use denote.Param.Send.{IsSend, IsSync, sendable}
use Rattle.std.proofs.Crossing.{crosses}
use Rattle.gufi_find.proofs.expression.FindExpr.TheSendSync as find
use Rattle.gufi_access.specs.contracts.class.Principal as principal
use Rattle.gufi_cache.specs.contracts.principal.SharedPrincipal as who
use Rattle.gufi_base.specs.contracts.list.Bytes as bytes
use Rattle.gufi_base.specs.contracts.path.Path as path
use Rattle.gufi_select.proofs.Sending.{select_send}
use Rattle.gufi_select.proofs.Sharing.{select_sync}
use Rattle.gufi_plan.specs.contracts.search.Query as query
use Rattle.gufi_plan.specs.contracts.search.Search as asked
use Rattle.gufi_plan.specs.contracts.search.SharedSearch as shared

bytes_send : IsSend bytes.the_row
bytes_send = search (sendable, crosses) depth 30 fits 8000

bytes_sync : IsSync bytes.the_row
bytes_sync = search (sendable, crosses) depth 30 fits 8000

path_send : IsSend path.the_row
path_send = search (sendable, crosses) depth 30 fits 8000

path_sync : IsSync path.the_row
path_sync = search (sendable, crosses) depth 30 fits 8000

principal_send : IsSend (principal.the_field).row
principal_send = search (sendable, crosses) depth 30 fits 8000

principal_sync : IsSync (principal.the_field).row
principal_sync = search (sendable, crosses) depth 30 fits 8000

principal_row_send : IsSend principal.the_row
principal_row_send = search (principal_send, sendable) depth 10

principal_row_sync : IsSync principal.the_row
principal_row_sync = search (principal_sync, sendable) depth 10

who_send : IsSend who.the_row
who_send = search (principal_row_send, principal_row_sync, sendable, crosses) depth 20

who_sync : IsSync who.the_row
who_sync = search (principal_row_send, principal_row_sync, sendable, crosses) depth 20

query_send : IsSend (query.the_field).row
query_send = search (find.the_send, select_send, sendable) depth 20

query_sync : IsSync (query.the_field).row
query_sync = search (find.the_sync, select_sync, sendable) depth 20

search_send : IsSend (asked.the_field).row
search_send = search (who_send, path_send, query_send, bytes_send, sendable) depth 20

search_sync : IsSync (asked.the_field).row
search_sync = search (who_sync, path_sync, query_sync, bytes_sync, sendable) depth 20

pub search_row_send : IsSend asked.the_row
search_row_send = search (search_send, sendable) depth 10

pub search_row_sync : IsSync asked.the_row
search_row_sync = search (search_sync, sendable) depth 10

pub shared_send : IsSend shared.the_row
shared_send = search (search_row_send, search_row_sync, sendable, crosses) depth 20

pub shared_sync : IsSync shared.the_row
shared_sync = search (search_row_send, search_row_sync, sendable, crosses) depth 20
