-- A tester of a SELECT may be sent to another thread, with its search for a pattern.
use denote.Ref.{NamedLft}
use denote.Param.Send.{IsSend, struct_send, view_send, sendable}
use denote.Struct.Declared.{shape}
use Rattle.std.proofs.Crossing.{crosses}
use Rattle.gufi_select.specs.contracts.regexp.RegexpSearch as regexp_search
use Rattle.gufi_select.specs.contracts.regexp.RegexpSearch.TheInside as regexp_search_inside
use Rattle.gufi_select.specs.contracts.select.SelectTester as tester
use Rattle.gufi_select.specs.contracts.select.SelectTester.TheInside as tester_inside
use Rattle.gufi_pattern.proofs.Searching.{search_send}
use Rattle.gufi_select.proofs.Sharing.{select_sync}
use Rattle.gufi_select.proofs.Sending.{column_send}

regexp_search_fields_send : (κ : NamedLft) → IsSend (regexp_search_inside.the_field κ).row
regexp_search_fields_send κ = struct_send (shape (regexp_search_inside.the_type κ)) (column_send, (search_send κ, (search (sendable, crosses) depth 20, tt)))

regexp_search_send : (κ : NamedLft) → IsSend (regexp_search.the_row κ)
regexp_search_send κ = let inside : IsSend (regexp_search_inside.the_row κ) = search (regexp_search_fields_send κ, sendable) depth 10 in view_send (regexp_search_inside.the_row κ) _ _ _ _ inside

tester_fields_send : (κ : NamedLft) → IsSend (tester_inside.the_field κ).row
tester_fields_send κ = struct_send (shape (tester_inside.the_type κ)) (search (select_sync, sendable) depth 20, (search (regexp_search_send κ, sendable) depth 20, tt))

pub select_tester_send : (κ : NamedLft) → IsSend (tester.the_row κ)
select_tester_send κ = let inside : IsSend (tester_inside.the_row κ) = search (tester_fields_send κ, sendable) depth 10 in view_send (tester_inside.the_row κ) _ _ _ _ inside
