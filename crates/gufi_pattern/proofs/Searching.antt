-- A search for a pattern may be sent to another thread.
use denote.Ref.{NamedLft}
use denote.Param.Send.{IsSend, struct_send, view_send, sendable}
use denote.Struct.Declared.{shape}
use Rattle.std.proofs.Crossing.{crosses, Box-send, Vec-send}
use Rattle.regex_dfa.proofs.forward.Forward.TheSendSync as forward
use Rattle.regex_dfa.proofs.reverse.Reverse.TheSendSync as reverse
use Rattle.regex_tagged.proofs.search.Tagged.TheSendSync as tagged
use Rattle.regex_bits.proofs.build.Bits.TheSendSync as bits
use Rattle.regex_vm.proofs.pikevm.PikeVm.TheSendSync as pikevm
use Rattle.regex_literal.proofs.caseless.Room.TheSendSync as room
use Rattle.regex_meta.proofs.head.Head.TheSendSync as head
use Rattle.regex_meta.proofs.branch.Tail.TheSendSync as tail
use Rattle.regex_meta.proofs.branch.Means.TheSendSync as means
use Rattle.regex_meta.proofs.pace.Pace.TheSendSync as pace
use Rattle.regex_meta.proofs.gait.Gait.TheSendSync as gait
use Rattle.regex_meta.proofs.choice.Choice.TheSendSync as choice
use Rattle.regex_meta.specs.contracts.branch.Branch as branch
use Rattle.regex_meta.specs.contracts.branches.Branches as branches
use Rattle.regex_meta.specs.contracts.searcher.Searcher as searcher
use Rattle.regex_meta.specs.contracts.searcher.apart.Apart as apart
use Rattle.regex.specs.contracts.engine.Engine as engine
use Rattle.regex.specs.contracts.bytes.matcher.Matcher as matcher
use Rattle.gufi_pattern.specs.contracts.pattern.Search as search_of
use Rattle.gufi_pattern.specs.contracts.pattern.Search.TheInside as search_inside
use Rattle.gufi_pattern.proofs.Sharing.{hirs_sync, signs_sync, program_sync, regex_row_sync}

branch_send : (κ : NamedLft) → IsSend (branch.the_field κ).row
branch_send κ = struct_send (shape (branch.the_type κ)) (
  search (hirs_sync, sendable, crosses) depth 20,
  (
    search (hirs_sync, sendable, crosses) depth 20,
    (
      search (sendable, crosses) depth 20,
      (
        search (head.the_send, sendable, crosses) depth 20,
        (
          search (tail.the_send, sendable, crosses) depth 20,
          (
            search (sendable, crosses) depth 20,
            (search (sendable, crosses) depth 20, tt),
          ),
        ),
      ),
    ),
  ),
)

branch_row_send : (κ : NamedLft) → IsSend (branch.the_row κ)
branch_row_send κ = search (branch_send κ, sendable) depth 10

branches_send : (κ : NamedLft) → IsSend (branches.the_field κ).row
branches_send κ = struct_send (shape (branches.the_type κ)) (
  search (hirs_sync, sendable, crosses) depth 20,
  (
    search (signs_sync, sendable, crosses) depth 20,
    (
      Vec-send _ (branch_row_send κ),
      (
        search (sendable, crosses) depth 20,
        (
          means.the_field_send κ,
          (search (sendable, crosses) depth 20, tt),
        ),
      ),
    ),
  ),
)

apart_send : (κ : NamedLft) → IsSend (apart.the_field κ).row
apart_send κ = struct_send (shape (apart.the_type κ)) (branches_send κ, (room.the_field_send, (choice.the_field_send, tt)))

apart_row_send : (κ : NamedLft) → IsSend (apart.the_row κ)
apart_row_send κ = search (apart_send κ, sendable) depth 10

searcher_send : (κ : NamedLft) → IsSend (searcher.the_field κ).row
searcher_send κ = struct_send (shape (searcher.the_type κ)) (
  search (program_sync, sendable, crosses) depth 20,
  (
    search (sendable, crosses) depth 20,
    (
      forward.the_field_send,
      (
        forward.the_field_send,
        (
          reverse.the_field_send,
          (
            tagged.the_field_send,
            (
              search (bits.the_send, sendable, crosses) depth 20,
              (
                search (sendable, crosses) depth 20,
                (
                  search (pikevm.the_send, sendable, crosses) depth 20,
                  (
                    search (sendable, crosses) depth 20,
                    (
                      pace.the_field_send,
                      (
                        gait.the_field_send,
                        (
                          search (head.the_send, sendable, crosses) depth 20,
                          (
                            search (sendable, crosses) depth 20,
                            (
                              let boxed = Box-send _ (apart_row_send κ) in search (boxed, sendable) depth 20,
                              (search (sendable, crosses) depth 20, tt),
                            ),
                          ),
                        ),
                      ),
                    ),
                  ),
                ),
              ),
            ),
          ),
        ),
      ),
    ),
  ),
)

engine_send : (κ : NamedLft) → IsSend (engine.the_field κ).row
engine_send κ = struct_send (shape (engine.the_type κ)) (search (sendable, crosses) depth 20, (searcher_send κ, (search (sendable, crosses) depth 20, tt)))

matcher_send : (κ : NamedLft) → IsSend (matcher.the_field κ).row
matcher_send κ = struct_send (shape (matcher.the_type κ)) (engine_send κ, tt)

matcher_row_send : (κ : NamedLft) → IsSend (matcher.the_row κ)
matcher_row_send κ = search (matcher_send κ, sendable) depth 10

search_fields_send : (κ : NamedLft) → IsSend (search_inside.the_field κ).row
search_fields_send κ = struct_send (shape (search_inside.the_type κ)) (search (regex_row_sync, sendable) depth 20, (matcher_send κ, tt))

pub search_send : (κ : NamedLft) → IsSend (search_of.the_row κ)
search_send κ = let inside : IsSend (search_inside.the_row κ) = search (search_fields_send κ, sendable) depth 10 in view_send (search_inside.the_row κ) _ _ _ _ inside
