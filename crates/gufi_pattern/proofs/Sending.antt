-- A pattern may be sent to another thread.
use denote.Param.Send.{IsSend, struct_send, sendable}
use denote.Struct.Declared.{shape}
use Rattle.std.proofs.Crossing.{crosses}
use Rattle.regex_class.proofs.Class.TheSendSync as class
use Rattle.regex_hir.proofs.look.Look.TheSendSync as look
use Rattle.regex_hir.proofs.hir.Hir.TheLaws.TheKnot as knot
use Rattle.regex_hir.specs.contracts.hir.Hir as hir
use Rattle.regex_dfa.proofs.dfa.Dfa.TheSendSync as dfa
use Rattle.regex_syntax.proofs.Config.TheSendSync as config
use Rattle.regex_literal.proofs.caseless.Caseless.TheSendSync as caseless
use Rattle.regex_literal.proofs.prefilter.Prefilter.TheSendSync as prefilter
use Rattle.regex_literal.proofs.ladder.Ladder.TheSendSync as ladder
use Rattle.regex_extract.proofs.frames.Frame.TheSendSync as frame
use Rattle.regex_meta.specs.contracts.plan.Plan as plan
use Rattle.regex_meta.specs.contracts.plan.Plans as plans
use Rattle.regex_meta.specs.contracts.signs.Signs as signs
use Rattle.regex_meta.specs.contracts.program.Program as program
use Rattle.regex.specs.contracts.pattern.Pattern as pattern
use Rattle.regex.specs.contracts.bytes.regex.Regex as regex
use Rattle.gufi_pattern.specs.contracts.pattern.Pattern as built

pub hir_send : IsSend (hir.the_field).row
hir_send = search (knot.crosses, class.the_field_send, look.the_field_send, sendable, crosses) depth 20 fits 8000

pub hirs_send : IsSend (hir.the_row)
hirs_send = search (knot.crosses, class.the_field_send, look.the_field_send, sendable, crosses) depth 20 fits 8000

pub plan_send : IsSend (plan.the_row)
plan_send = search (hir_send, prefilter.the_send, ladder.the_field_send, frame.the_field_send, sendable, crosses) depth 30 fits 8000

pub plans_send : IsSend (plans.the_field).row
plans_send = struct_send (shape plans.the_type) (search (plan_send, sendable, crosses) depth 30, tt)

pub signs_send : IsSend (signs.the_field).row
signs_send = struct_send (shape signs.the_type) (search (caseless.the_send, sendable) depth 20, (search (sendable, crosses) depth 20, (search (hirs_send, crosses) depth 20, (search (hirs_send, crosses) depth 20, (search (sendable, crosses) depth 20, tt)))))

pub program_send : IsSend (program.the_field).row
program_send = struct_send (shape program.the_type) (hir_send, (dfa.the_field_send, (plans_send, (search (signs_send, sendable, crosses) depth 30, (search (sendable, crosses) depth 30, (search (sendable, crosses) depth 30, (search (sendable, crosses) depth 30, (search (sendable, crosses) depth 30, tt))))))))

pub pattern_send : IsSend (pattern.the_field).row
pattern_send = struct_send (shape pattern.the_type) (search (sendable, crosses) depth 20, (search (config.the_field_send, sendable) depth 20, (search (sendable, crosses) depth 30, (program_send, tt))))

pub regex_send : IsSend (regex.the_field).row
regex_send = struct_send (shape regex.the_type) (pattern_send, tt)

pub regex_row_send : IsSend regex.the_row
regex_row_send = search (regex_send, sendable) depth 10

pub built_send : IsSend built.the_row
built_send = search (regex_send, sendable) depth 12
