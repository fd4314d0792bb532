-- A pattern may be shared by threads.
use denote.Param.Send.{IsSync, struct_sync, sendable}
use denote.Struct.Declared.{shape}
use Rattle.std.proofs.Crossing.{crosses}
use Rattle.regex_class.proofs.Class.TheSendSync as class
use Rattle.regex_hir.proofs.look.Look.TheSendSync as look
use Rattle.regex_hir.proofs.hir.Hir.TheLaws.TheKnot as knot
use Rattle.regex_hir.specs.contracts.hir.Hir as hir
use Rattle.regex_dfa.proofs.dfa.Dfa.TheSendSync as dfa
use Rattle.regex_syntax.proofs.Config.TheSendSync as config
use Rattle.regex_literal.proofs.caseless.Caseless.TheSendSync as caseless
use Rattle.regex_literal.proofs.prefilter.Prefilter.TheSendSync as prefilter
use Rattle.regex_literal.proofs.ladder.Ladder.TheSendSync as ladder
use Rattle.regex_extract.proofs.frames.Frame.TheSendSync as frame
use Rattle.regex_meta.specs.contracts.plan.Plan as plan
use Rattle.regex_meta.specs.contracts.plan.Plans as plans
use Rattle.regex_meta.specs.contracts.signs.Signs as signs
use Rattle.regex_meta.specs.contracts.program.Program as program
use Rattle.regex.specs.contracts.pattern.Pattern as pattern
use Rattle.regex.specs.contracts.bytes.regex.Regex as regex
use Rattle.gufi_pattern.specs.contracts.pattern.Pattern as built

pub hir_sync : IsSync (hir.the_field).row
hir_sync = search (knot.crosses, class.the_field_sync, look.the_field_sync, sendable, crosses) depth 20 fits 8000

pub hirs_sync : IsSync (hir.the_row)
hirs_sync = search (knot.crosses, class.the_field_sync, look.the_field_sync, sendable, crosses) depth 20 fits 8000

pub plan_sync : IsSync (plan.the_row)
plan_sync = search (hir_sync, prefilter.the_sync, ladder.the_field_sync, frame.the_field_sync, sendable, crosses) depth 30 fits 8000

pub plans_sync : IsSync (plans.the_field).row
plans_sync = struct_sync (shape plans.the_type) (search (plan_sync, sendable, crosses) depth 30, tt)

pub signs_sync : IsSync (signs.the_field).row
signs_sync = struct_sync (shape signs.the_type) (search (caseless.the_sync, sendable) depth 20, (search (sendable, crosses) depth 20, (search (hirs_sync, crosses) depth 20, (search (hirs_sync, crosses) depth 20, (search (sendable, crosses) depth 20, tt)))))

pub program_sync : IsSync (program.the_field).row
program_sync = struct_sync (shape program.the_type) (hir_sync, (dfa.the_field_sync, (plans_sync, (search (signs_sync, sendable, crosses) depth 30, (search (sendable, crosses) depth 30, (search (sendable, crosses) depth 30, (search (sendable, crosses) depth 30, (search (sendable, crosses) depth 30, tt))))))))

pub pattern_sync : IsSync (pattern.the_field).row
pattern_sync = struct_sync (shape pattern.the_type) (search (sendable, crosses) depth 20, (search (config.the_field_sync, sendable) depth 20, (search (sendable, crosses) depth 30, (program_sync, tt))))

pub regex_sync : IsSync (regex.the_field).row
regex_sync = struct_sync (shape regex.the_type) (pattern_sync, tt)

pub regex_row_sync : IsSync regex.the_row
regex_row_sync = search (regex_sync, sendable) depth 10

pub built_sync : IsSync built.the_row
built_sync = search (regex_sync, sendable) depth 12
