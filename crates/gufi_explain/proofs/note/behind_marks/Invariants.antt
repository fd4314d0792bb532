use Rattle.std.proofs.Common.{◌≡◌, ◌-◌}
use Rattle.gufi_explain.specs.Notes.{behind_marks}
use Rattle.gufi_explain.proofs.note.behind_marks.Given as goal

abbrev pub invariant-loop-passed : goal.invariant-loop-passed
invariant-loop-passed l = behind_marks l.mark l.count l.text ≡ behind_marks l.mark (l.count - l._passed) l.rest
