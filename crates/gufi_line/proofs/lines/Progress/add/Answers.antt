use Rattle.std.proofs.Common.{Bool, subst}
use Rattle.gufi_line.specs.Taken.{AddsNext}
use Rattle.gufi_line.proofs.LinesTaken.{line_taken}
use Rattle.gufi_line.proofs.SoundLines.{settled_behind}
use Rattle.gufi_line.proofs.lines.Progress.add.Goals as goal

pub returns-then-taken-clause-ok : goal.returns-then-taken-clause-ok
returns-then-taken-clause-ok c =
    let next = subst (λ (b : Bool). AddsNext b c.args.delim c.args.self.now.root c.args.text.now c.args.self.now.lines c.add_usual.new.lines) c.if-taken.true c.in_ok-taken.ensures in
    line_taken c.args.delim c.args.self.now c.args.self.now c.args.text.now next.0 c.add_usual.new.lines (settled_behind c.args.delim c.args.self.now c.args.text.now next.1.behind) next.1.reads next.2
