use Rattle.std.proofs.Common.{[], ◌++◌, List, ℕ, sym, ap, ◌∙◌}
use Rattle.gufi_base.specs.Basics.{all_but_last, last_of}
use Rattle.gufi_line.specs.Progress.{lines_from}
use Rattle.gufi_base.proofs.Cuts.{split_behind, split_some}
use Rattle.gufi_trace.proofs.reader.take_piece.Goals as goal

pub lines-init : goal.lines-init
lines-init c =
    let value = c.of-parts.ensures in
    let first = c.first_part-last.ensures (λ e. split_some 10 c.args.piece.now (sym value ∙ e)) in
    let whole = split_behind 10 c.args.rest.now.items c.args.piece.now c.first_part-last.result.now c.first_part-last.new.parts c.requires (sym value ∙ first) in
    record {
      lines = λ more. ap (λ (ps : List (List ℕ)). lines_from c.args.delim c.args.progress.now (all_but_last ps ++ more)) whole;
      rest = ap (last_of []) whole;
    }
