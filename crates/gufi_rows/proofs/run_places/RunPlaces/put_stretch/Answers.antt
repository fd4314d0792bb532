use Rattle.std.proofs.Common.{◌≤◌, ◌∙◌, ◌++◌, ◌-◌, [], take, drop, sym, ap, arith}
use Rattle.gufi_rows.specs.declared.run.Run.{Run}
use Rattle.gufi_rows.specs.LaidLines.{lines_of}
use Rattle.gufi_rows.specs.PathLines.{path_line}
use Rattle.gufi_rows.specs.Runs.{run_paths}
use Rattle.gufi_rows.proofs.PathLists.{texts_at, texts-join}
use Rattle.gufi_rows.proofs.Runs.{picked-run}
use Rattle.gufi_rows.proofs.Stretches.{chunk_more}
use Rattle.gufi_rows.proofs.run_places.RunPlaces.put_stretch.Goals as goal

pub runs-preserved : goal.runs-preserved
runs-preserved c =
    let runs = c.args.self.now.runs.now in
    let paths = run_paths runs in
    let from = c.runs.from in
    let end = c.min-end.result in
    let at = c.find-at.result in
    let low : c.runs.from ≤ c.min-end.result = omega (arith, c.find-at.ensures.high, c.min-end.ensures) in
    let high : c.min-end.result ≤ c.find-at.result.end = omega (arith, c.min-end.ensures) in
    record {
      low = omega (arith, low, c.runs.invariant.low);
      high = omega (arith, c.min-end.ensures);
      text = chunk_more (texts_at path_line paths []) (texts-join path_line paths []) c.args.stretch.from from end c.args.text.now.items c.runs.text.items c.extend_from_slice.new.self.items
          c.runs.invariant.low low c.runs.invariant.text
          (c.in_ok-extend_from_slice.ensures.items
          ∙ ap (λ t. c.runs.text.items ++ t) (c.between.ensures ∙ ap (λ (r : Run). lines_of (take (end - at.from - (from - at.from)) (drop (from - at.from) r.lines))) (sym c.index-self-at.is)
          ∙ ap lines_of (sym (picked-run runs from c.find-at.result c.find-at.ensures c.index-self-at.result c.index-self-at.is end low high))));
    }
