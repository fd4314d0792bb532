use Rattle.gufi_info.specs.Info.{size_lines}
use Rattle.gufi_info.proofs.Lines.{on_ok, four_behind}
use Rattle.gufi_info.proofs.text.put_sizes.Goals as goal

pub returns : goal.returns
unfolding size_lines
returns c = on_ok c.put_depth.result (λ e. four_behind _ _ _ _ _ _ _ _ _ c.in_ok-put_number.ensures c.in_ok-put_number-2.ensures c.in_ok-put_number-3.ensures e) c.put_depth.ensures
