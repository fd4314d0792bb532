use Rattle.std.proofs.Common.{◌≡◌, ℕ, List, take, drop, reverse, []}
use Rattle.std.specs.List.{list_any}
use Rattle.gufi_tree.specs.Build.{least_fault}
use Rattle.gufi_tree.specs.Texts.{has_text, has_path_text}
use Rattle.gufi_tree.proofs.fault.find_fault.Given as goal

abbrev pub invariant-loop-line : goal.invariant-loop-line
invariant-loop-line l = record {
  seen : (text : List ℕ) → has_text l.seen text ≡ list_any (has_path_text text) (reverse (take l.line-index l.lines));
  least : least_fault l.lines (reverse (take l.line-index l.lines)) (drop l.line-index l.lines) ≡ least_fault l.lines [] l.lines;
}
