use Rattle.std.proofs.Common.{◌≡◌, ℕ, List, take, true}
use Rattle.std.specs.List.{list_any}
use Rattle.gufi_tree.specs.Texts.{has_text, are_named, has_dir_text}
use Rattle.gufi_tree.proofs.fault.dir_texts.Given as goal

abbrev pub invariant-loop-line : goal.invariant-loop-line
invariant-loop-line l = record {
  texts : (text : List ℕ) → has_text l.texts text ≡ list_any (has_dir_text text) (take l.line-index l.lines);
  named : are_named (take l.line-index l.lines) ≡ true;
}
