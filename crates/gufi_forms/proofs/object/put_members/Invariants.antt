use Rattle.std.proofs.Common.{◌≡◌, ◌++◌, take}
use Rattle.std.specs.List.{flat_map}
use Rattle.gufi_select.specs.Parts.{seen_parts}
use Rattle.gufi_forms.specs.ObjectTokens.{column_tokens}
use Rattle.gufi_forms.proofs.object.put_members.Given as goal

abbrev pub invariant-loop-column : goal.invariant-loop-column
invariant-loop-column l = record {
  tokens : l.writer.tokens ≡ l.initial.writer.tokens ++ flat_map (column_tokens (seen_parts l.row l.depth)) (take l.column-index l.columns);
  before : l.writer.before ≡ l.initial.writer.before;
}
