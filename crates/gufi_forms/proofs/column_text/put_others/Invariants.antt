use Rattle.std.proofs.Common.{◌≡◌, ◌∷◌, ◌++◌, take}
use Rattle.std.specs.List.{flat_map}
use Rattle.gufi_forms.proofs.column_text.put_others.Given as goal

abbrev pub invariant-loop-column : goal.invariant-loop-column
invariant-loop-column g l = l.out.items ≡ l.initial.out.items ++ flat_map (λ column. 9 ∷ g.T.ColumnText.text l.texts column) (take l.column-index l.columns)
