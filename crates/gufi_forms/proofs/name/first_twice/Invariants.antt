use Rattle.std.proofs.Common.{◌≡◌, drop}
use Rattle.gufi_forms.specs.Names.{first_twice}
use Rattle.gufi_forms.proofs.name.first_twice.Given as goal

abbrev pub invariant-loop-place : goal.invariant-loop-place
invariant-loop-place l = first_twice l.columns ≡ first_twice (drop l.place l.columns)
