use Rattle.std.proofs.Common.{◌≡◌, ◌++◌, take}
use Rattle.gufi_forms.specs.Forms.{form_header, form_lines}
use Rattle.gufi_forms.proofs.form.form_text.Given as goal

abbrev pub invariant-loop-row : goal.invariant-loop-row
invariant-loop-row l = l.text.items ≡ form_header l.fn.form l.select ++ form_lines l.fn.form l.select l.start (take l.row-index l.rows)
