use Rattle.std.proofs.Common.{ℕ, ◌∙◌, ap, append_assoc, Vec, Global}
use Rattle.gufi_top.proofs.note.column_twice.Goals as goal

pub returns : goal.returns
returns c = simp append_assoc (rw (← c.column_name-name.ensures.name) (ap (λ (v : Vec ℕ Global). v.items) c.into_bytes.ensures.value ∙ c.in_ok-format.ensures.ok))
