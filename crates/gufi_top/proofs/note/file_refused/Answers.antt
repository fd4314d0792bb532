use Rattle.std.proofs.Common.{ℕ, ◌∙◌, ap, append_assoc, Vec, Global}
use Rattle.gufi_top.proofs.note.file_refused.Goals as goal

pub returns : goal.returns
returns c = simp append_assoc (ap (λ (v : Vec ℕ Global). v.items) c.into_bytes.ensures.value ∙ c.in_ok-format.ensures.ok)
