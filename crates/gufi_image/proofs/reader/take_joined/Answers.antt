use Rattle.std.proofs.Common.{ℕ, ◌++◌, sym, ap, ◌∙◌}
use Rattle.std.specs.Global.{Vec}
use Rattle.gufi_image.proofs.reader.take_joined.Goals as goal

pub returns-in-Ok-clause-same : goal.returns-in-Ok-clause-same
returns-in-Ok-clause-same c =
    let all = c.as_slice.ensures.value ∙ c.in-Ok.ensures.items ∙ ap (λ (v : Vec ℕ). v.items ++ c.args.behind.now) c.replace-bytes.ensures.value in
    rw (sym all) c.take_bytes.ensures.same
