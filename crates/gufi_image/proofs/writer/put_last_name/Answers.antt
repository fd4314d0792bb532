use Rattle.std.proofs.Common.{◌≡◌, ◌<◌, ◌≤◌, ◌++◌, ◌∙◌, sym, subst, List, ℕ, length}
use Rattle.std.specs.Prelude.{OnOk}
use Rattle.gufi_image.specs.Bytes.{name_image}
use Rattle.gufi_image.proofs.Written.{no_last_name, some_last_name, short_last_name}
use Rattle.gufi_image.proofs.writer.put_last_name.Goals as goal

pub put_name-requires-2 : goal.put_name-requires-2
put_name-requires-2 c =
    let long = subst (λ (t : List ℕ). 1 < length t) c.text.ensures.text c.if-text-le1.false in
    subst (λ (t : List ℕ). length t < 256) (sym c.base_name.ensures) (short_last_name c.args.path.now c.text.ensures.names long)

pub returns-then-text-le1 : goal.returns-then-text-le1
returns-then-text-le1 c =
    let short = subst (λ (t : List ℕ). length t ≤ 1) c.text.ensures.text c.if-text-le1.true in
    subst (λ (name : List ℕ). OnOk c.put_name.result (c.put_name.new.out.items ≡ c.args.out.now.items ++ name_image name)) (no_last_name c.args.path.now short) c.put_name.ensures

pub returns : goal.returns
returns c =
    let long = subst (λ (t : List ℕ). 1 < length t) c.text.ensures.text c.if-text-le1.false in
    subst (λ (name : List ℕ). OnOk c.put_name-2.result (c.put_name-2.new.out.items ≡ c.args.out.now.items ++ name_image name)) (c.base_name.ensures ∙ some_last_name c.args.path.now long) c.put_name-2.ensures
