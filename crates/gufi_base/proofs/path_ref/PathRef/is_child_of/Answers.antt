use Rattle.gufi_base.proofs.Below.{child-text}
use Rattle.gufi_base.proofs.path_ref.PathRef.is_child_of.Goals as goal

pub returns-in-Some : goal.returns-in-Some
returns-in-Some c =
    child-text c.args.self.now c.args.parent.now c.in-Some.above.now c.text.result.now c.same_bytes.result c.text-text.ensures.names c.text.ensures.names
    (λ e. c.in-Some.ensures.0 e) c.in-Some.ensures.1 c.text.ensures.text c.same_bytes.ensures
