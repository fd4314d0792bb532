use Rattle.std.proofs.Common.{◌∙◌, true, false, sym}
use Rattle.gufi_select.proofs.ReadLemmas.{led_next, ended, fault_told}
use Rattle.gufi_select.proofs.reading.read_state.Goals as goal

pub bytes-preserved : goal.bytes-preserved
bytes-preserved c =
    rw (c.behind-rest.ensures, c.saturating_sub.ensures)
    (led_next c.in_ok-front.front c.in-Some.ensures (sym c.is_blank.ensures ∙ c.if-is_blank.false) c.bytes.invariant c.in_ok-front.ensures c.in-Ok.ensures)

pub returns-in-Err : goal.returns-in-Err
returns-in-Err c =
    fault_told c.in-Err.error c.in_ok-front.front c.in-Some.ensures (sym c.is_blank.ensures ∙ c.if-is_blank.false) c.bytes.invariant c.in_ok-front.ensures c.in-Err.ensures

pub returns-then-may_end : goal.returns-then-may_end
returns-then-may_end c = ended true c.in_default.ensures c.bytes.invariant (sym c.if-may_end.true ∙ c.may_end.ensures)

pub returns-else-may_end : goal.returns-else-may_end
returns-else-may_end c = rw (c.fault_at.ensures) (ended false c.in_default.ensures c.bytes.invariant (sym c.if-may_end.false ∙ c.may_end.ensures))
