use Rattle.std.proofs.Common.{◌∙◌, sym}
use Rattle.gufi_agg.proofs.TokenSteps.{led_over, led_next}
use Rattle.gufi_agg.proofs.placed.tokens_of.Goals as goal

pub bytes-preserved-then-is_blank : goal.bytes-preserved-then-is_blank
bytes-preserved-then-is_blank c = led_over c.in-Some.ensures (sym c.is_blank.ensures ∙ c.if-is_blank.true) c.bytes.invariant

pub bytes-preserved-in_ok-push : goal.bytes-preserved-in_ok-push
bytes-preserved-in_ok-push c =
    rw (c.in_ok-push.ensures.items, c.agg_token_of.ensures, c.behind-rest.ensures, c.saturating_sub.ensures)
    (led_next c.in_ok-front.front c.in-Some.ensures (sym c.is_blank.ensures ∙ c.if-is_blank.false) c.in_ok-front.ensures (sym c.stops.ensures ∙ c.if-stops.false) c.bytes.invariant)

pub bytes-preserved : goal.bytes-preserved
bytes-preserved c =
    rw (c.in_ok-push.ensures.items, c.agg_token_of.ensures, c.behind-rest.ensures, c.saturating_sub.ensures)
    (led_next c.in_ok-front.front c.in-Some.ensures (sym c.is_blank.ensures ∙ c.if-is_blank.false) c.in_ok-front.ensures (sym c.stops.ensures ∙ c.if-stops.false) c.bytes.invariant)
