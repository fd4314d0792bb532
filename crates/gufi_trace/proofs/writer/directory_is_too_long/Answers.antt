use Rattle.std.proofs.Common.{◌≡◌, ℕ, ◌+◌, ◌-◌, ap, sym, ◌∙◌, arith, length}
use Rattle.std.specs.List.{list_any}
use Rattle.gufi_base.specs.PathTexts.{kept_text}
use Rattle.gufi_trace.specs.Writing.{directory, own_too_long, is_over}
use Rattle.gufi_trace.proofs.Checks.{own_too_long-parts, entry_over, then_is, else_is}
use Rattle.gufi_trace.proofs.writer.directory_is_too_long.Goals as goal

pub returns-then-own : goal.returns-then-own
returns-then-own c =
    let names : ℕ = c.depth.result + c.depth-2.result in
    let bytes : ℕ = length c.text.result.now + length c.text-2.result.now - 2 in
    let count : names ≡ length c.args.root.now + length c.args.path.now = omega (arith, c.depth.ensures, c.depth-2.ensures) in
    let a = ap length c.text.ensures.text in
    let b = ap length c.text-2.ensures.text in
    let size : bytes ≡ length (kept_text c.args.root.now) + length (kept_text c.args.path.now) - 2 = omega (arith, a, b) in
    c.is_over-own.ensures
    ∙ then_is (is_over names bytes) (list_any (entry_over names bytes) c.args.entries.now) (own_too_long c.args.root.now (directory c.args.path.now c.args.rec.now c.args.entries.now)) (sym c.is_over-own.ensures ∙ c.if-own.true)
    (own_too_long-parts c.args.root.now c.args.path.now c.args.rec.now c.args.entries.now names bytes count size)

pub returns-else-own : goal.returns-else-own
returns-else-own c =
    let names : ℕ = c.depth.result + c.depth-2.result in
    let bytes : ℕ = length c.text.result.now + length c.text-2.result.now - 2 in
    let count : names ≡ length c.args.root.now + length c.args.path.now = omega (arith, c.depth.ensures, c.depth-2.ensures) in
    let a = ap length c.text.ensures.text in
    let b = ap length c.text-2.ensures.text in
    let size : bytes ≡ length (kept_text c.args.root.now) + length (kept_text c.args.path.now) - 2 = omega (arith, a, b) in
    c.any_entry_is_over-entry.ensures
    ∙ else_is (is_over names bytes) (list_any (entry_over names bytes) c.args.entries.now) (own_too_long c.args.root.now (directory c.args.path.now c.args.rec.now c.args.entries.now)) (sym c.is_over-own.ensures ∙ c.if-own.false)
    (own_too_long-parts c.args.root.now c.args.path.now c.args.rec.now c.args.entries.now names bytes count size)
