use Rattle.std.proofs.Common.{◌≤◌, length, arith}
use Rattle.std.proofs.lemmas.Bool.{leb-true, ltb-true, OnTrue_from}
use Rattle.gufi_base.specs.Paths.{kept_parts}
use Rattle.gufi_base.proofs.PlainTexts.{kept_parts-short, kept_parts-few}
use Rattle.gufi_base.proofs.plain.is_within_limits.Goals as goal

pub returns-then-bytes-le-FEW-clause-few : goal.returns-then-bytes-le-FEW-clause-few
returns-then-bytes-le-FEW-clause-few c =
    OnTrue_from _ (length (kept_parts c.args.bytes.now) ≤ 256) (λ e. let short = leb-true _ _ e in omega (arith, short, kept_parts-short c.args.bytes.now))

pub returns-then-bytes-le-MAX_PATH-clause-few : goal.returns-then-bytes-le-MAX_PATH-clause-few
returns-then-bytes-le-MAX_PATH-clause-few c =
    let names = c.without_first_slash.result.now in
    OnTrue_from _ (length (kept_parts c.args.bytes.now) ≤ 256) (λ e. let few = ltb-true _ _ e in omega (arith, few, c.count_slashes.ensures, kept_parts-few names c.args.bytes.now c.without_first_slash.ensures))
