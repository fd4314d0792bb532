use Rattle.std.proofs.Common.{refl, sym, arith}
use Rattle.gufi_base.proofs.Digits.{ReadsFront-done}
use Rattle.gufi_line.proofs.digits.end_behind.Goals as goal

pub returns-in-None : goal.returns-in-None
returns-in-None c =
    ReadsFront-done c.args.separator c.args.text.now c.args.number c.args.at c.args.separator (omega (arith, c.requires.few)) c.if-at-text.false (sym c.if-text-at.false) c.requires.front c.in-None.ensures refl (omega (arith, c.if-at-eq0.false))
