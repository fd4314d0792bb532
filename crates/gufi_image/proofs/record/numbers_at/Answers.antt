use Rattle.std.proofs.Common.{refl}
use Rattle.std.proofs.lemmas.List.{take_rest}
use Rattle.gufi_image.specs.Numbers.{meta_in}
use Rattle.gufi_image.proofs.NumbersThere.{mode_sound, mode_refused}
use Rattle.gufi_image.proofs.record.numbers_at.Goals as goal

pub returns-then-u16_in-gt-MAX_MODE-clause-gives : goal.returns-then-u16_in-gt-MAX_MODE-clause-gives
returns-then-u16_in-gt-MAX_MODE-clause-gives c =
    rw (c.flaw.ensures, take_rest c.args.bytes.now 8)
    (mode_refused c.args.kind c.args.bytes.now c.u16_in.result c.if-bytes-lt-NUMBERS.false c.u16_in.ensures c.if-u16_in-gt-MAX_MODE.true)

pub returns-clause-gives : goal.returns-clause-gives
returns-clause-gives c =
    mode_sound c.args.kind c.args.bytes.now c.split_at.result.0.now c.split_at.result.1.now c.u16_in.result c.if-bytes-lt-NUMBERS.false c.u16_in.ensures c.if-u16_in-gt-MAX_MODE.false c.split_at.ensures.front c.split_at.ensures.back

pub returns-clause-kind : goal.returns-clause-kind
unfolding meta_in
returns-clause-kind c = refl
