use Rattle.std.proofs.Common.{ap, sym, ◌∙◌, arith, false, length, map, Err}
use Rattle.std.proofs.lemmas.List.{length-map}
use Rattle.gufi_roll.specs.CanRoll.{roll_flags}
use Rattle.gufi_image.specs.Reading.{wrong_flag}
use Rattle.gufi_image.specs.declared.fault.ImageKind.TheVariants as kinds
use Rattle.gufi_image.specs.Views.{nearer}
use Rattle.gufi_image.proofs.Flags.{flags_end, flag_differs, flag_holds}
use Rattle.gufi_image.proofs.reader.flags_hold.Goals as goal

pub returns-then-place-flags : goal.returns-then-place-flags
returns-then-place-flags c =
    let rolls = roll_flags c.args.snap.now.tree c.args.snap.now.limit in
    let flags = map (nearer c.args.room) c.args.flags.now in
    flags_end rolls flags c.loop-number.number (wrong_flag rolls flags) (omega (arith, c.if-place-flags.true, length-map c.args.flags.now (nearer c.args.room))) c.loop-number.invariant

pub returns-then-differs : goal.returns-then-differs
returns-then-differs c =
    let snap = c.args.snap.now in
    flag_differs c.args.room snap.tree snap.limit c.args.flags.now c.loop-number.number c.rolled.result (record { set = false; left = 0 }) (wrong_flag (roll_flags snap.tree snap.limit) (map (nearer c.args.room) c.args.flags.now))
    (omega (arith, c.loop-number-test.true, c.dirs-number-end.ensures.count, ap length c.tree.ensures.tree)) (omega (arith, c.if-place-flags.false)) c.rolled.ensures c.loop-number.invariant
    (sym c.differs.ensures ∙ c.if-differs.true)
    ∙ ap (λ n. Err (record { left = n; kind = kinds.Roll })) (sym c.saturating_sub-left.ensures)

pub loop-number-preserved : goal.loop-number-preserved
loop-number-preserved c =
    let snap = c.args.snap.now in
    flag_holds c.args.room snap.tree snap.limit c.args.flags.now c.loop-number.number c.rolled.result (record { set = false; left = 0 }) (wrong_flag (roll_flags snap.tree snap.limit) (map (nearer c.args.room) c.args.flags.now))
    (omega (arith, c.loop-number-test.true, c.dirs-number-end.ensures.count, ap length c.tree.ensures.tree)) (omega (arith, c.if-place-flags.false)) c.rolled.ensures c.loop-number.invariant
    (sym c.differs.ensures ∙ c.if-differs.false)
