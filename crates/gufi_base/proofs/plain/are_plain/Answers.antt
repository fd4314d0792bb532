use Rattle.std.proofs.Common.{arith}
use Rattle.std.proofs.lemmas.Bool.{ne_eqb, eq-eqb}
use Rattle.std.proofs.lemmas.List.{drop_more, drop_all}
use Rattle.gufi_base.proofs.PlainTexts.{Scanned-more, Scanned-close, Scanned-end}
use Rattle.gufi_base.proofs.plain.are_plain.Goals as goal

pub loop-byte-preserved-then-byte-ne47 : goal.loop-byte-preserved-then-byte-ne47
loop-byte-preserved-then-byte-ne47 c =
    let e = drop_more c.args.bytes.now c.loop-byte.byte-index 0 c.loop-byte-test.true in
    record {
      run = let low = c.loop-byte.invariant.run in omega arith;
      scanned = Scanned-more c.args.bytes.now c.loop-byte.reached c.in-Some.next c.loop-byte.run _ _ (rw e at c.loop-byte.invariant.scanned) c.in-Some.ensures (ne_eqb _ _ c.if-byte-ne47.true);
    }

pub loop-byte-preserved : goal.loop-byte-preserved
loop-byte-preserved c =
    let e = drop_more c.args.bytes.now c.loop-byte.byte-index 0 c.loop-byte-test.true in
    record {
      run = omega arith;
      scanned = Scanned-close c.args.bytes.now c.loop-byte.reached c.in-Some.next c.loop-byte.run _ _ (rw e at c.loop-byte.invariant.scanned) c.in-Some.ensures (eq-eqb _ _ c.if-byte-ne47.false) (omega arith);
    }

pub returns-in-Inside : goal.returns-in-Inside
returns-in-Inside c =
    let low = c.loop-byte-test.false in
    let e = drop_all c.loop-byte.byte-index c.args.bytes.now (omega arith) in
    Scanned-end c.args.bytes.now c.loop-byte.run (rw (e, c.in-Inside.is) at c.loop-byte.invariant.scanned) (omega arith)
