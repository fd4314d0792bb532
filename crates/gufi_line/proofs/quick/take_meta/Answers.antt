use Rattle.std.proofs.Common.{w64, rules}
use Rattle.std.proofs.lemmas.Int.{to_z-of_z}
use mir.Val.{SFits}
use Rattle.gufi_line.proofs.SoundLines.{taken_meta}
use Rattle.gufi_line.proofs.quick.take_meta.Goals as goal

pub returns : goal.returns
returns g c =
    let atime : SFits w64 c.in_ok-meta-10.field-0 = search rules in
    let mtime : SFits w64 c.in_ok-meta-11.field-0 = search rules in
    let ctime : SFits w64 c.in_ok-meta-12.field-0 = search rules in
    rw (to_z-of_z w64 c.in_ok-meta-10.field-0 atime, to_z-of_z w64 c.in_ok-meta-11.field-0 mtime, to_z-of_z w64 c.in_ok-meta-12.field-0 ctime)
    (taken_meta _ _ _ _ _ _ _ _ _ _ _ _ _ c.in_ok-meta.field-0 c.in_ok-meta-2.field-0 c.in_ok-meta-3.field-0 c.in_ok-meta-4.field-0 c.in_ok-meta-5.field-0 c.in_ok-meta-6.field-0 c.in_ok-meta-7.field-0 c.in_ok-meta-8.field-0 c.in_ok-meta-9.field-0 c.in_ok-meta-10.field-0 c.in_ok-meta-11.field-0 c.in_ok-meta-12.field-0
    c.in_ok-meta.ensures c.in_ok-meta-2.ensures c.in_ok-meta-3.ensures.takes c.in_ok-meta-4.ensures c.in_ok-meta-5.ensures.takes c.in_ok-meta-6.ensures.takes c.in_ok-meta-7.ensures c.in_ok-meta-8.ensures c.in_ok-meta-9.ensures c.in_ok-meta-10.ensures c.in_ok-meta-11.ensures c.in_ok-meta-12.ensures)
