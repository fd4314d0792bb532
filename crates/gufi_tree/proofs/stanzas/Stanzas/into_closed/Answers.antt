use Rattle.std.proofs.Common.{List, subst}
use Rattle.gufi_base.specs.declared.record.Line.{Line}
use Rattle.gufi_tree.specs.StanzaLines.{IsWhole}
use Rattle.gufi_tree.proofs.Ended.{ended_whole}
use Rattle.gufi_tree.proofs.stanzas.Stanzas.into_closed.Goals as goal

pub returns : goal.returns
returns c =
    let i = c.self.inside in
    let e = c.end.new.self in
    rw (c.into_closed.ensures.dirs, c.into_closed.ensures.places, c.into_closed.ensures.distinct)
    (subst (λ (ls : List Line). IsWhole ls e.packing.dirs e.places.items e.distinct) c.self.view_is
    (ended_whole i.closing.packing.dirs e.packing.dirs i.closing.places.items e.places.items i.closing.distinct e.distinct i.begun i.closing.packing.pending i.count i.dirs c.self.invariant c.in_ok-end.ensures.ended))
