use Rattle.std.proofs.Common.{List, reverse, sym, ap, ◌∙◌}
use Rattle.gufi_base.specs.declared.record.Line.{Line}
use Rattle.gufi_tree.specs.StanzaLines.{stanza_holds}
use Rattle.gufi_tree.proofs.Ended.{holds_of}
use Rattle.gufi_tree.proofs.stanzas.Stanzas.stanza.Goals as goal

pub returns-in-Some : goal.returns-in-Some
returns-in-Some c = λ child.
    let i = c.self.inside in
    ap (λ (ls : List Line). stanza_holds (reverse ls) child) (sym c.self.view_is) ∙ holds_of i.closing.packing.dirs i.closing.places.items i.begun c.in-Some.begun i.closing.packing.pending child c.in-Some.is c.self.invariant.kinds
