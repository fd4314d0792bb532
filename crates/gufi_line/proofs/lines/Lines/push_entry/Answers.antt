use Rattle.std.proofs.Common.{List, ap, ◌∙◌, arith}
use Rattle.gufi_base.specs.declared.record.Line.{Line}
use Rattle.gufi_tree.specs.StanzaLines.{stanza_holds}
use Rattle.gufi_line.proofs.Counts.{few_lines, some_seen, few_entry_push}
use Rattle.gufi_line.proofs.lines.Lines.push_entry.Goals as goal

pub push_entry-requires-clause-some : goal.push_entry-requires-clause-some
push_entry-requires-clause-some c = some_seen c.self.inside.stanzas c.args.self.now c.requires.place.0 c.self.view_is c.requires.place.1

pub push_entry-requires-clause-few : goal.push_entry-requires-clause-few
push_entry-requires-clause-few c = omega (arith, few_lines c.self.inside.stanzas c.self.invariant)

pub invariant_of-self : goal.invariant_of-self
invariant_of-self c =
    let place = c.requires.place in
    let holds = ap (λ (ls : List Line). stanza_holds ls place.0) c.self.view_is ∙ place.1 in
    few_entry_push c.self.inside.stanzas c.push_entry.new.self c.args.self.now _ (c.in-Ok.ensures place.0 holds place.2) c.self.view_is c.self.invariant c.requires.kind c.requires.room
