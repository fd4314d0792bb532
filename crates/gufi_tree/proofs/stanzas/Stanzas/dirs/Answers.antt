use Rattle.std.proofs.Common.{◌≡◌, ◌+◌, List, length, subst, arith}
use Rattle.std.specs.Prelude.{count_by}
use Rattle.gufi_base.specs.declared.record.Line.{Line}
use Rattle.gufi_tree.specs.StanzaLines.{lines_in}
use Rattle.gufi_tree.proofs.Numbered.{is_entry, both_counted}
use Rattle.gufi_tree.proofs.stanzas.Stanzas.dirs.Goals as goal

pub returns-clause-entries : goal.returns-clause-entries
returns-clause-entries c =
    let i = c.self.inside in
    let lines = lines_in i.closing.packing.dirs i.closing.places.items i.begun i.closing.packing.pending in
    subst (λ (ls : List Line). i.dirs + count_by is_entry ls ≡ length ls) c.self.view_is (let both = both_counted lines in let dirs = c.self.invariant.dir_lines in omega arith)
