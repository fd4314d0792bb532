use Rattle.std.proofs.Common.{ℕ, List, ap, ◌∙◌, subst}
use Rattle.std.specs.List.{flat_map}
use Rattle.std.specs.List.Sorted.{IsPermutation}
use Rattle.gufi_base.specs.declared.record.Line.{Line}
use Rattle.gufi_tree.specs.Tree.{own_rows}
use Rattle.gufi_tree.specs.StanzaLines.{zip_lines}
use Rattle.gufi_tree.proofs.Ended.{whole_sorted}
use Rattle.gufi_tree.proofs.closed.Closed.lines.Goals as goal

pub returns : goal.returns
returns c = λ known whole.
    let closed = c.args.self.now in
    whole_sorted known closed.dirs closed.places.items closed.distinct whole c.sort_lines.new.lines.items
    (subst (λ (ls : List Line). IsPermutation ls c.sort_lines.new.lines.items) (c.in_ok-lines.ensures ∙ ap (λ (ns : List ℕ). zip_lines ns (flat_map own_rows closed.dirs)) c.as_slice.ensures.value) c.sort_lines.ensures.permutation)
    c.sort_lines.ensures.order
