use Rattle.std.proofs.Common.{List, ℕ, ap, sym, ◌∙◌}
use Rattle.std.specs.declared.cmp.Ordering.{Ordering}
use Rattle.std.specs.Ordering.{is_lt, nat_cmp}
use Rattle.std.specs.Cmp.Lexicographic.{slice_cmp}
use Rattle.gufi_tree.specs.Packs.{entries_of}
use Rattle.gufi_image.proofs.Searches.{last_entry}
use Rattle.gufi_image.proofs.entry.follows.Goals as goal

pub returns-in-Some : goal.returns-in-Some
returns-in-Some c =
    c.is_lt.ensures
    ∙ ap (λ (o : Ordering). is_lt o) (c.cmp.ensures ∙ ap (λ (t : List ℕ). slice_cmp nat_cmp t c.args.name.now) c.name.ensures.value)
    ∙ last_entry (entries_of c.args.before.now.pending) c.in-Some.last c.args.name.now (sym c.in-Some.is ∙ c.last_pending.ensures)
