use Rattle.std.proofs.Common.{◌∷◌, [], take, List, ℕ, cond, ap, sym, ◌∙◌}
use Rattle.gufi_base.specs.Basics.{split}
use Rattle.gufi_line.proofs.FirstParts.{parts_left, part_left}
use Rattle.gufi_line.proofs.fields.Parts.next_part.Goals as goal

pub returns-in-Some : goal.returns-in-Some
returns-in-Some c =
    parts_left c.self.inside.delim c.self.inside.rest.now c.in-Some.at c.self.inside.is_done c.args.self.now c.if-self.false c.self.view_is c.in-Some.ensures
    ∙ ap (λ (rest : List ℕ). take c.in-Some.at c.self.inside.rest.now ∷ cond c.self.inside.is_done [] (split c.self.inside.delim rest)) (sym c.behind-self-inside.ensures)

pub returns-in-None : goal.returns-in-None
returns-in-None c = part_left c.self.inside.delim c.self.inside.rest.now c.self.inside.is_done c.args.self.now c.if-self.false c.self.view_is c.in-None.ensures
