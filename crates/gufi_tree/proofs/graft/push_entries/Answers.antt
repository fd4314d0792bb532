use Rattle.std.proofs.Common.{◌∙◌, ◌++◌, ◌∷◌, [], ℕ, List, ap, arith}
use Rattle.gufi_base.specs.declared.record.Rec.{Rec}
use Rattle.gufi_tree.proofs.Joined.{next_entry}
use Rattle.gufi_tree.proofs.graft.push_entries.Goals as goal

pub loop-place-preserved : goal.loop-place-preserved
loop-place-preserved c =
    let l = c.loop-place in
    let e = c.at-entry.result in
    next_entry c.args.pending.now l.pending c.push.new.self c.args.entries.now l.place e 0 (omega arith) (c.at-entry.ensures e) l.invariant
    (c.in_ok-push.ensures.pushed
    ∙ ap (λ (name : List ℕ). l.pending ++ record { entry = record { name = name; rec = c.rec.result }; place = 0 } ∷ []) c.name.ensures.value
    ∙ ap (λ (rec : Rec). l.pending ++ record { entry = record { name = e.name; rec = rec }; place = 0 } ∷ []) c.rec.ensures)
