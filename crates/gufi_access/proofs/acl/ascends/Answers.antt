use Rattle.std.proofs.Common.{◌≡◌, true, false, sym, ◌∙◌, refl, arith}
use Rattle.std.proofs.lemmas.Bool.{and_left}
use Rattle.gufi_access.specs.Acl.{entries_left}
use Rattle.gufi_access.specs.Acl.{is_after_last}
use Rattle.gufi_access.proofs.EntryLemmas.{ascends_step}
use Rattle.gufi_access.proofs.acl.ascends.Goals as goal

pub returns-then-not-is_after : goal.returns-then-not-is_after
returns-then-not-is_after c =
    let step = ascends_step c.loop-entry.last _ (entries_left c.next.new.self) c.in-Some.entry c.in-Some.ensures.steps in
    let early : is_after_last c.loop-entry.last c.in-Some.entry ≡ false = grind arith in
    sym (c.loop-entry.invariant ∙ step ∙ and_left _ _ early)

pub loop-entry-preserved : goal.loop-entry-preserved
loop-entry-preserved c =
    let step = ascends_step c.loop-entry.last _ (entries_left c.next.new.self) c.in-Some.entry c.in-Some.ensures.steps in
    let later : is_after_last c.loop-entry.last c.in-Some.entry ≡ true = grind arith in
    c.loop-entry.invariant ∙ step ∙ rw later refl
