use Rattle.std.proofs.Common.{◌≡◌, true, false, sym, ◌∙◌, refl, arith, slice_index_or}
use Rattle.std.proofs.lemmas.Bool.{and_left}
use Rattle.gufi_access.specs.declared.acl.Entry.{Entry}
use Rattle.gufi_access.specs.Acl.{is_after_last}
use Rattle.gufi_acl.proofs.Checks.{ascends_more, ascends_end}
use Rattle.gufi_acl.proofs.check.ascends.Goals as goal

none : Entry
none = record { tag = 0; bits = 0; id = 0 }

pub returns-then-not-is_after : goal.returns-then-not-is_after
unfolding none
returns-then-not-is_after c =
    let step = ascends_more c.entries.last c.args.entries.now c.entries.entry-index none c.entries-test.true in
    let early : is_after_last c.entries.last (slice_index_or c.args.entries.now c.entries.entry-index none) ≡ false = grind arith in
    sym (c.entries.invariant ∙ step ∙ and_left _ _ early)

pub entries-preserved : goal.entries-preserved
unfolding none
entries-preserved c =
    let step = ascends_more c.entries.last c.args.entries.now c.entries.entry-index none c.entries-test.true in
    let later : is_after_last c.entries.last (slice_index_or c.args.entries.now c.entries.entry-index none) ≡ true = grind arith in
    c.entries.invariant ∙ step ∙ rw later refl

pub returns : goal.returns
returns c = sym (c.entries.invariant ∙ ascends_end c.entries.last c.args.entries.now c.entries.entry-index (omega arith))
