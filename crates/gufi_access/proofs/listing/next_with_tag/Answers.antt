use Rattle.std.proofs.Common.{◌∙◌, refl}
use Rattle.gufi_access.specs.Acl.{entries_left}
use Rattle.gufi_access.proofs.NamedLemmas.{named_by_end, named_by_here, named_by_other}
use Rattle.gufi_access.proofs.listing.next_with_tag.Goals as goal

pub returns-then-masked : goal.returns-then-masked
returns-then-masked c =
    c.loop-entry.invariant
    ∙ named_by_here c.args.tag c.args.masked c.may_list.result _ (entries_left c.next.new.self) c.in-Some.entry c.in-Some.ensures.steps c.if-entry-tag.true
    (rw c.if-masked.true c.may_list.ensures)

pub returns-else-masked : goal.returns-else-masked
returns-else-masked c =
    c.loop-entry.invariant
    ∙ named_by_here c.args.tag c.args.masked c.args.masked _ (entries_left c.next.new.self) c.in-Some.entry c.in-Some.ensures.steps c.if-entry-tag.true
    (rw c.if-masked.false refl)

pub loop-entry-preserved : goal.loop-entry-preserved
loop-entry-preserved c =
    c.loop-entry.invariant ∙ named_by_other c.args.tag c.args.masked _ (entries_left c.next.new.self) c.in-Some.entry c.in-Some.ensures.steps c.if-entry-tag.false

pub returns : goal.returns
returns c =
    (c.loop-entry.invariant ∙ named_by_end c.args.tag c.args.masked _ c.in_default.ensures.steps.0, named_by_end c.args.tag c.args.masked _ c.in_default.ensures.steps.1)
