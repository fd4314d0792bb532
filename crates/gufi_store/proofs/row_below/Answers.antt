use Rattle.std.proofs.Common.{ap, ◌∙◌}
use Rattle.gufi_base.specs.declared.record.Rec.{Rec}
use Rattle.gufi_store.proofs.Entries.{entry_stands}
use Rattle.gufi_store.proofs.row_below.Goals as goal

pub returns : goal.returns
returns c = λ path names stem.
    entry_stands _ path c.args.entry.now names c.name.ensures.name stem c.name.ensures.value
    (c.meta.ensures ∙ ap (λ (r : Rec). r.meta) c.rec-rec.ensures) (c.link.ensures ∙ ap (λ (r : Rec). r.link) c.rec-rec.ensures) (c.xattrs.ensures ∙ ap (λ (r : Rec). r.xattrs) c.rec-rec.ensures)
    (c.acl.ensures ∙ ap (λ (r : Rec). r.acl) c.rec-rec.ensures)
