use Rattle.std.proofs.Common.{sym, ◌∙◌}
use Rattle.gufi_acl.proofs.Written.{put_on}
use Rattle.gufi_acl.proofs.writer.put_entries.Goals as goal

pub returns-clause-put : goal.returns-clause-put
returns-clause-put c = put_on c.put_others.result _ _ _ _ _ _ c.in_ok-put_entry.ensures.put (sym c.of-others.ensures ∙ c.in-Some.ensures.steps) c.put_others.ensures.put
