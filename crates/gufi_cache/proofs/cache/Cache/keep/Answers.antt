use Rattle.std.proofs.Common.{ap}
use Rattle.gufi_cache.specs.Pairs.{kept}
use Rattle.gufi_cache.specs.Keys.{same_key}
use Rattle.gufi_cache.specs.SameKeys.{same_key-Decides}
use Rattle.gufi_cache.proofs.Putting.{put_entries-take}
use Rattle.gufi_cache.proofs.cache.Cache.keep.Goals as goal

pub returns-clause-kept : goal.returns-clause-kept
returns-clause-kept c =
    let was = c.self.inside.texts in
    let valid = c.len-count.ensures.valid in
    rw (c.in_ok-put.ensures.entries, ← c.self.view_is, c.of.ensures) (ap (λ pairs. kept pairs was.cap) (put_entries-take same_key same_key-Decides was c.args.key c.args.text.items valid.2 valid.1))
