use Rattle.gufi_cache.specs.SameKeys.{same_key-Decides}
use Rattle.gufi_cache.proofs.key.CacheKey.is_same.Goals as goal

pub returns-clause-exact : goal.returns-clause-exact
returns-clause-exact c = rw c.same_parts.ensures (same_key-Decides c.args.self.now c.args.other.now)
