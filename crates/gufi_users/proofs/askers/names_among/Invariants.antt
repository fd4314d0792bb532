use Rattle.std.proofs.Common.{[]}
use Rattle.gufi_users.specs.Members.{Have}
use Rattle.gufi_users.proofs.askers.names_among.Given as goal

abbrev pub invariant-words : goal.invariant-words
invariant-words l = Have (λ name. []) l.gids.entries
