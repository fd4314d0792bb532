use Rattle.gufi_users.proofs.MemberLemmas.{names_listed}
use Rattle.gufi_users.proofs.askers.names_among.Goals as goal

pub words-preserved : goal.words-preserved
words-preserved c = names_listed c.words.gids.entries c.insert.new.self.entries c.in_ok-name.name c.new.result c.new.ensures.items c.in_ok-insert.ensures.entries c.words.invariant
