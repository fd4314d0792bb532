use Rattle.gufi_ask.proofs.AskLemmas.{asks_private}
use Rattle.gufi_ask.proofs.laws.asks_are_private.Goals as goal

pub returns : goal.returns
returns c = asks_private
