use Rattle.std.proofs.Common.{◌≡◌, drop}
use Rattle.gufi_agg.specs.Heads.{read_tokens, read_head}
use Rattle.gufi_agg.proofs.head.read_head.Given as goal

abbrev pub invariant-tokens : goal.invariant-tokens
invariant-tokens l = read_head l.end l.placed ≡ read_tokens l.end l.head (drop l.token-index l.placed)
