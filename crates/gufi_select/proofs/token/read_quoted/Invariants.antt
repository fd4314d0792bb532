use Rattle.std.proofs.Common.{◌≡◌, false, drop}
use Rattle.gufi_select.specs.Tokens.{quoted}
use Rattle.gufi_select.proofs.TokenLemmas.{joined}
use Rattle.gufi_select.proofs.token.read_quoted.Given as goal

abbrev pub invariant-bytes : goal.invariant-bytes
invariant-bytes l = record {
  led : quoted false l.rest ≡ joined l.text.items l.count (quoted l.after (drop l.byte-index l.rest));
  place : l.count ≡ l.byte-index;
}
