use Rattle.std.proofs.Common.{◌≡◌, drop}
use Rattle.gufi_explain.specs.Nearest.{within}
use Rattle.gufi_explain.proofs.nearest.within.Given as goal

abbrev pub invariant-entries : goal.invariant-entries
invariant-entries l = within l.most l.word l.entries ≡ within l.most l.word (drop l.entry-index l.entries)
