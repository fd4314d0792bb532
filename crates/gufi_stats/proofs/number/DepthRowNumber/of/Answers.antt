use Rattle.std.proofs.Common.{ap, ◌∙◌, eqb, length}
use Rattle.std.specs.List.{filter}
use Rattle.gufi_stats.proofs.Stems.{stem-slashes}
use Rattle.gufi_stats.proofs.number.DepthRowNumber.of.Goals as goal

pub returns : goal.returns
returns c = λ of stands. c.count_slashes.ensures ∙ ap (λ t. length (filter (λ b. eqb b 47) t)) stands.stem ∙ stem-slashes of.path stands.names
