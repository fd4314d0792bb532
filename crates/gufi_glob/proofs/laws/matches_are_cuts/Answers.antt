use Rattle.gufi_glob.proofs.Cuts.{cut_of_match, match_of_cut}
use Rattle.gufi_glob.proofs.laws.matches_are_cuts.Goals as goal

pub returns : goal.returns
returns c = λ parts text. (cut_of_match parts text, λ cut. match_of_cut parts text cut.0 cut.1)
