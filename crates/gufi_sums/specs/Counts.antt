-- How many rows of each kind a sum counts, and their bytes, as they are printed.
use Rattle.std.specs.Prelude.{ℕ, List, ◌++◌, codes, decimal}
use Rattle.gufi_sums.specs.declared.summary.Summary.{Summary}

abbrev pub counts_text : Summary → List ℕ
counts_text s = codes "dirs " ++ decimal s.dirs ++ codes " files " ++ decimal s.files ++ codes " links " ++ decimal s.links
    ++ codes " others " ++ decimal s.others ++ codes " bytes " ++ decimal s.bytes
