-- The texts of stat, and of sums.
use Rattle.std.specs.Prelude.{ℕ, ◌+◌, ◌/◌, ◌%◌, ◌^◌, List, [], ◌∷◌, ◌++◌, Option, Some, None, codes, decimal}
use Rattle.std.specs.Fmt.{signed_decimal}
use Rattle.gufi_base.specs.declared.record.Meta.{Meta}
use Rattle.gufi_base.specs.declared.record.Row.{Row}
use Rattle.gufi_base.specs.Kinds.{kind_letter}
use Rattle.gufi_base.specs.Basics.{line}
use Rattle.gufi_base.specs.Paths.{Components, path_text}
use Rattle.gufi_sums.specs.declared.summary.Summary.{Summary}
use Rattle.gufi_sums.specs.Counts.{counts_text}

-- ---- the total line

abbrev pub pair_text : {A : Type 0} → (A → List ℕ) → Option (A × A) → List ℕ
pair_text number None = codes "- -"
pair_text number (Some p) = number p.0 ++ codes " " ++ number p.1

abbrev pub total_text : Summary → List ℕ
total_text s = counts_text s ++ codes " size " ++ pair_text decimal s.size ++ codes " mtime " ++ pair_text signed_decimal s.mtime
    ++ codes " uid " ++ pair_text decimal s.uid ++ codes " gid " ++ pair_text decimal s.gid

-- ---- stat

abbrev pub octal_digit : ℕ → ℕ → ℕ
octal_digit mode k = 48 + mode / 8 ^ k % 8

abbrev pub octal_text : ℕ → List ℕ
octal_text mode = octal_digit mode 3 ∷ octal_digit mode 2 ∷ octal_digit mode 1 ∷ octal_digit mode 0 ∷ []

abbrev pub record_text : Components → Meta → List ℕ
record_text path m =
    line (codes "path " ++ path_text path)
    ++ line (codes "type " ++ kind_letter m.kind ∷ codes " mode " ++ octal_text m.mode ++ codes " links " ++ decimal m.nlink ++ codes " uid " ++ decimal m.uid ++ codes " gid " ++ decimal m.gid)
    ++ line (codes "size " ++ decimal m.size ++ codes " blksize " ++ decimal m.blksize ++ codes " blocks " ++ decimal m.blocks ++ codes " inode " ++ decimal m.inode)
    ++ line (codes "atime " ++ signed_decimal m.atime ++ codes " mtime " ++ signed_decimal m.mtime ++ codes " ctime " ++ signed_decimal m.ctime)

abbrev pub stat_text : Row → Summary → List ℕ
stat_text row sum = record_text row.path row.rec.meta ++ line (total_text sum)
