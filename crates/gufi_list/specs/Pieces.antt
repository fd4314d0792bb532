-- The pieces that the printed lines are made of.
use Rattle.std.specs.Prelude.{ℕ, List, ◌∷◌, ◌++◌, codes, decimal}
use Rattle.std.specs.Fmt.{signed_decimal}
use Rattle.gufi_base.specs.declared.record.Meta.{Meta}
use Rattle.gufi_base.specs.Kinds.{kind_letter}
use Rattle.gufi_list.specs.Texts.{octal_text, pair_text}
use Rattle.gufi_sums.specs.declared.summary.Summary.{Summary}

abbrev pub ranges_text : Summary → List ℕ
ranges_text s = codes " size " ++ pair_text decimal s.size ++ codes " mtime " ++ pair_text signed_decimal s.mtime
    ++ codes " uid " ++ pair_text decimal s.uid ++ codes " gid " ++ pair_text decimal s.gid

abbrev pub type_text : Meta → List ℕ
type_text m = codes "type " ++ kind_letter m.kind ∷ codes " mode " ++ octal_text m.mode

abbrev pub links_and_owners_text : Meta → List ℕ
links_and_owners_text m = codes " links " ++ decimal m.nlink ++ codes " uid " ++ decimal m.uid ++ codes " gid " ++ decimal m.gid

abbrev pub size_text : Meta → List ℕ
size_text m = codes "size " ++ decimal m.size ++ codes " blksize " ++ decimal m.blksize ++ codes " blocks " ++ decimal m.blocks ++ codes " inode " ++ decimal m.inode

abbrev pub early_times_text : Meta → List ℕ
early_times_text m = codes "atime " ++ signed_decimal m.atime ++ codes " mtime " ++ signed_decimal m.mtime

abbrev pub times_text : Meta → List ℕ
times_text m = early_times_text m ++ codes " ctime " ++ signed_decimal m.ctime
