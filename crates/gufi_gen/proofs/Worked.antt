-- The definitions computed on small numbers.
use Rattle.std.proofs.Common.{◌≡◌, [], ◌∷◌, refl}
use Rattle.std.specs.Prelude.{codes}
use Rattle.std.specs.Fmt.{digits}
use Rattle.gufi_gen.specs.Generated.{gen_text, directory_path}

two_directories : gen_text 2 124
    ≡ codes "/g|d|1|493|1|1000|100|4096|4096|8|1700000000|1700000000|1700000000|\n/g/d1|d|2|493|1|1001|101|4096|4096|8|1699999999|1699999999|1699999999|\n/g/d1/f0|f|1000005|420|1|1001|101|37|4096|8|1699999999|1699999999|1699999999|\n"
unfolding gen_text digits
two_directories = refl

deep : directory_path 100 ≡ codes "d1" ∷ codes "d12" ∷ codes "d100" ∷ []
unfolding digits
deep = refl
