use Rattle.std.proofs.Common.{◌≡◌, [], ◌∷◌, refl, true, false}
use Rattle.std.specs.Prelude.{Ok, Err, codes, ◌||◌}
use Rattle.std.specs.Str.{is_utf8, chars}
use lib.Utf8.{encode}
use Rattle.percent_encoding.specs.Percent.{percent_decode}
use Rattle.gufi_base.specs.Paths.{read_path}
use Rattle.gufi_script.specs.declared.fault.ScriptError.TheVariants.{Fault}
use Rattle.gufi_script.specs.declared.fault.ScriptKind.TheVariants as kinds
use Rattle.gufi_script.specs.declared.act.Form.TheVariants as forms
use Rattle.gufi_script.specs.declared.act.Act.TheVariants.{Publish, Refresh, Ask, Barrier}
use Rattle.gufi_script.specs.ScriptText.{is_script, read_script, read_script_lines, with_script_line, with_act, read_line}
use Rattle.gufi_script.specs.Acts.{read_act, read_publish, read_rollup, read_refresh, read_ask}

script_of_three_acts : read_script (codes "publish 100 a\nbarrier\n# no act\n\nask 1 102 / find -name %2a\n")
    ≡ Ok ((1, Publish 100 (codes "a")) ∷ (2, Barrier) ∷ (5, Ask 1 (codes "102") [] forms.Find (codes "-name" ∷ codes "*" ∷ [])) ∷ [])
unfolding read_script read_script_lines with_script_line with_act read_line percent_decode read_act read_publish read_rollup read_ask read_path is_utf8 chars encode
script_of_three_acts = refl

refreshed : read_script (codes "refresh /b/c a\n") ≡ Ok ((1, Refresh (codes "b" ∷ codes "c" ∷ []) (codes "a")) ∷ [])
unfolding read_script read_script_lines with_script_line with_act read_line percent_decode read_act read_publish read_rollup read_refresh read_ask read_path is_utf8 chars encode
refreshed = refl

path_before_file : read_script (codes "refresh /.. %ff") ≡ Err (Fault 1 kinds.Path)
unfolding read_script read_script_lines with_script_line with_act read_line percent_decode read_act read_publish read_rollup read_refresh read_ask read_path is_utf8 chars encode
path_before_file = refl

lane_out_of_range : read_script (codes "barrier\nask 17 102 / find") ≡ Err (Fault 2 kinds.Lane)
unfolding read_script read_script_lines with_script_line with_act read_line percent_decode read_act read_publish read_rollup read_ask read_path is_utf8 chars encode
lane_out_of_range = refl

sound : is_script ((1, Publish 100 (codes "a")) ∷ (2, Barrier) ∷ (5, Ask 1 (codes "102") [] forms.Query (codes "SELECT" ∷ [])) ∷ []) ≡ true
sound = refl

-- lines ascend, lanes are within 1 and 16, and a query has a word
unsound : is_script ((2, Barrier) ∷ (2, Barrier) ∷ []) || is_script ((1, Ask 17 (codes "102") [] forms.Find []) ∷ []) || is_script ((1, Ask 1 (codes "102") [] forms.Query []) ∷ []) ≡ false
unsound = refl
