use Rattle.std.proofs.Common.{◌-◌, ◌<◌, ◌≤◌, ⊎_elim, length, arith}
use Rattle.std.proofs.lemmas.Bool.{cases_lt}
use Rattle.gufi_base.proofs.Texts.{LastName-text, last_init, last_slash, last_at}
use Rattle.gufi_base.specs.Paths.{parent_path}
use Rattle.gufi_base.specs.PathTexts.{kept_text, names}
use Rattle.gufi_base.proofs.path_parts.last_name_at.Goals as goal

pub returns-clause-value : goal.returns-clause-value
returns-clause-value c =
    let text = c.args.text.now in
    let found = c.behind_last_slash.ensures in
    let at = c.behind_last_slash.result in
    let last = LastName-text text c.requires.text c.requires.named in
    let end = length (kept_text (parent_path (names text))) in
    let some : 0 < end = omega arith in
    let in' : end ≤ length text - 1 = last_init text c.requires.text c.requires.named in
    let before : end ≤ at =
    ⊎_elim (λ (less : at < end). absurd (found.last (end - 1) (omega arith) (omega arith) (last_slash text (names text) last)))
    (λ more. more)
    (cases_lt at end) in
    last_at text (names text) at last before (omega (arith, found.within, c.requires.named)) (found.slash (omega arith))
