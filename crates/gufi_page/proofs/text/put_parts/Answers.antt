use Rattle.gufi_page.proofs.Pages.{GoesOn-bytes}
use Rattle.gufi_page.proofs.text.put_parts.Goals as goal

pub returns-clause-goes_on : goal.returns-clause-goes_on
returns-clause-goes_on c =
    let e = c.keep_stem.ensures in
    GoesOn-bytes _ _ _ _ _ _ (record { bytes = e.grown; stems = e.more; stems_in = e.stems_in }) c.put_ends.ensures.grown
