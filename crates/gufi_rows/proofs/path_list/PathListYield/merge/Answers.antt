use Rattle.std.proofs.Common.{◌++◌, subst}
use Rattle.std.specs.List.Sorted.{IsPermutation}
use Rattle.gufi_rows.proofs.PathLists.{paths_joined}
use Rattle.gufi_rows.proofs.path_list.PathListYield.merge.Goals as goal

pub returns : goal.returns
returns c = λ rows more are also.
    paths_joined c.args.self.now c.args.other c.in_ok-self.field-0 (subst (λ l. IsPermutation (l ++ c.args.other) c.in_ok-self.field-0) c.replace-kept.ensures.value c.in_ok-self.ensures) rows more are also
