use Rattle.std.proofs.Common.{sym, ap, ◌∙◌}
use Rattle.std.proofs.lemmas.List.Sorted.{list_any-IsPermutation, IsNonDecreasingBy-from_sort}
use Rattle.gufi_access.specs.Access.{is_member}
use Rattle.gufi_access.proofs.index.index_of.Goals as goal

pub returns : goal.returns
returns c = record {
  ascends = IsNonDecreasingBy-from_sort (λ x. x) _ c.sort_unstable.ensures.sorted;
  same = λ gid.
      sym (list_any-IsPermutation _ _ _ c.sort_unstable.ensures.permutation)
      ∙ ap (λ groups. is_member groups gid) c.in_ok-index.ensures.items;
}
