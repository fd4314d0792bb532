-- Equality of paths, by their order.
use Rattle.std.proofs.Common.{◌≡◌}
use Rattle.std.specs.Cmp.Lexicographic.{lists_ties, texts_ties, slice_cmp}
use Rattle.std.specs.Ordering.{is_eq, nat_cmp}
use Rattle.gufi_base.specs.Paths.{Components, path_eq, path_cmp}

pub path_eq_by_order : (p q : Components) → path_eq p q ≡ is_eq (path_cmp p q)
path_eq_by_order = lists_ties (slice_cmp nat_cmp) texts_ties
