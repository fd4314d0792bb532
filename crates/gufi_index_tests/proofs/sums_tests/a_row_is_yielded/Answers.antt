use Rattle.std.proofs.Common.{refl, []}
use Rattle.gufi_base.specs.declared.record.Row.{Row}
use Rattle.gufi_index_tests.proofs.sums_tests.a_row_is_yielded.Goals as goal

pub sum_of_one_row-requires : goal.sum_of_one_row-requires
sum_of_one_row-requires g c =
    let root : Row = record { path = []; rec = record { meta = c.meta-meta.result; link = []; xattrs = []; acl = [] } } in
    (root, record { names = refl; stem = c.as_slice.ensures; base = c.as_slice-2.ensures; meta = refl; link = c.as_slice-3.ensures; xattrs = c.as_slice-4.ensures; acl = c.as_slice-5.ensures })
