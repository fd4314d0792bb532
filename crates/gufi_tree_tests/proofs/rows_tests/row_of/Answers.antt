use Rattle.std.proofs.Common.{refl}
use Rattle.gufi_base.specs.declared.record.Row.{Row}
use Rattle.gufi_tree_tests.proofs.rows_tests.row_of.Goals as goal

pub returns : goal.returns
returns c =
    let row : Row = record { path = c.args.path.now; rec = record { meta = c.args.meta.now; link = c.text.result.now; xattrs = c.base_name-2.result.now; acl = c.text-2.result.now } } in
    (row, record { names = c.text.ensures.names; stem = c.stem.ensures; base = c.base_name.ensures; meta = refl; link = refl; xattrs = refl; acl = refl })
