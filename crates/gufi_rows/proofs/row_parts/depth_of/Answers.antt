use Rattle.std.proofs.Common.{length, ap, arith}
use Rattle.gufi_rows.proofs.RowParts.{IsStemOf-parts}
use Rattle.gufi_rows.proofs.row_parts.depth_of.Goals as goal

pub of_text-requires : goal.of_text-requires
of_text-requires c =
    let stands = c.requires.1 in
    (IsStemOf-parts c.args.row.stem.now c.args.row.base.now c.requires.0.path (record { names = stands.names; stem = stands.stem; base = stands.base }) (omega arith)).text

pub overflow_add-result : goal.overflow_add-result
overflow_add-result c =
    let stands = c.requires.1 in
    let stem = IsStemOf-parts c.args.row.stem.now c.args.row.base.now c.requires.0.path (record { names = stands.names; stem = stands.stem; base = stands.base }) (omega arith) in
    omega (arith, c.depth.ensures, ap length c.of_text.ensures, stem.depth, stem.few)

pub returns : goal.returns
returns c = λ of stands.
    let stem = IsStemOf-parts c.args.row.stem.now c.args.row.base.now of.path (record { names = stands.names; stem = stands.stem; base = stands.base }) (omega arith) in
    omega (arith, c.depth.ensures, ap length c.of_text.ensures, stem.depth)
