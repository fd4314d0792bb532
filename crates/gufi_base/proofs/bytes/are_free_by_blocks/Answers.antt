use Rattle.std.proofs.Common.{◌-◌, length, sym, ◌∙◌, arith}
use Rattle.gufi_base.specs.Names.{is_path_byte_but}
use Rattle.gufi_base.proofs.FreeBytes.{decided_behind, decided_at, decided_by_last}
use Rattle.gufi_base.proofs.bytes.are_free_by_blocks.Goals as goal

pub returns-then-not-are_free_at : goal.returns-then-not-are_free_at
returns-then-not-are_free_at g c =
    sym (decided_at (is_path_byte_but c.args.other) c.args.bytes.now c.by_blocks.at g.row.N c.by_blocks.invariant (sym c.are_free_at.ensures ∙ c.if-not-are_free_at.true))

pub by_blocks-preserved : goal.by_blocks-preserved
by_blocks-preserved g c =
    decided_behind (is_path_byte_but c.args.other) c.args.bytes.now c.by_blocks.at g.row.N c.by_blocks.invariant (sym c.are_free_at.ensures ∙ c.if-not-are_free_at.false)

pub returns : goal.returns
returns g c =
    c.are_free_at-2.ensures
    ∙ decided_by_last (is_path_byte_but c.args.other) c.args.bytes.now c.by_blocks.at g.row.N (length c.args.bytes.now - g.row.N) c.by_blocks.invariant (omega arith) (omega arith)
