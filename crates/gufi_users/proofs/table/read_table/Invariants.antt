use Rattle.std.proofs.Common.{◌≡◌, ◌+◌, ◌≤◌, [], map}
use Rattle.gufi_base.specs.Basics.{text_lines}
use Rattle.gufi_users.specs.Users.{read_rows}
use Rattle.gufi_users.proofs.table.read_table.Given as goal

abbrev pub invariant-lines : goal.invariant-lines
invariant-lines g l =
    let rows_from = read_rows g.R.FromLine.name_of g.R.FromLine.means in
    record {
      rows : rows_from 1 [] (text_lines l.fn.bytes) ≡ rows_from (l.number + 1) (map g.R.FromLine.entry l.rows.entries) l.text-iterator;
      number : l.number ≤ 65536;
    }
