-- A SELECT may be sent to another thread.
use denote.Param.Send.{IsSend, sendable}
use Rattle.std.proofs.Crossing.{crosses}
use Rattle.gufi_base.specs.contracts.list.Bytes as bytes
use Rattle.gufi_select.specs.contracts.column.Column as column
use Rattle.gufi_select.specs.contracts.column.Table as table
use Rattle.gufi_select.specs.contracts.operator.Operator as operator
use Rattle.gufi_select.specs.contracts.condition.Value as value
use Rattle.gufi_select.specs.contracts.condition.Condition as condition
use Rattle.gufi_formula.proofs.formula.Formula.TheSendSync as formula
use Rattle.gufi_pattern.proofs.Sending.{built_send}
use Rattle.gufi_select.specs.contracts.regexp.Regexp as regexp
use Rattle.gufi_select.specs.contracts.select.Select as select

pub bytes_send : IsSend bytes.the_row
bytes_send = search (sendable, crosses) depth 20

pub value_send : IsSend (value.the_field).row
value_send = search (bytes_send, sendable, crosses) depth 20

pub column_send : IsSend (column.the_field).row
column_send = search sendable depth 30

pub operator_send : IsSend (operator.the_field).row
operator_send = search sendable depth 30

pub table_send : IsSend (table.the_field).row
table_send = search sendable depth 30

pub condition_send : IsSend (condition.the_field).row
condition_send = search (column_send, operator_send, value_send, sendable) depth 20

pub regexp_send : IsSend (regexp.the_field).row
regexp_send = search (column_send, built_send, sendable) depth 20

pub columns_send : IsSend column.the_row
columns_send = search (sendable, crosses) depth 20

pub select_send : IsSend select.the_row
select_send = search (columns_send, table_send, regexp_send, condition_send, formula.the_send, sendable, crosses) depth 30 fits 8000
