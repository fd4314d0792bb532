-- A SELECT may be shared by threads.
use denote.Param.Send.{IsSync, sendable}
use denote.Ref.{NamedLft}
use Rattle.std.proofs.Crossing.{crosses}
use Rattle.gufi_base.specs.contracts.list.Bytes as bytes
use Rattle.gufi_select.specs.contracts.column.Column as column
use Rattle.gufi_select.specs.contracts.column.Table as table
use Rattle.gufi_select.specs.contracts.operator.Operator as operator
use Rattle.gufi_select.specs.contracts.condition.Value as value
use Rattle.gufi_select.specs.contracts.condition.Condition as condition
use Rattle.gufi_formula.proofs.formula.Formula.TheSendSync as formula
use Rattle.gufi_pattern.proofs.Sharing.{built_sync}
use Rattle.gufi_select.specs.contracts.regexp.Regexp as regexp
use Rattle.gufi_select.specs.contracts.select.Select as select
use Rattle.gufi_select.specs.contracts.select.SelectQuestion as question

pub bytes_sync : IsSync bytes.the_row
bytes_sync = search (sendable, crosses) depth 20

pub value_sync : IsSync (value.the_field).row
value_sync = search (bytes_sync, sendable, crosses) depth 20

pub column_sync : IsSync (column.the_field).row
column_sync = search sendable depth 30

pub operator_sync : IsSync (operator.the_field).row
operator_sync = search sendable depth 30

pub table_sync : IsSync (table.the_field).row
table_sync = search sendable depth 30

pub condition_sync : IsSync (condition.the_field).row
condition_sync = search (column_sync, operator_sync, value_sync, sendable) depth 20

pub regexp_sync : IsSync (regexp.the_field).row
regexp_sync = search (column_sync, built_sync, sendable) depth 20

pub columns_sync : IsSync column.the_row
columns_sync = search (sendable, crosses) depth 20

pub select_sync : IsSync select.the_row
select_sync = search (columns_sync, table_sync, regexp_sync, condition_sync, formula.the_sync, sendable, crosses) depth 30 fits 8000

-- and so may the question that it is
pub question_sync : (κ : NamedLft) → IsSync (question.the_row κ)
question_sync κ = search (select_sync, sendable) depth 12
