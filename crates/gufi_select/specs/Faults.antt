-- The faults of a SELECT, as they are printed.
use Rattle.std.specs.Prelude.{ℕ, List, codes}
use Rattle.gufi_select.specs.declared.fault.SelectKind.{SelectKind}
use Rattle.gufi_select.specs.declared.fault.SelectKind.TheVariants.{Unexpected, UnknownColumn, UnknownTable, WrongType, LiteralTooBig, OpenText, TooDeep, SecondRegex, BadRegex}

abbrev pub select_kind_text : SelectKind → List ℕ
select_kind_text Unexpected = codes "Unexpected"
select_kind_text UnknownColumn = codes "UnknownColumn"
select_kind_text UnknownTable = codes "UnknownTable"
select_kind_text WrongType = codes "WrongType"
select_kind_text LiteralTooBig = codes "LiteralTooBig"
select_kind_text OpenText = codes "OpenText"
select_kind_text TooDeep = codes "TooDeep"
select_kind_text SecondRegex = codes "SecondRegex"
select_kind_text BadRegex = codes "BadRegex"
