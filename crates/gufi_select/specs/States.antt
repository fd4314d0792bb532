-- How the program keeps what it has read.
use Rattle.gufi_select.specs.declared.state.State.{State}
use Rattle.gufi_select.specs.Reading.{SelectState}

abbrev pub state_kept : State → SelectState
state_kept s = record { place = s.place; columns = s.columns.items; table = s.table; levels = s.levels; regexp = s.regexp }
