-- How the program keeps what is open.
use Rattle.gufi_find.specs.declared.state.State.{State}
use Rattle.gufi_find.specs.Reading as reading

abbrev pub state_kept : State → reading.State
state_kept s = record { place = s.place; level = s.levels.level; outer = s.levels.outer; least = s.least; most = s.most }
