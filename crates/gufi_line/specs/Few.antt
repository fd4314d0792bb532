-- How many lines a reader keeps.
use Rattle.std.specs.Prelude.{◌≤◌, List}
use Rattle.gufi_base.specs.declared.record.Line.{Line}
use Rattle.gufi_base.specs.Limits.{max_dirs, max_entries}
use Rattle.gufi_line.specs.Lines.{dirs_of, entries_of}

pub record AreFew (lines : List Line) : Type 0 where
  pub dirs : dirs_of lines ≤ max_dirs
  pub entries : entries_of lines ≤ max_entries
