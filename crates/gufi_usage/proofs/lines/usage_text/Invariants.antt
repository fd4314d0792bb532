use Rattle.gufi_usage.proofs.lines.usage_text.Given as goal

abbrev pub ghosts-lines_from : goal.ghosts-lines_from
ghosts-lines_from g a = record { name = a.blank.name; parts = a.blank.parts }
