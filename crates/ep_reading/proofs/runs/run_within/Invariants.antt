use Rattle.ep_reading.proofs.runs.run_within.Given as goal

abbrev pub ghosts-run_counting : goal.ghosts-run_counting
ghosts-run_counting a = record { name = a.blank.name; parts = a.blank.parts }
