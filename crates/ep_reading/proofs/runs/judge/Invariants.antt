use Rattle.ep_reading.proofs.runs.judge.Given as goal

abbrev pub ghosts-judge_counting : goal.ghosts-judge_counting
ghosts-judge_counting a = record { name = a.blank.name; parts = a.blank.parts }
