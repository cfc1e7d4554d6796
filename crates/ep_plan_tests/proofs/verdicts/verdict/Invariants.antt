use Rattle.ep_plan_tests.proofs.verdicts.verdict.Given as goal

abbrev pub ghosts-judged : goal.ghosts-judged
ghosts-judged g a = record { name = a.blank.name; parts = a.blank.parts }
