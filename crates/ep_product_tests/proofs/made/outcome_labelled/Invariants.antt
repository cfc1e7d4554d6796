use Rattle.ep_product_tests.proofs.made.outcome_labelled.Given as goal

abbrev pub ghosts-counted_labelled : goal.ghosts-counted_labelled
ghosts-counted_labelled g a = record { name = a.blank.name; parts = a.blank.parts }
