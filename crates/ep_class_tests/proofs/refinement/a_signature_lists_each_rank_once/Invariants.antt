use Rattle.ep_class_tests.proofs.refinement.a_signature_lists_each_rank_once.Given as goal

abbrev pub ghosts-lists_of : goal.ghosts-lists_of
ghosts-lists_of g a = record { name = a.blank.name; parts = a.blank.parts }
