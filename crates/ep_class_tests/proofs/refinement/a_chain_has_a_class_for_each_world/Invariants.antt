use Rattle.ep_class_tests.proofs.refinement.a_chain_has_a_class_for_each_world.Given as goal

abbrev pub ghosts-counted : goal.ghosts-counted
ghosts-counted g a = record { name = a.blank.name; parts = a.blank.parts }
