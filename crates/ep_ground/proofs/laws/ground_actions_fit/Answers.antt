use Rattle.std.proofs.Common.{refl}
use Rattle.ep_types.specs.Tasks.{declarations}
use Rattle.ep_initial.specs.Initial.{initial_of}
use Rattle.ep_ground.proofs.FitLemmas.{all_fit}
use Rattle.ep_ground.proofs.TaskLemmas.{initial_agents, initial_atoms}
use Rattle.ep_ground.proofs.laws.ground_actions_fit.Goals as goal

pub returns-clause-actions : goal.returns-clause-actions
returns-clause-actions c = λ t h.
    let d = declarations t in
    (all_fit t h d refl (initial_of d t.init) (initial_agents d t.init) (initial_atoms d t.init)).0

pub returns-clause-goal : goal.returns-clause-goal
returns-clause-goal c = λ t h.
    let d = declarations t in
    (all_fit t h d refl (initial_of d t.init) (initial_agents d t.init) (initial_atoms d t.init)).1
