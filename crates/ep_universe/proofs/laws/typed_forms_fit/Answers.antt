use Rattle.ep_universe.proofs.LawLemmas.{formulas_fit, atoms_stand, agents_stand}
use Rattle.ep_universe.proofs.laws.typed_forms_fit.Goals as goal

pub returns-clause-formulas : goal.returns-clause-formulas
returns-clause-formulas c = formulas_fit

pub returns-clause-atoms : goal.returns-clause-atoms
returns-clause-atoms c = atoms_stand

pub returns-clause-agents : goal.returns-clause-agents
returns-clause-agents c = agents_stand
