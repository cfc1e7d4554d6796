use Rattle.ep_types.specs.Tasks.{task_uses}
use Rattle.ep_types.specs.Uses.{formula_uses}
use Rattle.ep_tree.specs.Spelling as spell
use Rattle.std.proofs.Common.{◌+◌, length}
use Rattle.ep_types.proofs.Orders.{first_least}
use Rattle.ep_types.proofs.FormulaTokens as formulas_of
use Rattle.ep_types.proofs.TaskTokens as tasks_of
use Rattle.ep_types.proofs.TokenLemmas.{rises}
use Rattle.ep_types.proofs.laws.tokens_rise.Goals as goal

pub returns-clause-tasks : goal.returns-clause-tasks
returns-clause-tasks c tokens t r = rises (task_uses t) 0 (0 + length (spell.task t)) (tasks_of.task t 0 r.placed)

pub returns-clause-formulas : goal.returns-clause-formulas
returns-clause-formulas c tokens f r s = rises (formula_uses f s) 0 (0 + length (spell.formula f)) (formulas_of.formula f s 0 r.placed)

pub returns-clause-least : goal.returns-clause-least
returns-clause-least c = first_least
