-- The fault that is told.
use Rattle.ep_tree.specs.Grammar.{formulas}
use Rattle.ep_answer.specs.declared.cause.Subject.TheVariants.{Formula}
use Rattle.ep_reading.specs.Steps.{nothing_behind}
use Rattle.ep_reading.proofs.Steps.{parsed_fault}
use Rattle.ep_reading.proofs.formula.formula_text.Goals as goal

pub returns-in-Err : goal.returns-in-Err
returns-in-Err c = parsed_fault formulas Formula c.args.text.now (λ _. nothing_behind) c.in-Err.error c.text_stop.result c.in-Err.ensures.fault c.text_stop.ensures
