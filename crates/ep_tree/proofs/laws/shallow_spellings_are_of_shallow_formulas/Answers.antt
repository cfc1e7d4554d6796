use Rattle.ep_tree.proofs.NestingLemmas.{nested_formula, spelled_formula}
use Rattle.ep_tree.proofs.laws.shallow_spellings_are_of_shallow_formulas.Goals as goal

pub returns-clause-formula : goal.returns-clause-formula
returns-clause-formula c = nested_formula

pub returns-clause-spelling : goal.returns-clause-spelling
returns-clause-spelling c = spelled_formula
