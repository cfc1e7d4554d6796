use Rattle.ep_tree.specs.Grammar.{plans}
use Rattle.ep_reader.proofs.CallerLemmas.{decided}
use Rattle.ep_syntax.specs.PlanReading.{plan}
use Rattle.ep_syntax.proofs.PlanLaws.{plan_outcome}
use Rattle.ep_syntax.proofs.laws.plans_are_decided.Goals as goal

pub returns : goal.returns
returns c = decided plans plan plan_outcome
