use Rattle.ep_schema.proofs.DifferLemmas.{names_differ}
use Rattle.ep_schema.proofs.laws.action_names_differ.Goals as goal

pub returns : goal.returns
returns c = λ d schemas h. names_differ d schemas h
