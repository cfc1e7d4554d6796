use Rattle.ep_universe.proofs.ForestLemmas.{candidates_laminar}
use Rattle.ep_universe.proofs.laws.objects_of_types_are_laminar.Goals as goal

pub returns : goal.returns
returns c = candidates_laminar
