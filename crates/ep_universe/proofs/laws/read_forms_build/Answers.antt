use Rattle.ep_universe.proofs.LawLemmas.{build}
use Rattle.ep_universe.proofs.laws.read_forms_build.Goals as goal

pub returns : goal.returns
returns c = build
