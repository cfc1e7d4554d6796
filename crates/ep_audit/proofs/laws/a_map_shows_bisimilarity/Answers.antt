use Rattle.ep_audit.proofs.MapLemmas.{maps_bisimilar}
use Rattle.ep_audit.proofs.laws.a_map_shows_bisimilarity.Goals as goal

pub returns : goal.returns
returns c = maps_bisimilar
