use Rattle.ep_canon.proofs.CanonLemmas.{bytes_of_contractions_decide}
use Rattle.ep_canon.proofs.laws.bytes_of_contractions_decide.Goals as goal

pub returns : goal.returns
returns c = bytes_of_contractions_decide
