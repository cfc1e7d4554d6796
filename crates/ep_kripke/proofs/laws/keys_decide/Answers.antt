use Rattle.ep_kripke.proofs.KeyLemmas.{keys_decide}
use Rattle.ep_kripke.proofs.laws.keys_decide.Goals as goal

pub returns : goal.returns
returns c = keys_decide
