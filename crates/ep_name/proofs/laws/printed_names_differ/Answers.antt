use Rattle.ep_name.proofs.LawsLemmas.{printed-tells}
use Rattle.ep_name.proofs.laws.printed_names_differ.Goals as goal

pub returns : goal.returns
returns c = printed-tells
