use Rattle.ep_name.proofs.LawsLemmas.{printed-apart}
use Rattle.ep_name.proofs.laws.printed_objects_differ.Goals as goal

pub returns : goal.returns
returns c = λ name names bs n plain apart h k. printed-apart names plain apart name bs n h k
