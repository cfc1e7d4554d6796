use Rattle.ep_audit.proofs.ProgressLemmas.{certifies_closed}
use Rattle.ep_audit.proofs.laws.a_certificate_lists_closed_states.Goals as goal

pub returns : goal.returns
returns c = certifies_closed
