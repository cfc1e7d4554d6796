use Rattle.ep_initial.proofs.ObjectiveLemmas.{meeting}
use Rattle.ep_initial.proofs.laws.meeting_is_truth.Goals as goal

pub returns : goal.returns
returns c = meeting
