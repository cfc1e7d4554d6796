use Rattle.ep_initial.proofs.TypingLemmas.{typed}
use Rattle.ep_initial.proofs.laws.lawful_forms_are_typed.Goals as goal

pub returns : goal.returns
returns c = typed
