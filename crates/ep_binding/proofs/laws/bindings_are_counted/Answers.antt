use Rattle.ep_binding.proofs.ListingLemmas.{length-bindings}
use Rattle.ep_binding.proofs.laws.bindings_are_counted.Goals as goal

pub returns : goal.returns
returns c = length-bindings
