use Rattle.ep_theory.proofs.actions.EquivalenceLemmas.{product-is_s5}
use Rattle.ep_theory.proofs.equivalences.product_of_equivalences.Goals as goal

pub returns : goal.returns
returns c = product-is_s5
