-- Two states that are bisimilar.
use Rattle.ep_theory.specs.Kripke.{Kripke, IsState}
use Rattle.ep_theory.specs.Bisimulation.{Bisimilar}

unfoldable pub Alike : Kripke → Kripke → Type 0
Alike S R = IsState S × IsState R × Bisimilar S R
