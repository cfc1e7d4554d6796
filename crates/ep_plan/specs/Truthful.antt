-- States where what is known is true: van Ditmarsch, van der Hoek and Kooi, Dynamic Epistemic Logic, chapter 2.
use Rattle.std.specs.Prelude.{ℕ, ◌<◌}
use Rattle.ep_logic.specs.declared.formula.Node.{Node}
use Rattle.ep_logic.specs.declared.formula.Node.TheVariants.{Knows}
use Rattle.ep_logic.specs.declared.ids.AgentId.{AgentId}
use Rattle.ep_theory.specs.Kripke.{Kripke}
use Rattle.ep_theory.specs.Truth.{Truth}
use Rattle.ep_theory.specs.Equivalences.{IsS5}
use Rattle.ep_plan.specs.declared.runs.Outcome.{Outcome}
use Rattle.ep_plan.specs.declared.runs.Outcome.TheVariants.{After, Stuck, SpentWorlds, SpentLinks}

-- the relations are equivalences, and at every world what an agent knows is true
pub record IsTruthful (S : Kripke) : Type 0 where
  pub s5 : IsS5 S
  pub knowledge : (a : AgentId) (f : Node) (w : ℕ) → a.n < S.agents → w < S.worlds → Truth S w (Knows a f) → Truth S w f

-- a run that goes through leaves such a state; of the others nothing is said
abbrev pub LeavesTruthful : Outcome → Type 0
LeavesTruthful (After S) = IsTruthful S
LeavesTruthful (Stuck k) = Unit {0}
LeavesTruthful (SpentWorlds k n) = Unit {0}
LeavesTruthful (SpentLinks k n) = Unit {0}
