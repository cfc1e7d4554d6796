-- What trying an action in a state makes.
use Rattle.std.specs.Prelude.{◌≡◌, ◌≤◌, Option, Some, None}
use Rattle.ep_canon.specs.declared.limits.TheConstants.{MOST_CONTRACTED_WORLDS}
use Rattle.ep_theory.specs.Kripke.{Kripke, IsState}
use Rattle.ep_theory.specs.Events.{EventModel}
use Rattle.ep_update.specs.Updates.{IsProductUpTo, AppliesNowhere}

-- the product of each bisimilar state is bisimilar to it; it has the same agents and atoms, and can be contracted
pub record IsMade (S : Kripke) (A : EventModel) (T : Kripke) : Type 0 where
  pub valid : IsState T
  pub agents : T.agents ≡ S.agents
  pub atoms : T.atoms ≡ S.atoms
  pub small : T.worlds ≤ MOST_CONTRACTED_WORLDS
  pub alike : IsProductUpTo S A T

-- a state, or none where the action does not apply
abbrev pub Makes : Kripke → EventModel → Option Kripke → Type 0
Makes S A None = AppliesNowhere S A
Makes S A (Some T) = IsMade S A T
