-- What the calls of an update answer.
use Rattle.std.specs.Prelude.{◌≡◌, ◌<◌, ◌≤◌, Some}
use Rattle.ep_theory.specs.Kripke.{Kripke, IsState}
use Rattle.ep_theory.specs.Fits.{link_count}
use Rattle.ep_theory.specs.Events.{EventModel}
use Rattle.ep_theory.specs.Product.{IsApplicable, stuck_world, product_of}
use Rattle.ep_theory.specs.Bisimulation.{Bisimilar}
use Rattle.ep_update.specs.declared.update.Size.{Size}
use Rattle.ep_update.specs.declared.update.UpdateError.{UpdateError}
use Rattle.ep_update.specs.declared.update.UpdateError.TheVariants.{Inapplicable, TooManyWorlds, TooManyLinks, OutOfMemory}

-- the state is no larger
pub record IsWithin (size : Size) (S : Kripke) : Type 0 where
  pub worlds : S.worlds ≤ size.worlds
  pub links : link_count S ≤ size.links

-- when each refusal comes, with the exact numbers of the product
abbrev pub IsFault : Kripke → EventModel → Size → UpdateError → Type 0
IsFault S A size (Inapplicable w) = stuck_world S A ≡ Some w
IsFault S A size (TooManyWorlds n) = IsApplicable S A × (n ≡ (product_of S A).worlds) × (size.worlds < n)
IsFault S A size (TooManyLinks n) = IsApplicable S A × ((product_of S A).worlds ≤ size.worlds) × (n ≡ link_count (product_of S A)) × (size.links < n)
IsFault S A size OutOfMemory = ⊥

-- the result is right for each state that is bisimilar: the action is applicable there, and the products are bisimilar
abbrev pub IsProductUpTo : Kripke → EventModel → Kripke → Type 0
IsProductUpTo S A T = (R : Kripke) → IsState R → Bisimilar S R → IsApplicable R A × Bisimilar T (product_of R A)

-- the action is not applicable in any state that is bisimilar
abbrev pub AppliesNowhere : Kripke → EventModel → Type 0
AppliesNowhere S A = (R : Kripke) → Bisimilar S R → ¬ IsApplicable R A

-- an action that is refused as inapplicable applies nowhere
abbrev pub IsRefusalUpTo : Kripke → EventModel → UpdateError → Type 0
IsRefusalUpTo S A (Inapplicable w) = AppliesNowhere S A
IsRefusalUpTo S A (TooManyWorlds n) = Unit {0}
IsRefusalUpTo S A (TooManyLinks n) = Unit {0}
IsRefusalUpTo S A OutOfMemory = Unit {0}
