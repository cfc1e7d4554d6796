use Rattle.std.proofs.Common.{◌≡◌, ◌⊎◌, inl, inr}
use Rattle.ep_bounds.specs.declared.bounds.Bounds.{Bounds}
use Rattle.ep_bounds.specs.declared.bounds.Mode.{Mode}
use Rattle.ep_bounds.specs.declared.bounds.Mode.TheVariants as mode
use Rattle.ep_answer.specs.declared.answer.Answer.TheVariants.{OfSearch}
use Rattle.ep_ground.specs.Task.{GroundTask}
use Rattle.ep_search.specs.Allowed.{Allowed, IsSpent, NoneWithin}
use Rattle.ep_search.specs.declared.answer.Answer.{Answer as Found}
use Rattle.ep_search.specs.declared.answer.Answer.TheVariants as found
use Rattle.ep_planning.specs.Planning.{Plans, TellsNone, TellsPlan, planned_of}
use Rattle.ep_reading.specs.Served.{Ending, answers}
use Rattle.ep_planning.proofs.laws.a_plan_is_told_or_none.Goals as goal

no_cause : (S : Type 0) → (mode.Prove ≡ mode.First) ⊎ S → (S → ⊥) → ⊥
no_cause S (inl e) free = cc
no_cause S (inr s) free = free s

ends : (b : Bounds) (m : Mode) (g : GroundTask) (outcome : Ending) → (IsSpent g.problem b → ⊥) → (answer : Found) → Allowed g.problem b m answer → outcome ≡ answers (OfSearch (planned_of g b answer))
    → TellsPlan b m g outcome ⊎ (NoneWithin g.problem b × TellsNone b g outcome)
ends b mode.Prove g outcome free (found.Least p) h e = inl (p, h.1, e)
ends b mode.First g outcome free (found.Least p) h e = absurd (cc h.0)
ends b mode.Prove g outcome free (found.Found p) h e = absurd (no_cause (IsSpent g.problem b) h.cause free)
ends b mode.First g outcome free (found.Found p) h e = inl (p, h.within, h.reaches, e)
ends b m g outcome free found.NoneTo h e = inr (h, e)
ends b m g outcome free found.ManyStates h e = absurd (free (inl h))
ends b m g outcome free (found.Wide p) h e = absurd (free (inr (p, h)))

pub returns : goal.returns
unfolding Plans
returns c b m g outcome h free = ends b m g outcome free h.0 h.1 h.2
