-- What a run leaves where the task's relations are equivalences.
use Rattle.std.proofs.Common.{List}
use Rattle.ep_logic.specs.declared.ids.ActionId.{ActionId}
use Rattle.ep_theory.specs.PlanningTask.{PlanningTask, IsPlanningTask, IsS5Task}
use Rattle.ep_theory.proofs.CallerLemmas.{after_s5, known_after}
use Rattle.ep_update.specs.declared.update.Size.{Size}
use Rattle.ep_plan.specs.declared.runs.Outcome.{Outcome}
use Rattle.ep_plan.specs.declared.runs.Outcome.TheVariants.{After, Stuck, SpentWorlds, SpentLinks}
use Rattle.ep_plan.specs.Runs.{RunUnder}
use Rattle.ep_plan.specs.Truthful.{LeavesTruthful}

module _ (T : PlanningTask) (t : IsPlanningTask T) (p : List ActionId) (size : Size) where
  pub truthful_run : (o : Outcome) → RunUnder T p size o → IsS5Task T → LeavesTruthful o
  truthful_run (After S) run e = record { s5 = after_s5 T t e p S run.leaves; knowledge = known_after T t e p S run.leaves }
  truthful_run (Stuck k) run e = tt
  truthful_run (SpentWorlds k n) run e = tt
  truthful_run (SpentLinks k n) run e = tt
