-- The verdict on a plan: its run under 65,536 worlds and 33,554,432 links, and the goal where the run goes through.
-- This project's own.
use Rattle.std.specs.Prelude.{ℕ, List}
use Rattle.ep_kripke.specs.declared.limits.TheConstants.{MOST_WORLDS}
use Rattle.ep_plan.specs.declared.verdicts.TheConstants.{MOST_LINKS}
use Rattle.ep_logic.specs.declared.ids.ActionId.{ActionId}
use Rattle.ep_theory.specs.Kripke.{Kripke}
use Rattle.ep_update.specs.declared.update.Size.{Size}
use Rattle.ep_theory.specs.PlanningTask.{PlanningTask}
use Rattle.ep_theory.specs.Plans.{Reaches}
use Rattle.ep_plan.specs.declared.runs.Outcome.TheVariants.{After, Stuck, SpentWorlds, SpentLinks}
use Rattle.ep_plan.specs.declared.verdicts.Verdict.{Verdict}
use Rattle.ep_plan.specs.declared.verdicts.Verdict.TheVariants as verdict
use Rattle.ep_plan.specs.Runs.{RunUnder}

-- the size that the steps of a plan may have
abbrev pub widest : Size
widest = record { worlds = MOST_WORLDS; links = MOST_LINKS }

-- some state is what the run comes to
abbrev pub RunsThrough : PlanningTask → List ActionId → Type 0
RunsThrough T p = (S : Kripke) × RunUnder T p widest (After S)

abbrev pub IsVerdict : PlanningTask → List ActionId → Verdict → Type 0
IsVerdict T p verdict.Yes = RunsThrough T p × Reaches T p
IsVerdict T p verdict.GoalFalse = RunsThrough T p × ¬ Reaches T p
IsVerdict T p (verdict.Inapplicable k) = RunUnder T p widest (Stuck k)
IsVerdict T p (verdict.SpentWorlds k n) = RunUnder T p widest (SpentWorlds k n)
IsVerdict T p (verdict.SpentLinks k n) = RunUnder T p widest (SpentLinks k n)

-- how many products were asked for, of a plan of so many actions
abbrev pub verdict_count : ℕ → Verdict → ℕ
verdict_count actions verdict.Yes = actions
verdict_count actions verdict.GoalFalse = actions
verdict_count actions (verdict.Inapplicable k) = k
verdict_count actions (verdict.SpentWorlds k n) = k
verdict_count actions (verdict.SpentLinks k n) = k
