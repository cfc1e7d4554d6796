-- What `trial` answers for its ground task.
use Rattle.std.specs.Prelude.{◌≡◌, ℕ, length}
use Rattle.ep_theory.specs.Canonical.{Contracts}
use Rattle.ep_theory.specs.Kripke.{Kripke}
use Rattle.ep_ground.specs.Task.{GroundTask}
use Rattle.ep_plan.specs.Verdicts.{IsVerdict}
use Rattle.ep_plan.specs.declared.verdicts.Verdict.{Verdict}
use Rattle.ep_search.specs.Allowed.{Allowed}
use Rattle.ep_search.specs.declared.answer.Answer.{Answer as Found}
use Rattle.ep_search.specs.declared.answer.Answer.TheVariants as found
use Rattle.ep_bounds.specs.declared.bounds.Bounds.{Bounds}
use Rattle.ep_bounds.specs.declared.bounds.Measure.TheVariants.{Length}
use Rattle.ep_bounds.specs.declared.bounds.Mode.TheVariants as mode
use Rattle.ep_answer.specs.declared.answer.Answer.TheVariants.{Tried}
use Rattle.ep_answer.specs.declared.trial_text.Trial.{Trial}
use Rattle.ep_answer.specs.declared.trial_text.TrialEnd.{TrialEnd}
use Rattle.ep_answer.specs.declared.trial_text.TrialEnd.TheVariants.{Solved, Open}
use Rattle.ep_reading.specs.Served.{Ending, answers}
use Rattle.ep_planning.specs.Planning.{planned_of}

-- n actions, 1,000 states and 256 worlds
abbrev pub trial_bounds : ℕ → Bounds
trial_bounds n = record { measure = Length; bound = n; states = 1000; worlds = 256 }

-- how a trial ends: with the length of a shortest plan and the verdict on it, or with another answer
abbrev pub TrialEnds : GroundTask → ℕ → Found → TrialEnd → Type 0
TrialEnds g n (found.Least p) end = (v : Verdict) × IsVerdict g.problem p v × (end ≡ Solved (length p) v)
TrialEnds g n answer end = end ≡ Open (planned_of g (trial_bounds n) answer)

-- the worlds of the initial state and of its contraction, and an answer that the task allows for n actions
pub record IsTrial (n : ℕ) (g : GroundTask) (trial : Trial) : Type 0 where
  pub children : trial.children ≡ n
  pub worlds : trial.worlds ≡ g.problem.initial.worlds
  pub contraction : Kripke
  pub contracts : Contracts g.problem.initial contraction
  pub contracted : trial.contracted ≡ contraction.worlds
  pub answer : Found
  pub allowed : Allowed g.problem (trial_bounds n) mode.Prove answer
  pub ends : TrialEnds g n answer trial.end

unfoldable pub Tries : ℕ → GroundTask → Ending → Type 0
Tries n g outcome = (trial : Trial) × IsTrial n g trial × (outcome ≡ answers (Tried trial))
