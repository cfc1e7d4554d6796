-- What `same` and `apart` answer for their ground task and their plans.
use Rattle.std.specs.Prelude.{◌≡◌, ◌⊎◌, ◌<◌, ◌≤◌, ℕ, List, length}
use Rattle.ep_theory.specs.Bisimulation as theory
use Rattle.ep_theory.specs.Canonical.{Contracts}
use Rattle.ep_theory.specs.Kripke.{Kripke}
use Rattle.ep_theory.specs.Rising.{IsIn}
use Rattle.ep_canon.specs.declared.limits.TheConstants.{MOST_CONTRACTED_WORLDS}
use Rattle.ep_apart.specs.declared.limits.TheConstants.{MOST_TOLD}
use Rattle.ep_apart.specs.declared.lines.Apart.{Apart}
use Rattle.ep_apart.specs.Lines.{LineTruth, last_line}
use Rattle.ep_apart.specs.Telling.{TellsApart, state_across, state_at}
use Rattle.ep_ground.specs.Task.{GroundTask}
use Rattle.ep_answer.specs.declared.answer.Answer.TheVariants.{Bisimilar, Different, ToldApart, WideContraction}
use Rattle.ep_answer.specs.declared.run_stop.Whose.{Whose}
use Rattle.ep_answer.specs.declared.run_stop.Whose.TheVariants.{First, Second}
use Rattle.ep_reading.specs.PlanFile.{Ran, PlanFile}
use Rattle.ep_reading.specs.Served.{Ending, answers, TaskFile}
use Rattle.ep_io.specs.Library.{FileMap}
use Rattle.ep_answer.specs.declared.cause.Subject.{Subject}
use Rattle.ep_answer.specs.declared.cause.Subject.TheVariants.{Task, FirstPlan, SecondPlan}
use Rattle.ep_reading.specs.Steps.{OnlyFile, OnlyPlan}
use Rattle.ep_compare.specs.ApartText.{apart_text}
use Rattle.ep_compare.specs.declared.comparison.Comparison.{Comparison}

-- a state over the agents and atoms of the task that can be contracted
pub record IsComparable (g : GroundTask) (S : Kripke) : Type 0 where
  pub worlds : S.worlds ≤ MOST_CONTRACTED_WORLDS
  pub agents : S.agents ≡ length g.agents
  pub atoms : S.atoms ≡ length g.atoms

-- ---- same

-- whether the states are bisimilar
unfoldable pub Compares : Kripke → Kripke → Ending → Type 0
Compares S R outcome =
    (theory.Bisimilar S R × (outcome ≡ answers Bisimilar)) ⊎ ((theory.Bisimilar S R → ⊥) × (outcome ≡ answers Different))

-- ---- apart

abbrev pub IsSmallContraction : Kripke → Kripke → Type 0
IsSmallContraction S C = Contracts S C × (C.worlds ≤ MOST_TOLD)

-- the contraction of what a plan leaves, if it has few enough worlds
unfoldable pub Contracted : Whose → Kripke → (Kripke → Ending → Type 0) → Ending → Type 0
Contracted whose S next outcome =
    (C : Kripke) × Contracts S C ×
    (((MOST_TOLD < C.worlds) × (outcome ≡ answers (WideContraction whose C.worlds))) ⊎ ((C.worlds ≤ MOST_TOLD) × next C outcome))

-- two states are told apart by the text of a formula, or they are bisimilar
abbrev pub ToldContractions : GroundTask → Kripke → Kripke → Ending → Type 0
ToldContractions g C D outcome =
    (theory.Bisimilar C D × (outcome ≡ answers Bisimilar)) ⊎ ((a : Apart) × TellsApart C D a × (outcome ≡ answers (ToldApart (apart_text g a))))

-- a formula tells the contractions apart, and in the same way the states: it is true at a designated world of the one on
-- its side, and at none of the other
pub record TellsBoth (g : GroundTask) (S R C D : Kripke) (outcome : Ending) : Type 0 where
  pub apart : Apart
  pub contractions : TellsApart C D apart
  pub different : theory.Bisimilar S R → ⊥
  pub here : (w : ℕ) × IsIn w (state_at S R apart.side).designated × LineTruth (state_at S R apart.side) apart.lines (last_line apart.lines) w
  pub nowhere : (w : ℕ) → IsIn w (state_across S R apart.side).designated → LineTruth (state_across S R apart.side) apart.lines (last_line apart.lines) w → ⊥
  pub told : outcome ≡ answers (ToldApart (apart_text g apart))

-- the states are bisimilar, or told apart
abbrev pub ToldStates : GroundTask → Kripke → Kripke → Kripke → Kripke → Ending → Type 0
ToldStates g S R C D outcome = (theory.Bisimilar S R × (outcome ≡ answers Bisimilar)) ⊎ TellsBoth g S R C D outcome

-- the first contraction is tested before the second one
abbrev pub TellsStates : GroundTask → Kripke → Kripke → Ending → Type 0
TellsStates g S R = Contracted First S (λ C. Contracted Second R (ToldStates g S R C))

-- ---- both

-- what is asked of the states
abbrev pub Compared : Comparison → GroundTask → Kripke → Kripke → Ending → Type 0
Compared Comparison.Same g = Compares
Compared Comparison.Apart g = TellsStates g

-- ---- files

-- two plans for a task; the first one is run before the second one is read
abbrev pub TwoPlans : FileMap → Comparison → List ℕ → List ℕ → GroundTask → Ending → Type 0
TwoPlans files comparison one two g =
    PlanFile files FirstPlan one g (λ p. Ran First g p (λ S.
    PlanFile files SecondPlan two g (λ q. Ran Second g q (Compared comparison g S))))

-- the task of a file, and two plans for it
abbrev pub CompareWork : FileMap → Comparison → List ℕ → List ℕ → List ℕ → Ending → Type 0
CompareWork files comparison file one two = TaskFile files file (TwoPlans files comparison one two)

abbrev pub BothPlans : List ℕ → List ℕ → Subject → List ℕ → Type 0
BothPlans one two subject name = OnlyPlan FirstPlan one subject name ⊎ OnlyPlan SecondPlan two subject name

abbrev pub TaskAndPlans : List ℕ → List ℕ → List ℕ → Subject → List ℕ → Type 0
TaskAndPlans file one two subject name = OnlyFile Task file subject name ⊎ BothPlans one two subject name
