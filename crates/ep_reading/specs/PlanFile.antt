-- The plan of a word: a plan file of the task, or the empty plan; and its run.
use Rattle.std.specs.Prelude.{◌≡◌, ◌≢◌, ◌⊎◌, ℕ, List, [], codes, ◌<◌, All, length}
use Rattle.ep_plan.specs.declared.verdicts.TheConstants.{MOST_LINKS}
use Rattle.ep_reading.specs.declared.runs.TheConstants.{MOST_RUN_WORLDS}
use Rattle.ep_logic.specs.declared.ids.ActionId.{ActionId}
use Rattle.ep_theory.specs.Kripke.{Kripke}
use Rattle.ep_update.specs.declared.update.Size.{Size}
use Rattle.ep_ground.specs.Task.{GroundTask}
use Rattle.ep_plan.specs.Runs.{RunUnder}
use Rattle.ep_plan.specs.declared.runs.Outcome.TheVariants as run
use Rattle.ep_plan_text.specs.PlanFiles.{IsFault, IsPlan}
use Rattle.ep_plan_text.specs.declared.read.PlanError.{PlanError}
use Rattle.ep_plan_text.specs.declared.read.PlanError.TheVariants as fault
use Rattle.ep_io.specs.Library.{FileMap}
use Rattle.ep_answer.specs.declared.answer.Answer.TheVariants.{Refused, Stopped}
use Rattle.ep_answer.specs.declared.cause.Cause.{Cause}
use Rattle.ep_answer.specs.declared.cause.Cause.TheVariants as cause
use Rattle.ep_answer.specs.declared.cause.Subject.{Subject}
use Rattle.ep_answer.specs.declared.run_stop.RunStop.{RunStop}
use Rattle.ep_answer.specs.declared.run_stop.RunStop.TheVariants.{Stuck, SpentWorlds, SpentLinks}
use Rattle.ep_answer.specs.declared.run_stop.Whose.{Whose}
use Rattle.ep_reading.specs.Served.{Ending, Fetched, answers}
use Rattle.ep_base.specs.Texts.{line}

-- ---- plan files

-- the cause that tells the fault of a plan file; want of memory is none
abbrev pub IsPlanCause : PlanError → Cause → Type 0
IsPlanCause (fault.Stray at) c = c ≡ cause.StrayByte at
IsPlanCause fault.TooManyTokens c = c ≡ cause.TooManyTokens
IsPlanCause (fault.Syntax token line) c = c ≡ cause.Syntax (record { token = token; line = line })
IsPlanCause fault.OtherTask c = c ≡ cause.OtherTask
IsPlanCause (fault.UnknownAction line) c = c ≡ cause.UnknownAction line
IsPlanCause (fault.WrongCount stated listed) c = c ≡ cause.WrongCount
IsPlanCause (fault.WrongCost stated summed) c = c ≡ cause.WrongCost
IsPlanCause fault.OutOfMemory c = ⊥

-- the bytes have a fault, which is told
pub record TellsPlanFault (subject : Subject) (g : GroundTask) (bytes : List ℕ) (outcome : Ending) : Type 0 where
  pub error : PlanError
  pub fault : IsFault g bytes error
  pub cause : Cause
  pub is_cause : IsPlanCause error cause
  pub told : outcome ≡ answers (Refused subject cause)

-- the plan of the bytes of a plan file of the task
unfoldable pub PlanRead : Subject → GroundTask → List ℕ → (List ActionId → Ending → Type 0) → Ending → Type 0
PlanRead subject g bytes next outcome =
    TellsPlanFault subject g bytes outcome ⊎ ((plan : List ActionId) × IsPlan g bytes plan × next plan outcome)

-- the word for the empty plan
abbrev pub no_plan : List ℕ
no_plan = codes "-"

-- the word of a plan names this file
abbrev pub NamesPlan : List ℕ → List ℕ → Type 0
NamesPlan word name = (name ≡ word) × (word ≢ no_plan)

-- the plan of a word, for the task
abbrev pub PlanFile : FileMap → Subject → List ℕ → GroundTask → (List ActionId → Ending → Type 0) → Ending → Type 0
PlanFile files subject word g next outcome =
    ((word ≡ no_plan) × next [] outcome)
    ⊎ ((word ≢ no_plan) × Fetched files subject word (λ bytes. PlanRead subject g bytes next) outcome)

-- each action is the task's
abbrev pub AreItsActions : GroundTask → List ActionId → Type 0
AreItsActions g p = All (λ a. a.n < length g.actions) p

-- ---- runs

-- the size that the steps of a plan may have in the commands that go on with what it leaves
abbrev pub run_size : Size
run_size = record { worlds = MOST_RUN_WORLDS; links = MOST_LINKS }

-- the run stops so
abbrev pub RunStops : GroundTask → List ActionId → RunStop → Type 0
RunStops g plan (Stuck k) = RunUnder g.problem plan run_size (run.Stuck k)
RunStops g plan (SpentWorlds k n) = RunUnder g.problem plan run_size (run.SpentWorlds k n)
RunStops g plan (SpentLinks k n) = RunUnder g.problem plan run_size (run.SpentLinks k n)

-- the state that the run leaves
unfoldable pub Ran : Whose → GroundTask → List ActionId → (Kripke → Ending → Type 0) → Ending → Type 0
Ran whose g plan next outcome =
    ((stop : RunStop) × RunStops g plan stop × (outcome ≡ answers (Stopped whose stop)))
    ⊎ ((S : Kripke) × RunUnder g.problem plan run_size (run.After S) × next S outcome)
