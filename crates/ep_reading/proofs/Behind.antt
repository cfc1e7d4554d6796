-- How a command puts its steps together.
use Rattle.std.proofs.Common.{ℕ, List, Result, Ok, Err}
use Rattle.ep_logic.specs.declared.ids.ActionId.{ActionId}
use Rattle.ep_ground.specs.Task.{GroundTask}
use Rattle.ep_io.specs.Library.{FileMap, LibraryState}
use Rattle.ep_answer.specs.declared.answer.Answer.{Answer}
use Rattle.ep_answer.specs.declared.answer.Stop.{Stop}
use Rattle.ep_answer.specs.declared.answer.Stop.TheVariants.{Told, OutOfMemory}
use Rattle.ep_answer.specs.declared.cause.Subject.{Subject}
use Rattle.ep_answer.specs.declared.status.Status.{Status}
use Rattle.ep_answer.specs.Answer.{answer_status, answer_text}
use Rattle.ep_reading.specs.PlanFile.{PlanFile}
use Rattle.ep_reading.specs.Run.{GoesOn, IsAnswerOf}
use Rattle.ep_reading.specs.Served.{Ending, Answers, TaskFile, answers}
use Rattle.ep_reading.specs.Steps.{IsPlanWord, IsTaskFile, Serves, StopsBy, EndsBy, nothing_behind}
use Rattle.ep_reading.proofs.Lift.{IsAnswerOf-held, Serves-more, all_held, behind_is_answer, later, task_then}
use Rattle.ep_reading.proofs.PlanFileLemmas.{PlanFile-weaker, plan_then}
use Rattle.ep_reading.proofs.Told.{IsBehind}

-- ---- answers, wherever they come

pub serves_map : (work more : FileMap → Ending → Type 0) (names others : Subject → List ℕ → Type 0) (one other : Type 0) (mid old new : LibraryState) (r : Result Answer Stop)
    → ((status : Status) (text : List ℕ) → IsAnswerOf work names one mid new status text → IsAnswerOf more others other old new status text)
    → Serves work names one mid new r → Serves more others other old new r
serves_map work more names others one other mid old new (Ok answer) f h = f (answer_status answer) (answer_text answer) h
serves_map work more names others one other mid old new (Err (Told answer)) f h = f (answer_status answer) (answer_text answer) h
serves_map work more names others one other mid old new (Err OutOfMemory) f h = h

pub stops_map : (work more : Ending → Type 0) (stop : Stop) → ((o : Ending) → work o → more o) → StopsBy work stop → StopsBy more stop
stops_map work more (Told answer) f h = f (answers answer) h
stops_map work more OutOfMemory f h = h

-- what is told without a fetch
pub tells_is_served : (work : Ending → Type 0) (names : Subject → List ℕ → Type 0) (old new : LibraryState) (r : Result Answer Stop)
    → ((status : Status) (text : List ℕ) → work (Answers status text) → IsBehind status text)
    → EndsBy work r → Serves (λ files. work) names ⊥ old new r
tells_is_served work names old new (Ok answer) b h =
    behind_is_answer (λ files. work) names old new (answer_status answer) (answer_text answer) (b (answer_status answer) (answer_text answer) h) (all_held old.held (λ files. h))
tells_is_served work names old new (Err (Told answer)) b h =
    behind_is_answer (λ files. work) names old new (answer_status answer) (answer_text answer) (b (answer_status answer) (answer_text answer) h) (all_held old.held (λ files. h))
tells_is_served work names old new (Err OutOfMemory) b h = h

-- ---- behind a task

pub behind_task : (old mid new : LibraryState) (file : List ℕ) (g : GroundTask) (P : FileMap → GroundTask → Ending → Type 0) (names others : Subject → List ℕ → Type 0) (r : Result Answer Stop)
    → IsTaskFile old file g → GoesOn old mid → ((s : Subject) (name : List ℕ) → names s name → others s name)
    → Serves (λ files. P files g) names ⊥ mid new r → Serves (λ files. TaskFile files file (P files)) others ⊥ old new r
behind_task old mid new file g P names others r t on f h =
    serves_map (λ files. P files g) (λ files. TaskFile files file (P files)) names others ⊥ ⊥ mid old new r
    (λ status text k. IsAnswerOf-held (λ files. P files g) (λ files. TaskFile files file (P files)) names others ⊥ ⊥ old new status text (λ x. x, λ x. x)
    (task_then old file g (λ files. P files g) P t (λ files o w. w)) f (later (λ files. P files g) names old mid new status text on k)) h

-- ---- behind a plan

pub stops_at_plan : (old new : LibraryState) (subject : Subject) (word : List ℕ) (g : GroundTask) (P : FileMap → List ActionId → Ending → Type 0) (names others : Subject → List ℕ → Type 0) (stop : Stop)
    → ((s : Subject) (name : List ℕ) → names s name → others s name)
    → Serves (λ files. PlanFile files subject word g nothing_behind) names ⊥ old new (Err stop)
    → Serves (λ files. PlanFile files subject word g (P files)) others ⊥ old new (Err stop)
stops_at_plan old new subject word g P names others stop f h =
    Serves-more (λ files. PlanFile files subject word g nothing_behind) (λ files. PlanFile files subject word g (P files)) names others ⊥ old new (Err stop)
    (λ files o w. PlanFile-weaker files subject word g nothing_behind (P files) o (λ plan none. absurd none) w) f h

pub behind_plan : (old mid new : LibraryState) (subject : Subject) (word : List ℕ) (g : GroundTask) (plan : List ActionId) (P : FileMap → List ActionId → Ending → Type 0) (names others : Subject → List ℕ → Type 0) (r : Result Answer Stop)
    → IsPlanWord old word g plan → GoesOn old mid → ((s : Subject) (name : List ℕ) → names s name → others s name)
    → Serves (λ files. P files plan) names ⊥ mid new r → Serves (λ files. PlanFile files subject word g (P files)) others ⊥ old new r
behind_plan old mid new subject word g plan P names others r p on f h =
    serves_map (λ files. P files plan) (λ files. PlanFile files subject word g (P files)) names others ⊥ ⊥ mid old new r
    (λ status text k. IsAnswerOf-held (λ files. P files plan) (λ files. PlanFile files subject word g (P files)) names others ⊥ ⊥ old new status text (λ x. x, λ x. x)
    (plan_then old subject word g plan P p) f (later (λ files. P files plan) names old mid new status text on k)) h
