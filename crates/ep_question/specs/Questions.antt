-- What the commands with one plan answer for their ground task, their plan and their formula.
use Rattle.std.specs.Prelude.{◌≡◌, ◌⊎◌, ℕ, List, ◌++◌, length, count_by, codes}
use Rattle.hex.specs.Hex.{encode_lower}
use Rattle.ep_logic.specs.declared.formula.Node.{Node}
use Rattle.ep_logic.specs.declared.ids.ActionId.{ActionId}
use Rattle.ep_theory.specs.Canonical.{Contracts}
use Rattle.ep_theory.specs.Kripke.{Kripke}
use Rattle.ep_theory.specs.Tested.{is_true}
use Rattle.ep_bytes.specs.Bytes.{bytes_of}
use Rattle.ep_ground.specs.Task.{GroundTask}
use Rattle.ep_ground.specs.StateText.{state_text}
use Rattle.ep_plan.specs.Verdicts.{IsVerdict}
use Rattle.ep_plan.specs.declared.verdicts.Verdict.{Verdict}
use Rattle.ep_answer.specs.declared.answer.Answer.TheVariants.{Judged, TrueAt, Shown}
use Rattle.ep_question.specs.declared.question.Question.{Question}
use Rattle.ep_question.specs.declared.question.Question.TheVariants.{Validate, Eval, State, Contract}
use Rattle.ep_answer.specs.declared.run_stop.Whose.TheVariants.{Only}
use Rattle.ep_reading.specs.FormulaWord.{FormulaWord}
use Rattle.ep_reading.specs.PlanFile.{Ran, PlanFile}
use Rattle.ep_answer.specs.declared.status.Status.TheVariants as status
use Rattle.ep_base.specs.Texts.{line}
use Rattle.ep_reading.specs.Served.{Ending, Answers, answers, TaskFile}
use Rattle.ep_io.specs.Library.{FileMap}
use Rattle.ep_answer.specs.declared.cause.Subject.{Subject}
use Rattle.ep_answer.specs.declared.cause.Subject.TheVariants.{Task, Plan}
use Rattle.ep_reading.specs.Steps.{OnlyFile, OnlyPlan}

-- ---- validate FILE PLAN

-- the verdict on the plan
unfoldable pub Validates : GroundTask → List ActionId → Ending → Type 0
Validates g plan outcome = (v : Verdict) × IsVerdict g.problem plan v × (outcome ≡ answers (Judged v))

-- ---- eval FILE PLAN FORMULA

-- at how many of the designated worlds the formula is true
abbrev pub true_count : Kripke → Node → ℕ
true_count S f = count_by (λ w. is_true S w f) S.designated

abbrev pub Evaluates : Node → Kripke → Ending → Type 0
Evaluates f S outcome = outcome ≡ answers (TrueAt (true_count S f) (length S.designated))

-- the formula of the word, over what the plan leaves
abbrev pub Evals : List ℕ → GroundTask → List ActionId → Ending → Type 0
Evals formula g plan = FormulaWord g formula (λ f. Ran Only g plan (Evaluates f))

-- ---- state FILE PLAN

abbrev pub Shows : GroundTask → Kripke → Ending → Type 0
Shows g S outcome = outcome ≡ answers (Shown (state_text g S))

-- what the plan leaves
abbrev pub States : GroundTask → List ActionId → Ending → Type 0
States g plan = Ran Only g plan (Shows g)

-- ---- contract FILE PLAN

-- the text of the contraction, and its canonical bytes
unfoldable pub ShowsContraction : GroundTask → Kripke → Ending → Type 0
ShowsContraction g S outcome =
    (C : Kripke) × Contracts S C × (outcome ≡ Answers status.Ok (state_text g C ++ line (codes "bytes " ++ encode_lower (bytes_of C))))

-- the contraction of what the plan leaves
abbrev pub Contractions : GroundTask → List ActionId → Ending → Type 0
Contractions g plan = Ran Only g plan (ShowsContraction g)

-- ---- all of them

-- what is asked of the task and the plan
abbrev pub Asks : Question → GroundTask → List ActionId → Ending → Type 0
Asks Validate = Validates
Asks (Eval formula) = Evals formula.now
Asks State = States
Asks Contract = Contractions

-- the task of a file, a plan for it, and what is asked of them
abbrev pub PlanWork : FileMap → List ℕ → List ℕ → (GroundTask → List ActionId → Ending → Type 0) → Ending → Type 0
PlanWork files file plan ask = TaskFile files file (λ g. PlanFile files Plan plan g (ask g))

abbrev pub TaskAndPlan : List ℕ → List ℕ → Subject → List ℕ → Type 0
TaskAndPlan file word subject name = OnlyFile Task file subject name ⊎ OnlyPlan Plan word subject name
