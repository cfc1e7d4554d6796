-- Which status and text the words have, over the files that a library holds.
use Rattle.std.specs.Prelude.{◌≡◌, ◌⊎◌, ℕ, ◌≤◌, List, [], ◌∷◌, ◌++◌, slice_index_or}
use Rattle.ep_trial.specs.TrialText.{trial_text}
use Rattle.ep_words.specs.Words.{IsCommand}
use Rattle.ep_words.specs.declared.command.Command.{Command}
use Rattle.ep_words.specs.declared.command.Command.TheVariants.{Plan, Validate, Eval, State, Contract, Same, Check, Trial, Apart}
use Rattle.ep_io.specs.Library.{FileMap}
use Rattle.ep_answer.specs.declared.answer.Answer.TheVariants.{Misused}
use Rattle.ep_answer.specs.declared.cause.Subject.{Subject}
use Rattle.ep_answer.specs.declared.cause.Subject.TheVariants as the
use Rattle.ep_reading.specs.Fetches.{plan_files}
use Rattle.ep_reading.specs.PlanFile.{NamesPlan}
use Rattle.ep_checking.specs.Checking.{Checks}
use Rattle.ep_compare.specs.Comparing.{CompareWork}
use Rattle.ep_compare.specs.declared.comparison.Comparison.{Comparison}
use Rattle.ep_question.specs.Questions.{Contractions, Evals, States, Validates, PlanWork}
use Rattle.ep_planning.specs.Planning.{Plans, Guided}
use Rattle.ep_planning.specs.Trials.{Tries}
use Rattle.ep_reading.specs.Served.{Ending, TaskFile, TaskRead, answers}

-- the word at a place
abbrev pub word_at : List (List ℕ) → ℕ → List ℕ
word_at words n = slice_index_or words n []

-- what is asked of a task and two plans
abbrev pub ComparedWords : FileMap → List (List ℕ) → Comparison → Ending → Type 0
ComparedWords files words comparison = CompareWork files comparison (word_at words 1) (word_at words 2) (word_at words 3)

-- ---- all commands

-- the work of a command, with so many guides
abbrev pub CommandWork : FileMap → List (List ℕ) → ℕ → Command → Ending → Type 0
CommandWork files words guides (Plan bounds guide mode) outcome =
    Guided guides guide (TaskFile files (word_at words 1) (Plans bounds mode)) outcome
CommandWork files words guides Validate outcome = PlanWork files (word_at words 1) (word_at words 2) Validates outcome
CommandWork files words guides Eval outcome = PlanWork files (word_at words 1) (word_at words 2) (Evals (word_at words 3)) outcome
CommandWork files words guides State outcome = PlanWork files (word_at words 1) (word_at words 2) States outcome
CommandWork files words guides Contract outcome = PlanWork files (word_at words 1) (word_at words 2) Contractions outcome
CommandWork files words guides Same outcome = ComparedWords files words Comparison.Same outcome
CommandWork files words guides Check outcome = TaskFile files (word_at words 1) Checks outcome
CommandWork files words guides (Trial n) outcome = Guided guides 0 (TaskRead (trial_text n) (Tries n)) outcome
CommandWork files words guides Apart outcome = ComparedWords files words Comparison.Apart outcome

-- the whole work: the words are those of no command, or of one
abbrev pub Work : FileMap → List (List ℕ) → ℕ → Ending → Type 0
Work files words guides outcome =
    (((command : Command) → IsCommand words command → ⊥) × (outcome ≡ answers Misused))
    ⊎ ((command : Command) × IsCommand words command × CommandWork files words guides command outcome)

-- ---- files

-- a task and a plan
abbrev pub NamesOne : List (List ℕ) → Subject → List ℕ → Type 0
NamesOne words the.Task name = name ≡ word_at words 1
NamesOne words the.Plan name = NamesPlan (word_at words 2) name
NamesOne words subject name = ⊥

-- a task and two plans
abbrev pub NamesTwo : List (List ℕ) → Subject → List ℕ → Type 0
NamesTwo words the.Task name = name ≡ word_at words 1
NamesTwo words the.FirstPlan name = NamesPlan (word_at words 2) name
NamesTwo words the.SecondPlan name = NamesPlan (word_at words 3) name
NamesTwo words subject name = ⊥

-- the command of the words names this file, and for what
abbrev pub Names : List (List ℕ) → Command → Subject → List ℕ → Type 0
Names words (Plan bounds guide mode) the.Task name = name ≡ word_at words 1
Names words Check the.Task name = name ≡ word_at words 1
Names words Validate subject name = NamesOne words subject name
Names words Eval subject name = NamesOne words subject name
Names words State subject name = NamesOne words subject name
Names words Contract subject name = NamesOne words subject name
Names words Same subject name = NamesTwo words subject name
Names words Apart subject name = NamesTwo words subject name
Names words command subject name = ⊥

-- the files that a command names, in the order of its work
abbrev pub files_of : List (List ℕ) → Command → List (List ℕ)
files_of words (Plan bounds guide mode) = word_at words 1 ∷ []
files_of words Validate = word_at words 1 ∷ plan_files (word_at words 2)
files_of words Eval = word_at words 1 ∷ plan_files (word_at words 2)
files_of words State = word_at words 1 ∷ plan_files (word_at words 2)
files_of words Contract = word_at words 1 ∷ plan_files (word_at words 2)
files_of words Same = word_at words 1 ∷ (plan_files (word_at words 2) ++ plan_files (word_at words 3))
files_of words Check = word_at words 1 ∷ []
files_of words (Trial n) = []
files_of words Apart = word_at words 1 ∷ (plan_files (word_at words 2) ++ plan_files (word_at words 3))

-- the words are those of no command, or of one that names no file
abbrev pub NamesNone : List (List ℕ) → Type 0
NamesNone words = (command : Command) → IsCommand words command → files_of words command ≡ []

-- ---- guides

-- the command asks the guide at the place
abbrev pub AsksGuide : Command → ℕ → Type 0
AsksGuide (Plan bounds guide mode) place = place ≡ guide
AsksGuide (Trial n) place = place ≡ 0
AsksGuide command place = ⊥

-- the words are those of a command that asks the guide at the place
abbrev pub MayAsk : List (List ℕ) → ℕ → Type 0
MayAsk words place = (command : Command) × IsCommand words command × AsksGuide command place

-- ---- misused words

-- the command asks for a guide that is not there
abbrev pub LacksGuide : ℕ → Command → Type 0
LacksGuide guides (Plan bounds guide mode) = guides ≤ guide
LacksGuide guides (Trial n) = guides ≤ 0
LacksGuide guides command = ⊥

-- the words are those of no command, or of one that asks for a guide that is not there
abbrev pub Misuses : List (List ℕ) → ℕ → Type 0
Misuses words guides = ((command : Command) → IsCommand words command → ⊥) ⊎ ((command : Command) × IsCommand words command × LacksGuide guides command)
