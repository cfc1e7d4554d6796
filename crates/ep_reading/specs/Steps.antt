-- What a step of the work hands on, or how it ends the work.
use Rattle.std.specs.Prelude.{◌≡◌, ◌≢◌, ◌⊎◌, ◌≤◌, ℕ, List, [], ⊤, length, IfSome, Some, None, Result, MatchResult}
use Rattle.ep_reading.specs.declared.runs.TheConstants.{MOST_RUN_WORLDS}
use Rattle.ep_lex.specs.declared.limits.TheConstants.{MOST_BYTES, MOST_TOKENS}
use Rattle.ep_lex.specs.Tokens.{Lexed}
use Rattle.ep_logic.specs.declared.formula.Node.{Node}
use Rattle.ep_logic.specs.declared.ids.ActionId.{ActionId}
use Rattle.ep_theory.specs.Fits.{Fits}
use Rattle.ep_theory.specs.Kripke.{Kripke}
use Rattle.ep_tree.specs.Grammar.{tasks, formulas}
use Rattle.ep_reader.specs.Texts.{IsTextOf}
use Rattle.ep_reader.specs.declared.text.TextError.{TextError}
use Rattle.ep_tree.specs.declared.tree.FormulaTree.{FormulaTree}
use Rattle.ep_tree.specs.declared.tree.TaskTree.{TaskTree}
use Rattle.ep_types.specs.Tasks.{HasNoFault, declarations}
use Rattle.ep_ground.specs.FormulaFaults.{formula_refusal}
use Rattle.ep_ground.specs.Task.{GroundTask}
use Rattle.ep_ground.specs.Grounding.{fault_of, task_of}
use Rattle.ep_plan.specs.Runs.{RunUnder}
use Rattle.ep_plan.specs.declared.runs.Outcome.TheVariants.{After}
use Rattle.ep_plan_text.specs.PlanFiles.{IsPlan}
use Rattle.ep_io.specs.Library.{LibraryState, FileMap, file_of}
use Rattle.ep_answer.specs.declared.answer.Answer.{Answer}
use Rattle.ep_answer.specs.declared.answer.Answer.TheVariants.{Refused}
use Rattle.ep_answer.specs.declared.cause.Cause.{Cause}
use Rattle.ep_answer.specs.declared.answer.Stop.{Stop}
use Rattle.ep_answer.specs.declared.answer.Stop.TheVariants.{Told, OutOfMemory}
use Rattle.ep_answer.specs.declared.cause.Subject.{Subject}
use Rattle.ep_answer.specs.declared.cause.Subject.TheVariants.{Task}
use Rattle.ep_answer.specs.Answer.{answer_status, answer_text}
use Rattle.ep_reading.specs.FormulaWord.{ground_form}
use Rattle.ep_reading.specs.PlanFile.{NamesPlan, PlanFile, no_plan, run_size, AreItsActions}
use Rattle.ep_reading.specs.Served.{Ending, Fetched, IsTextCause, TaskFile, answers}
use Rattle.ep_reading.specs.Run.{IsAnswerOf}

-- the work may end so, or memory is wanting
abbrev pub StopsBy : (Ending → Type 0) → Stop → Type 0
StopsBy work (Told answer) = work (answers answer)
StopsBy work OutOfMemory = ⊤

-- the work may end with what is told, at the end or before it
abbrev pub EndsBy : (Ending → Type 0) → Result Answer Stop → Type 0
EndsBy work result = MatchResult result (λ answer. work (answers answer)) (StopsBy work)

-- the fault of a text is told, or memory is wanting
abbrev pub StopsAtText : TextError → Subject → Stop → Type 0
StopsAtText error subject = StopsBy (λ outcome. (c : Cause) × IsTextCause error c × (outcome ≡ answers (Refused subject c)))

-- nothing stands behind a step
abbrev pub nothing_behind : {A : Type 0} → A → Ending → Type 0
nothing_behind value outcome = ⊥

-- ---- files

abbrev pub OnlyFile : Subject → List ℕ → Subject → List ℕ → Type 0
OnlyFile subject name other_subject other_name = (other_subject ≡ subject) × (other_name ≡ name)

-- the bytes are those of the file
abbrev pub IsFetched : LibraryState → List ℕ → List ℕ → Type 0
IsFetched library name bytes = (length bytes ≤ MOST_BYTES) × IfSome library.held (λ files. file_of files name ≡ Some bytes)

-- the work on a library ends so, or memory is wanting
abbrev pub StopsAnswer : (FileMap → Ending → Type 0) → (Subject → List ℕ → Type 0) → Type 0 → LibraryState → LibraryState → Stop → Type 0
StopsAnswer work names misuse old new (Told answer) = IsAnswerOf work names misuse old new (answer_status answer) (answer_text answer)
StopsAnswer work names misuse old new OutOfMemory = ⊤

-- the same where no words are misused
abbrev pub StopsWork : (FileMap → Ending → Type 0) → (Subject → List ℕ → Type 0) → LibraryState → LibraryState → Stop → Type 0
StopsWork work names = StopsAnswer work names ⊥

-- the answer of the work, whether it comes at the end or before it
abbrev pub Serves : (FileMap → Ending → Type 0) → (Subject → List ℕ → Type 0) → Type 0 → LibraryState → LibraryState → Result Answer Stop → Type 0
Serves work names misuse old new result =
    MatchResult result (λ answer. IsAnswerOf work names misuse old new (answer_status answer) (answer_text answer)) (StopsAnswer work names misuse old new)

-- the work ends at the fetch
abbrev pub StopsAtFetch : LibraryState → LibraryState → Subject → List ℕ → Stop → Type 0
StopsAtFetch old new subject name = StopsWork (λ files. Fetched files subject name nothing_behind) (OnlyFile subject name) old new

-- ---- tasks

-- the bytes are a task of these tokens and this tree, which has no type fault
pub record IsTreeOf (bytes : List ℕ) (found : Lexed) (tree : TaskTree) : Type 0 where
  pub text : IsTextOf tasks bytes found tree
  pub typed : HasNoFault tree

-- the ground task of a tree without a ground fault
pub record IsGroundOf (tree : TaskTree) (g : GroundTask) : Type 0 where
  pub sound : fault_of (declarations tree) tree ≡ None
  pub whole : g ≡ task_of tree

-- the ground task of the tree of a text
pub record IsTaskOf (bytes : List ℕ) (g : GroundTask) : Type 0 where
  pub found : Lexed
  pub tree : TaskTree
  pub is_tree : IsTreeOf bytes found tree
  pub is_ground : IsGroundOf tree g

-- the ground task of a file
pub record IsTaskFile (library : LibraryState) (name : List ℕ) (g : GroundTask) : Type 0 where
  pub bytes : List ℕ
  pub fetched : IsFetched library name bytes
  pub is_task : IsTaskOf bytes g

-- the work ends before there is a ground task
abbrev pub StopsAtTask : LibraryState → LibraryState → List ℕ → Stop → Type 0
StopsAtTask old new name = StopsWork (λ files. TaskFile files name nothing_behind) (OnlyFile Task name) old new

-- ---- plans

abbrev pub OnlyPlan : Subject → List ℕ → Subject → List ℕ → Type 0
OnlyPlan subject word other_subject name = (other_subject ≡ subject) × NamesPlan word name

-- the plan that bytes are for a task
pub record IsReadPlan (g : GroundTask) (bytes : List ℕ) (plan : List ActionId) : Type 0 where
  pub is_plan : IsPlan g bytes plan
  pub its_actions : AreItsActions g plan
  pub few : length plan ≤ MOST_TOKENS

-- the plan of a file for a task
pub record IsPlanFile (library : LibraryState) (name : List ℕ) (g : GroundTask) (plan : List ActionId) : Type 0 where
  pub bytes : List ℕ
  pub fetched : IsFetched library name bytes
  pub is_plan : IsPlan g bytes plan

-- the plan of a word for a task
pub record IsPlanWord (library : LibraryState) (word : List ℕ) (g : GroundTask) (plan : List ActionId) : Type 0 where
  pub is_plan : ((word ≡ no_plan) × (plan ≡ [])) ⊎ ((word ≢ no_plan) × IsPlanFile library word g plan)
  pub its_actions : AreItsActions g plan
  pub few : length plan ≤ MOST_TOKENS

-- the work ends before there is a plan
abbrev pub StopsAtPlan : LibraryState → LibraryState → Subject → List ℕ → GroundTask → Stop → Type 0
StopsAtPlan old new subject word g = StopsWork (λ files. PlanFile files subject word g nothing_behind) (OnlyPlan subject word) old new

-- the state that a plan of the task leaves, within the size of a run
pub record IsLeft (g : GroundTask) (plan : List ActionId) (S : Kripke) : Type 0 where
  pub run : RunUnder g.problem plan run_size (After S)
  pub worlds : S.worlds ≤ MOST_RUN_WORLDS
  pub agents : S.agents ≡ g.problem.initial.agents
  pub atoms : S.atoms ≡ g.problem.initial.atoms
  pub named_agents : S.agents ≡ length g.agents
  pub named_atoms : S.atoms ≡ length g.atoms

-- ---- formulas

-- the ground form of a tree without a fault
pub record IsFormOf (g : GroundTask) (tree : FormulaTree) (f : Node) : Type 0 where
  pub sound : formula_refusal (declarations g.tree) tree ≡ None
  pub whole : f ≡ ground_form g tree
  pub fits : Fits g.problem.initial f

-- the formula of a text
pub record IsFormulaOf (g : GroundTask) (text : List ℕ) (f : Node) : Type 0 where
  pub few : length text ≤ MOST_BYTES
  pub found : Lexed
  pub tree : FormulaTree
  pub is_text : IsTextOf formulas text found tree
  pub form : IsFormOf g tree f
