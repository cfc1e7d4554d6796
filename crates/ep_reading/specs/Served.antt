-- How the work on files and texts goes: the order in which the first cause decides. A step says how the work may end, given
-- how the work behind it may end with the step's value.
use Rattle.std.specs.Prelude.{◌≡◌, ◌⊎◌, ℕ, List, ◌≤◌, ◌<◌, length, MatchOption}
use Rattle.ep_lex.specs.Tokens.{Lexed, line_at}
use Rattle.ep_lex.specs.declared.limits.TheConstants.{MOST_BYTES}
use Rattle.ep_tree.specs.Grammar.{Grammar, tasks}
use Rattle.ep_reader.specs.Texts.{IsTextOf, IsTextFault}
use Rattle.ep_reader.specs.declared.text.TextError.{TextError}
use Rattle.ep_reader.specs.declared.text.TextError.TheVariants as text
use Rattle.ep_tree.specs.declared.tree.TaskTree.{TaskTree}
use Rattle.ep_types.specs.Faults.{first_fault}
use Rattle.ep_types.specs.Places.{Uses}
use Rattle.ep_types.specs.Tasks.{declarations, task_uses}
use Rattle.ep_ground.specs.Task.{GroundTask}
use Rattle.ep_ground.specs.declared.fault.GroundError.{GroundError}
use Rattle.ep_ground.specs.declared.fault.GroundError.TheVariants as fault
use Rattle.ep_ground.specs.declared.fault.S5Place.TheVariants as place
use Rattle.ep_ground.specs.Grounding.{fault_of, task_of}
use Rattle.ep_io.specs.Library.{FileMap, file_of}
use Rattle.ep_answer.specs.declared.answer.Answer.{Answer}
use Rattle.ep_answer.specs.declared.answer.Answer.TheVariants.{Refused}
use Rattle.ep_answer.specs.declared.cause.Cause.{Cause}
use Rattle.ep_answer.specs.declared.cause.Cause.TheVariants as cause
use Rattle.ep_answer.specs.declared.cause.Place.{Place}
use Rattle.ep_answer.specs.declared.cause.Subject.{Subject}
use Rattle.ep_answer.specs.declared.cause.Subject.TheVariants.{Task}
use Rattle.ep_answer.specs.declared.status.Status.{Status}
use Rattle.ep_answer.specs.Answer.{answer_status, answer_text}

-- how the work ends: with a status and a text, or at the fetch of a file, which a fault may cut off
pub data Ending : Type 0 where
  Answers : Status → List ℕ → Ending
  StopsAt : Subject → List ℕ → Ending

abbrev pub answers : Answer → Ending
answers answer = Answers (answer_status answer) (answer_text answer)

-- ---- files

-- the bytes of a file, if they are not too many
abbrev pub Sized : Subject → List ℕ → (List ℕ → Ending → Type 0) → Ending → Type 0
Sized subject bytes next outcome =
    ((MOST_BYTES < length bytes) × (outcome ≡ answers (Refused subject cause.TooLong))) ⊎ ((length bytes ≤ MOST_BYTES) × next bytes outcome)

-- the bytes of a file, if the library holds it
abbrev pub Fetched : FileMap → Subject → List ℕ → (List ℕ → Ending → Type 0) → Ending → Type 0
Fetched files subject name next outcome =
    (outcome ≡ StopsAt subject name)
    ⊎ MatchOption (file_of files name) (outcome ≡ answers (Refused subject cause.NoSuchFile)) (λ bytes. Sized subject bytes next outcome)

-- ---- texts

-- the cause that tells the fault of a text; want of memory is none
abbrev pub IsTextCause : TextError → Cause → Type 0
IsTextCause (text.Stray at) c = c ≡ cause.StrayByte at
IsTextCause text.TooManyTokens c = c ≡ cause.TooManyTokens
IsTextCause (text.Syntax token line) c = c ≡ cause.Syntax (record { token = token; line = line })
IsTextCause (text.TooDeep token line) c = c ≡ cause.TooDeep (record { token = token; line = line })
IsTextCause text.OutOfMemory c = ⊥

-- the text has a fault, which is told
pub record TellsTextFault {A : Type 0} (kind : Grammar A) (subject : Subject) (bytes : List ℕ) (outcome : Ending) : Type 0 where
  pub error : TextError
  pub fault : IsTextFault kind bytes error
  pub cause : Cause
  pub is_cause : IsTextCause error cause
  pub told : outcome ≡ answers (Refused subject cause)

-- the tokens of a text with its tree, if some tree of the kind reads them
abbrev pub Parsed : {A : Type 0} → Grammar A → Subject → List ℕ → (Lexed → A → Ending → Type 0) → Ending → Type 0
Parsed {A} kind subject bytes next outcome =
    TellsTextFault kind subject bytes outcome ⊎ ((found : Lexed) × (tree : A) × IsTextOf kind bytes found tree × next found tree outcome)

-- a token by its number, with its line
abbrev pub place_at : Lexed → ℕ → Place
place_at found token = record { token = token; line = line_at found token }

-- what stands at the tokens of a tree, if none of them has a type fault
abbrev pub WellTyped : Subject → Lexed → Uses → (Ending → Type 0) → Ending → Type 0
WellTyped subject found uses next outcome =
    MatchOption (first_fault uses) (next outcome) (λ fault. outcome ≡ answers (Refused subject (cause.Mistyped fault.0 (place_at found fault.1))))

-- ---- tasks

-- the cause that tells a ground fault; want of memory is none
abbrev pub IsCauseOf : Lexed → GroundError → Cause → Type 0
IsCauseOf found (fault.TooManyObjects n) c = c ≡ cause.TooManyObjects n
IsCauseOf found fault.NoAgent c = c ≡ cause.NoAgent
IsCauseOf found (fault.TooManyAgents n) c = c ≡ cause.TooManyAgents n
IsCauseOf found (fault.TooManyAtoms n) c = c ≡ cause.TooManyAtoms n
IsCauseOf found (fault.TooManyActions n) c = c ≡ cause.TooManyActions n
IsCauseOf found (fault.TooManyEvents schema n) c = c ≡ cause.TooManyEvents n
IsCauseOf found (fault.TooLargeFormula token) c = c ≡ cause.TooLarge (place_at found token)
IsCauseOf found (fault.TooLargeTask n) c = c ≡ cause.TooLargeTask n
IsCauseOf found (fault.AtomTwice name) c = c ≡ cause.AtomTwice name
IsCauseOf found (fault.TooManyVaried n) c = c ≡ cause.TooManyVaried n
IsCauseOf found (fault.TooManyWorlds n) c = c ≡ cause.TooManyWorlds n
IsCauseOf found fault.NoDesignated c = c ≡ cause.NoDesignated
IsCauseOf found (fault.NotS5 place.Initial agent) c = c ≡ cause.NotS5Initial agent
IsCauseOf found (fault.NotS5 (place.Action action) agent) c = c ≡ cause.NotS5Action action agent
IsCauseOf found fault.OutOfMemory c = ⊥

-- the ground fault is told
abbrev pub TellsCause : Lexed → GroundError → Ending → Type 0
TellsCause found error outcome = (c : Cause) × IsCauseOf found error c × (outcome ≡ answers (Refused Task c))

-- the ground task of a tree, if it has no ground fault
abbrev pub Grounded : Lexed → TaskTree → (GroundTask → Ending → Type 0) → Ending → Type 0
Grounded found tree next outcome =
    MatchOption (fault_of (declarations tree) tree) (next (task_of tree) outcome) (λ error. TellsCause found error outcome)

-- the ground task of the bytes of a task
unfoldable pub TaskRead : List ℕ → (GroundTask → Ending → Type 0) → Ending → Type 0
TaskRead bytes next =
    Parsed tasks Task bytes (λ found tree. WellTyped Task found (task_uses tree) (Grounded found tree next))

-- the ground task of a file
abbrev pub TaskFile : FileMap → List ℕ → (GroundTask → Ending → Type 0) → Ending → Type 0
TaskFile files name next = Fetched files Task name (λ bytes. TaskRead bytes next)
