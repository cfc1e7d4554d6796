-- The formula of a word, over the names of a ground task.
use Rattle.std.specs.Prelude.{◌≡◌, ℕ, List, [], MatchOption}
use Rattle.ep_logic.specs.declared.formula.Node.{Node}
use Rattle.ep_lex.specs.Tokens.{Lexed}
use Rattle.ep_tree.specs.Grammar.{formulas}
use Rattle.ep_tree.specs.declared.tree.FormulaTree.{FormulaTree}
use Rattle.ep_types.specs.Tasks.{declarations}
use Rattle.ep_ground.specs.FormulaFaults.{formula_refusal}
use Rattle.ep_universe.specs.Formulas.{ground_of}
use Rattle.ep_ground.specs.declared.formula_fault.FormulaFault.{FormulaFault}
use Rattle.ep_ground.specs.declared.formula_fault.FormulaFault.TheVariants as fault
use Rattle.ep_ground.specs.Task.{GroundTask}
use Rattle.ep_answer.specs.declared.answer.Answer.TheVariants.{Refused}
use Rattle.ep_answer.specs.declared.cause.Cause.TheVariants as cause
use Rattle.ep_answer.specs.declared.cause.Subject.TheVariants.{Formula}
use Rattle.ep_reading.specs.Served.{Ending, Parsed, Sized, answers, place_at}

-- a fault of types or of size is told; want of memory is none
abbrev pub TellsFormulaFault : Lexed → FormulaFault → Ending → Type 0
TellsFormulaFault found (fault.Typing type_fault token) outcome = outcome ≡ answers (Refused Formula (cause.Mistyped type_fault (place_at found token)))
TellsFormulaFault found (fault.TooLarge token) outcome = outcome ≡ answers (Refused Formula (cause.TooLarge (place_at found token)))
TellsFormulaFault found fault.OutOfMemory outcome = ⊥

abbrev pub ground_form : GroundTask → FormulaTree → Node
ground_form g tree = ground_of (declarations g.tree) tree []

-- the ground form of a tree, if its types are right and it is not too large
abbrev pub Formed : GroundTask → Lexed → FormulaTree → (Node → Ending → Type 0) → Ending → Type 0
Formed g found tree next outcome =
    MatchOption (formula_refusal (declarations g.tree) tree) (next (ground_form g tree) outcome) (λ fault. TellsFormulaFault found fault outcome)

-- the ground form of the text of a formula
abbrev pub FormulaRead : GroundTask → List ℕ → (Node → Ending → Type 0) → Ending → Type 0
FormulaRead g text next outcome =
    Parsed formulas Formula text (λ found tree. Formed g found tree next) outcome

-- the formula of a word
unfoldable pub FormulaWord : GroundTask → List ℕ → (Node → Ending → Type 0) → Ending → Type 0
FormulaWord g word next = Sized Formula word (λ text. FormulaRead g text next)
