-- The words of each command. This project's own.
use Rattle.std.specs.Prelude.{◌≡◌, ◌≢◌, ◌⊎◌, ◌≤◌, List, [], ◌∷◌, codes, decimal}
use Rattle.ep_words.specs.declared.options.Options.{Options}
use Rattle.ep_words.specs.declared.command.Command.{Command}
use Rattle.ep_words.specs.declared.command.Command.TheVariants.{Plan, Validate, Eval, State, Contract, Same, Check, Trial, Apart}
use Rattle.ep_words.specs.Options.{Word, no_options, AreOptions, plan_of}

-- not empty, and does not begin with `-`
abbrev pub IsFileWord : Word → Type 0
IsFileWord [] = ⊥
IsFileWord (first ∷ rest) = first ≢ 45

-- a file, or `-` for the empty plan
abbrev pub IsPlanWord : Word → Type 0
IsPlanWord word = (word ≡ codes "-") ⊎ IsFileWord word

-- the first word of a command
abbrev pub verb : Command → Word
verb (Plan bounds guide mode) = codes "plan"
verb Validate = codes "validate"
verb Eval = codes "eval"
verb State = codes "state"
verb Contract = codes "contract"
verb Same = codes "same"
verb Check = codes "check"
verb (Trial children) = codes "trial"
verb Apart = codes "apart"

-- a file, and options that make this command
pub record IsPlanned (words : List Word) (command : Command) : Type 0 where
  pub file : Word
  pub options : List Word
  pub all : Options
  pub words_are : words ≡ file ∷ options
  pub is_file : IsFileWord file
  pub are_options : AreOptions options no_options all
  pub makes : command ≡ plan_of all

abbrev pub IsTask : List Word → Type 0
IsTask (file ∷ []) = IsFileWord file
IsTask _ = ⊥

abbrev pub IsTaskAndPlan : List Word → Type 0
IsTaskAndPlan (file ∷ plan ∷ []) = IsFileWord file × IsPlanWord plan
IsTaskAndPlan _ = ⊥

abbrev pub IsTaskAndPlans : List Word → Type 0
IsTaskAndPlans (file ∷ one ∷ two ∷ []) = IsFileWord file × IsPlanWord one × IsPlanWord two
IsTaskAndPlans _ = ⊥

-- the formula is any word
abbrev pub IsTaskPlanAndFormula : List Word → Type 0
IsTaskPlanAndFormula (file ∷ plan ∷ formula ∷ []) = IsFileWord file × IsPlanWord plan
IsTaskPlanAndFormula _ = ⊥

-- the words behind the first one
abbrev pub AreArguments : Command → List Word → Type 0
AreArguments (Plan bounds guide mode) words = IsPlanned words (Plan bounds guide mode)
AreArguments Validate words = IsTaskAndPlan words
AreArguments Eval words = IsTaskPlanAndFormula words
AreArguments State words = IsTaskAndPlan words
AreArguments Contract words = IsTaskAndPlan words
AreArguments Same words = IsTaskAndPlans words
AreArguments Check words = IsTask words
AreArguments (Trial children) words = (words ≡ decimal children ∷ []) × (1 ≤ children) × (children ≤ 8)
AreArguments Apart words = IsTaskAndPlans words

-- the words are those of the command
abbrev pub IsCommand : List Word → Command → Type 0
IsCommand [] command = ⊥
IsCommand (first ∷ rest) command = (first ≡ verb command) × AreArguments command rest
