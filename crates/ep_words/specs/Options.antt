-- The options of `plan`. This project's own.
use Rattle.std.specs.Prelude.{◌≡◌, ℕ, zero, suc, ◌≤◌, List, [], ◌∷◌, None, Some, unwrap_or, codes, decimal}
use Rattle.ep_bounds.specs.declared.bounds.TheConstants.{MOST_BOUND, MOST_STATES, MOST_WORLDS}
use Rattle.ep_bounds.specs.declared.bounds.Measure.{Measure}
use Rattle.ep_bounds.specs.declared.bounds.Measure.TheVariants.{Length, Cost as ByCost}
use Rattle.ep_bounds.specs.declared.bounds.Mode.TheVariants as mode
use Rattle.ep_words.specs.declared.options.PlanOption.{PlanOption}
use Rattle.ep_words.specs.declared.options.PlanOption.TheVariants.{Depth, Cost, States, Worlds, Guide, First}
use Rattle.ep_words.specs.declared.options.Options.{Options}
use Rattle.ep_words.specs.declared.command.Command.{Command}
use Rattle.ep_words.specs.declared.command.Command.TheVariants.{Plan}

abbrev pub Word : Type 0
Word = List ℕ

abbrev pub guide_word : ℕ → Word
guide_word zero = codes "depth"
guide_word (suc zero) = codes "unmet"
guide_word (suc (suc n)) = codes "worlds"

-- how an option is written
abbrev pub option_words : PlanOption → List Word
option_words (Depth n) = codes "--depth" ∷ decimal n ∷ []
option_words (Cost n) = codes "--cost" ∷ decimal n ∷ []
option_words (States n) = codes "--states" ∷ decimal n ∷ []
option_words (Worlds n) = codes "--worlds" ∷ decimal n ∷ []
option_words (Guide n) = codes "--guide" ∷ guide_word n ∷ []
option_words First = codes "--first" ∷ codes "yes" ∷ []

-- the value is within its limits
abbrev pub IsInRange : PlanOption → Type 0
IsInRange (Depth n) = n ≤ MOST_BOUND
IsInRange (Cost n) = n ≤ MOST_BOUND
IsInRange (States n) = (1 ≤ n) × (n ≤ MOST_STATES)
IsInRange (Worlds n) = (1 ≤ n) × (n ≤ MOST_WORLDS)
IsInRange (Guide n) = n ≤ 2
IsInRange First = Unit {0}

abbrev pub no_options : Options
no_options = record { bound = None; states = None; worlds = None; guide = None; mode = mode.Prove }

-- the option is not among these; a bound by one measure is none by the other
abbrev pub IsNew : PlanOption → Options → Type 0
IsNew (Depth n) os = os.bound ≡ None
IsNew (Cost n) os = os.bound ≡ None
IsNew (States n) os = os.states ≡ None
IsNew (Worlds n) os = os.worlds ≡ None
IsNew (Guide n) os = os.guide ≡ None
IsNew First os = os.mode ≡ mode.Prove

-- these and the option
abbrev pub and_option : Options → PlanOption → Options
and_option os (Depth n) = record os { bound = Some (Length, n) }
and_option os (Cost n) = record os { bound = Some (ByCost, n) }
and_option os (States n) = record os { states = Some n }
and_option os (Worlds n) = record os { worlds = Some n }
and_option os (Guide n) = record os { guide = Some n }
and_option os First = record os { mode = mode.First }

-- the words are those of further options in any order, each at most once and within its limits, with which there are all
pub data AreOptions : List Word → Options → Options → Type 0 where
  no_more : {os : Options} → AreOptions [] os os
  one_more : {name value : Word} {words : List Word} {os all : Options} (o : PlanOption)
      → option_words o ≡ name ∷ value ∷ [] → IsInRange o → IsNew o os → AreOptions words (and_option os o) all → AreOptions (name ∷ value ∷ words) os all

-- the measure and the bound that are given, and else 8 actions
abbrev pub bound_of : Options → Measure × ℕ
bound_of os = unwrap_or os.bound (Length, 8)

-- the command with the values that are given, and else 8 actions, 1,000 states, 256 worlds, the guide `depth`, and a least plan
abbrev pub plan_of : Options → Command
plan_of os = Plan (record { measure = (bound_of os).0; bound = (bound_of os).1; states = unwrap_or os.states 1000; worlds = unwrap_or os.worlds 256 }) (unwrap_or os.guide 0) os.mode
