-- The words of commands: their files, and the bounds that they give.
use Rattle.std.proofs.Common.{ℕ, ◌≤◌, List, [], ◌∷◌, Option, Some, None, unwrap_or, IfSome, subst, sym, arith}
use Rattle.ep_bounds.specs.Bounds.{IsBounds}
use Rattle.ep_bounds.specs.declared.bounds.Measure.TheVariants.{Length}
use Rattle.ep_bounds.specs.declared.bounds.Mode.{Mode}
use Rattle.ep_bounds.specs.declared.bounds.TheConstants.{MOST_BOUND, MOST_STATES, MOST_WORLDS}
use Rattle.ep_words.specs.Options.{AreOptions, no_options, and_option, IsInRange, plan_of}
use Rattle.ep_words.specs.Options as opt
use Rattle.ep_words.specs.Words.{IsCommand}
use Rattle.ep_bounds.specs.declared.bounds.Bounds.{Bounds}
use Rattle.ep_words.specs.declared.command.Command.{Command}
use Rattle.ep_words.specs.declared.command.Command.TheVariants.{Plan}
use Rattle.ep_words.specs.declared.options.Options.{Options}
use Rattle.ep_words.specs.declared.options.PlanOption.{PlanOption}
use Rattle.ep_words.specs.declared.options.PlanOption.TheVariants.{Depth, Cost, States, Worlds, Guide, First}

-- the values that are given are within their limits
record AreWithin (os : Options) : Type 0 where
  bound : IfSome os.bound (λ b. b.1 ≤ MOST_BOUND)
  states : IfSome os.states (λ n. (1 ≤ n) × (n ≤ MOST_STATES))
  worlds : IfSome os.worlds (λ n. (1 ≤ n) × (n ≤ MOST_WORLDS))

one_within : (os : Options) (o : PlanOption) → IsInRange o → AreWithin os → AreWithin (and_option os o)
one_within os (Depth n) w h = record { bound = w; states = h.states; worlds = h.worlds }
one_within os (Cost n) w h = record { bound = w; states = h.states; worlds = h.worlds }
one_within os (States n) w h = record { bound = h.bound; states = w; worlds = h.worlds }
one_within os (Worlds n) w h = record { bound = h.bound; states = h.states; worlds = w }
one_within os (Guide n) w h = record { bound = h.bound; states = h.states; worlds = h.worlds }
one_within os First w h = record { bound = h.bound; states = h.states; worlds = h.worlds }

all_within : (words : List (List ℕ)) (os all : Options) → AreOptions words os all → AreWithin os → AreWithin all
all_within words os all opt.no_more h = h
all_within words os all (opt.one_more o w within new more) h = all_within _ _ all more (one_within os o within h)

or_default : {A : Type 0} (o : Option A) (d : A) (P : A → Type 0) → IfSome o P → P d → P (unwrap_or o d)
or_default None d P h p = p
or_default (Some n) d P h p = h

abbrev bounds_in : Command → Bounds → Bounds
bounds_in (Plan b guide mode) other = b
bounds_in _ other = other

pub plan_within : (words : List (List ℕ)) (b : Bounds) (guide : ℕ) (mode : Mode) → IsCommand words (Plan b guide mode) → IsBounds b
plan_within [] b guide mode h = absurd h
plan_within (verb ∷ rest) b guide mode h =
    let p = h.1 in
    let w = all_within p.options no_options p.all p.are_options (record { bound = tt; states = tt; worlds = tt }) in
    let states = or_default p.all.states 1000 (λ n. (1 ≤ n) × (n ≤ MOST_STATES)) w.states (omega arith, omega arith) in
    let limits : IsBounds (bounds_in (plan_of p.all) b) = record {
      bound = or_default p.all.bound (Length, 8) (λ b. b.1 ≤ MOST_BOUND) w.bound (omega arith);
      some_state = states.0;
      states = states.1;
      worlds = (or_default p.all.worlds 256 (λ n. (1 ≤ n) × (n ≤ MOST_WORLDS)) w.worlds (omega arith, omega arith)).1;
    } in
    subst (λ c. IsBounds (bounds_in c b)) (sym p.makes) limits
