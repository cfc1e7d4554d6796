-- What becomes of the guides.
use Rattle.std.proofs.Common.{◌≡◌, ℕ, List, sym, subst}
use Rattle.ep_bounds.specs.declared.bounds.Bounds.{Bounds}
use Rattle.ep_bounds.specs.declared.bounds.Mode.{Mode}
use Rattle.ep_words.specs.Words.{IsCommand}
use Rattle.ep_words.specs.declared.command.Command.{Command}
use Rattle.ep_words.specs.declared.command.Command.TheVariants.{Plan, Trial}
use Rattle.ep_planning.specs.Asked.{KeepsBut}
use Rattle.ep_cli.specs.Commands.{AsksGuide, MayAsk}

pub keeps_plan : {G : Type 0} (count : G → ℕ) (old new : List G) (b : Bounds) (guide : ℕ) (mode : Mode) (k : Command) → k ≡ Plan b guide mode
    → KeepsBut count (λ other. other ≡ guide) old new → KeepsBut count (AsksGuide k) old new
keeps_plan count old new b guide mode k is h = subst (λ (k : Command). KeepsBut count (AsksGuide k) old new) (sym is) h

pub keeps_trial : {G : Type 0} (count : G → ℕ) (old new : List G) (n : ℕ) (k : Command) → k ≡ Trial n
    → KeepsBut count (λ other. other ≡ 0) old new → KeepsBut count (AsksGuide k) old new
keeps_trial count old new n k is h = subst (λ (k : Command). KeepsBut count (AsksGuide k) old new) (sym is) h

-- what the command may ask its words may ask
pub keeps_words : {G : Type 0} (count : G → ℕ) (old new : List G) (words : List (List ℕ)) (command : Command) → IsCommand words command
    → KeepsBut count (AsksGuide command) old new → KeepsBut count (MayAsk words) old new
keeps_words count old new words command are h = record { number = h.number; others = λ place no. h.others place (λ asks. no (command, are, asks)); grows = h.grows }
