-- Assignments as they are kept, and as a list of atoms and formulas.
use Rattle.std.proofs.Common.{◌≡◌, ◌↔◌, ℕ, ◌<◌, List, [], ◌∷◌, map, length, get_or, sym, ◌∙◌, ap, subst, arith}
use Rattle.std.proofs.lemmas.List.{length-map}
use Rattle.std.specs.List.{AllByRecursion}
use Rattle.ep_logic.specs.declared.formula.Node.{Node}
use Rattle.ep_event.specs.declared.parts.Assign.{Assign}
use Rattle.ep_event.specs.Built.{set_of}
use Rattle.ep_theory.specs.Kripke.{Kripke}
use Rattle.ep_theory.specs.Events.{Event}
use Rattle.ep_theory.specs.Fits.{Fits, SetFits, EventFits}
use Rattle.ep_theory.proofs.CallerLemmas.{get_or-map_within}
use Rattle.ep_update.specs.Assigned.{AssignFits}
use Rattle.ep_update.proofs.AssignedLemmas.{no_set}

pub to_sets : (S : Kripke) (sets : List Assign) → AllByRecursion (AssignFits S) sets → AllByRecursion (SetFits S) (map set_of sets)
to_sets S [] h = tt
to_sets S (x ∷ sets) h = (h.0, to_sets S sets h.1)

pub from_sets : (S : Kripke) (sets : List Assign) → AllByRecursion (SetFits S) (map set_of sets) → AllByRecursion (AssignFits S) sets
from_sets S [] h = tt
from_sets S (x ∷ sets) h = (h.0, from_sets S sets h.1)

-- an event fits if its precondition and its assignments do
pub event_fits : (S : Kripke) (event : Event) (pre : Node) (sets kept : List Assign) → pre ≡ event.pre → map set_of sets ≡ event.sets → kept ≡ sets → (Fits S pre × AllByRecursion (AssignFits S) kept) ↔ EventFits S event
event_fits S event pre sets kept p q k = (
  λ h. record { pre = subst (Fits S) p h.0; sets = subst (AllByRecursion (SetFits S)) (ap (map set_of) k ∙ q) (to_sets S kept h.1) },
  λ h. (subst (Fits S) (sym p) h.pre, from_sets S kept (subst (AllByRecursion (SetFits S)) (sym (ap (map set_of) k ∙ q)) h.sets)),
)

-- an assignment by its place
pub set_at : (sets : List Assign) (listed : List (ℕ × Node)) (i : ℕ) (d : Assign) → map set_of sets ≡ listed → i < length sets → set_of (get_or sets i d) ≡ get_or listed i no_set
set_at sets listed i d e l = sym (get_or-map_within set_of sets i d no_set l) ∙ ap (λ xs. get_or xs i no_set) e

pub set_within : (sets : List Assign) (listed : List (ℕ × Node)) (i : ℕ) → map set_of sets ≡ listed → i < length sets → i < length listed
set_within sets listed i e l = omega (arith, ap length e, length-map sets set_of)
