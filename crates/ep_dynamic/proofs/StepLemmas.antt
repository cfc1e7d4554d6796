-- How the first refusal of a list of events goes on, and what the early refusals leave.
use Rattle.std.proofs.Common.{◌≡◌, ℕ, suc, ◌+◌, ◌*◌, ◌<◌, ◌≤◌, Bool, true, false, ◌&&◌, nat_lt, if◌then◌else◌, List, [], ◌∷◌, map, drop, length, get_or, Option, Some, None, Result, Ok, Err, MatchResult, refl, sym, ◌∙◌, ap, arith}
use Rattle.std.specs.Option.{option_or}
use Rattle.std.specs.List.{list_all}
use Rattle.std.proofs.lemmas.List.{drop_more, get_or-map}
use Rattle.ep_theory.proofs.states.Exists.{length-map}
use Rattle.ep_logic.specs.declared.formula.Node.{Node}
use Rattle.ep_logic.specs.declared.limits.TheConstants.{MOST_EVENTS}
use Rattle.ep_theory.specs.Events.{Event, EventModel, no_event}
use Rattle.ep_event.specs.declared.parts.Assign.{Assign}
use Rattle.ep_event.specs.Built.{set_of}
use Rattle.ep_dynamic.specs.declared.compose.ComposeError.{ComposeError}
use Rattle.ep_dynamic.specs.declared.compose.ComposeError.TheVariants.{TooManyEvents}
use Rattle.ep_dynamic.specs.declared.sizes.Size.{Size}
use Rattle.ep_dynamic.specs.Reduction.{is_reducible}
use Rattle.ep_dynamic.specs.Composition.{events_in_turn}
use Rattle.ep_dynamic.specs.ComposeAnswers.{common_refusal, early_refusal, event_refusal, first_refusal, formulas_of, greatest_size, size_refusal}
use Rattle.ep_dynamic.proofs.GreatestLemmas.{refusal_by_size}

-- the values that are assigned
pub all_values : (sets : List Assign) → list_all (λ (set : Assign). is_reducible set.value) sets ≡ list_all (λ (set : ℕ × Node). is_reducible set.1) (map set_of sets)
all_values [] = refl
all_values (set ∷ sets) = ap (λ b. is_reducible set.value && b) (all_values sets)

pub as_many : (A B : EventModel) (pairs : List (ℕ × ℕ)) (k : ℕ) → k < length pairs → k < length (map (events_in_turn A B) pairs)
as_many A B pairs k within = let e = length-map (events_in_turn A B) pairs in omega (arith, within, e)

module _ (refusal : ℕ → Event → Option ComposeError) (events : List Event) (k : ℕ) (within : k < length events) where
  at_event : first_refusal refusal k (drop k events) ≡ option_or (refusal k (get_or events k no_event)) (first_refusal refusal (suc k) (drop (k + 1) events))
  at_event = ap (first_refusal refusal k) (drop_more events k no_event within)

  pub goes_on : refusal k (get_or events k no_event) ≡ None → first_refusal refusal k (drop k events) ≡ first_refusal refusal (k + 1) (drop (k + 1) events)
  goes_on none =
      let e : suc k ≡ k + 1 = omega arith in
      at_event ∙ ap (λ o. option_or o (first_refusal refusal (suc k) (drop (k + 1) events))) none ∙ ap (λ n. first_refusal refusal n (drop (k + 1) events)) e

  pub ends : (e : ComposeError) → refusal k (get_or events k no_event) ≡ Some e → first_refusal refusal k (drop k events) ≡ Some e
  ends e some = at_event ∙ ap (λ o. option_or o (first_refusal refusal (suc k) (drop (k + 1) events))) some

-- the refusal of a pair of events by its size
pub pair_refusal : (A B : EventModel) (pairs : List (ℕ × ℕ)) (k : ℕ) (size : Size) → k < length pairs → size ≡ greatest_size (formulas_of (events_in_turn A B (get_or pairs k (0, 0))))
    → event_refusal k (get_or (map (events_in_turn A B) pairs) k no_event) ≡ size_refusal k size
pair_refusal A B pairs k size within e =
    ap (event_refusal k) (get_or-map (events_in_turn A B) pairs k (0, 0) no_event within)
    ∙ sym (refusal_by_size k (events_in_turn A B (get_or pairs k (0, 0)))) ∙ ap (size_refusal k) (sym e)

few_of : (n : ℕ) (b : Bool) (rest : Option ComposeError) → nat_lt MOST_EVENTS n ≡ b → option_or (if b then Some (TooManyEvents n) else None) rest ≡ None → n ≤ 16
few_of n true rest e h = absurd (cc h)
few_of n false rest e h = grind (arith, e)

pub few_events : (A B : EventModel) → early_refusal A B ≡ None → length A.events * length B.events ≤ 16
few_events A B h = few_of (length A.events * length B.events) (nat_lt MOST_EVENTS (length A.events * length B.events)) (first_refusal common_refusal 0 B.events) refl h

-- an answer that says one thing says another
pub match_more : {T E : Type 0} (r : Result T E) (P R : T → Type 0) (Q : E → Type 0) → ((x : T) → P x → R x) → MatchResult r P Q → MatchResult r R Q
match_more (Ok x) P R Q f h = f x h
match_more (Err e) P R Q f h = h
