-- Why no action has given parts.
use Rattle.std.specs.Prelude.{ℕ, Bool, not, ◌&&◌, ◌==◌, nat_lt, is_some, List, [], ◌∷◌, length, map, take, position, slice_get, slice_index_or, Option, option_map, option_and_then}
use Rattle.std.specs.List.{list_any}
use Rattle.ep_logic.specs.declared.limits.TheConstants.{MOST_EVENTS}
use Rattle.ep_base.specs.Refusals.{first_some, when, above}
use Rattle.ep_event.specs.declared.parts.Assign.{Assign}
use Rattle.ep_event.specs.declared.parts.EventParts.{EventParts}
use Rattle.ep_event.specs.declared.parts.ActionParts.{ActionParts}
use Rattle.ep_event.specs.declared.refusal.ActionError.{ActionError}
use Rattle.ep_event.specs.declared.refusal.ActionError.TheVariants.{NoEvent, TooManyEvents, AgentOutOfRange, EventOutOfRange, DesignatedOutOfRange, AtomTwice, NoDesignated}
use Rattle.ep_logic.specs.Numbers.{numbers_where}

-- the atom of the assignment at a place
abbrev pub atom_at : List Assign → ℕ → ℕ
atom_at sets i = slice_index_or (map (λ s. s.atom.n) sets) i 0

-- whether an earlier assignment has the atom of the one at this place
abbrev pub is_repeated : List Assign → ℕ → Bool
is_repeated sets i = list_any (λ s. s.atom.n == atom_at sets i) (take i sets)

-- the atom of the first assignment whose atom an earlier assignment has
abbrev pub repeated_atom : List Assign → Option ℕ
repeated_atom sets = option_map (atom_at sets) (slice_get (numbers_where (is_repeated sets) (length sets)) 0)

-- the assignments of an event
abbrev pub sets_at : List EventParts → ℕ → List Assign
sets_at events e = slice_index_or (map (λ p. p.sets) events) e []

-- the first event that assigns to one atom twice, and that atom
abbrev pub atom_twice : List EventParts → Option ActionError
atom_twice events =
    option_and_then (λ e. option_map (AtomTwice e) (repeated_atom (sets_at events e)))
    (position (λ p. is_some (repeated_atom p.sets)) events)

-- the first refusal, in the order of the variants
abbrev pub refusal_of : ActionParts → Option ActionError
refusal_of p = first_some (
    when (length p.events == 0) NoEvent
    ∷ above MOST_EVENTS TooManyEvents (length p.events)
    ∷ option_map AgentOutOfRange (position (λ l. not (nat_lt l.agent.n p.agents)) p.links)
    ∷ option_map EventOutOfRange (position (λ l. not (nat_lt l.from.n (length p.events) && nat_lt l.to.n (length p.events))) p.links)
    ∷ option_map DesignatedOutOfRange (position (λ d. not (nat_lt d.n (length p.events))) p.designated)
    ∷ atom_twice p.events
    ∷ when (length p.designated == 0) NoDesignated
    ∷ [])
