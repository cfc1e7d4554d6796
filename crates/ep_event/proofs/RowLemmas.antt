-- The successors of an event in the rows of an action.
use Rattle.std.proofs.Common.{◌≡◌, ℕ, zero, suc, ◌<◌, List, [], ◌∷◌, ◌++◌, map, length, get_or, refl, ◌∙◌, ap, arith}
use Rattle.std.proofs.lemmas.List.{map-append}
use Rattle.ep_event.specs.declared.parts.EventParts.{EventParts}
use Rattle.ep_event.specs.Relations.{action_of, IsSound}
use Rattle.ep_event.proofs.MarkLemmas.{at_place}
use Rattle.ep_logic.specs.Numbers.{table}
use Rattle.ep_theory.specs.Kripke.{successors}
use Rattle.ep_theory.specs.Events.{event_links}
use Rattle.ep_theory.proofs.CallerLemmas.{get_or-pairs, successors-all_pairs}

-- what the slices of an action show
pub targets_at : (events : List EventParts) (relations : List (List (List ℕ))) (designated : List ℕ) → IsSound events relations designated → (a e : ℕ) → a < length relations → e < length events →
    successors (event_links (action_of events relations designated) a) e ≡ get_or (get_or relations a []) e []
targets_at events relations designated sound a e h k =
    let long : length (get_or relations a []) ≡ length events = at_place (λ (rows : List (List ℕ)). length rows ≡ length events) relations a [] h sound.rows in
    ap (λ pairs. successors pairs e) (get_or-pairs relations a) ∙ successors-all_pairs (get_or relations a []) e (omega (arith, k, long))
