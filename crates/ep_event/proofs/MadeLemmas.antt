-- The built action has the links and the designated events of the parts.
use Rattle.std.proofs.Common.{◌≡◌, ℕ, ◌<◌, ◌&&◌, ◌==◌, List, [], length, IsTrue, refl, sym, subst}
use Rattle.ep_logic.specs.Numbers.{numbers_where, pairs_where, table}
use Rattle.ep_logic.specs.declared.ids.EventId.{EventId}
use Rattle.ep_event.specs.declared.parts.EventLink.{EventLink}
use Rattle.ep_event.specs.declared.parts.ActionParts.{ActionParts}
use Rattle.ep_event.specs.Built.{link, event, has_link, has_event, built, IsMadeOf}
use Rattle.ep_event.proofs.BuiltLemmas.{AreFine}
use Rattle.ep_theory.specs.Rising.{IsIn}
use Rattle.ep_theory.specs.Events.{event_links}
use Rattle.ep_logic.proofs.CallerLemmas.{length-table, get_or-table}
use Rattle.ep_theory.proofs.CallerLemmas.{at_All, and_parts, and_whole, equal_from_test, test_itself, to_any, from_any, from_rows, in_numbers, from_numbers, in_pairs, from_pairs}

-- the link that the test asks for
link_is : (a e f : ℕ) (l : EventLink) → IsTrue ((l.agent.n == a) && ((l.from.n == e) && (l.to.n == f))) → l ≡ link a e f
link_is a e f l h =
    let x = and_parts (l.agent.n == a) ((l.from.n == e) && (l.to.n == f)) h in
    let y = and_parts (l.from.n == e) (l.to.n == f) x.1 in
    λ k. link (equal_from_test l.agent.n a x.0 k) (equal_from_test l.from.n e y.0 k) (equal_from_test l.to.n f y.1 k)

from_link : (links : List EventLink) (a e f : ℕ) → IsTrue (has_link links a e f) → IsIn (link a e f) links
from_link links a e f h =
    let r = from_any (λ (l : EventLink). (l.agent.n == a) && ((l.from.n == e) && (l.to.n == f))) links h in
    subst (λ l. IsIn l links) (link_is a e f r.0 r.2) r.1

to_link : (links : List EventLink) (a e f : ℕ) → IsIn (link a e f) links → IsTrue (has_link links a e f)
to_link links a e f i =
    to_any (λ (l : EventLink). (l.agent.n == a) && ((l.from.n == e) && (l.to.n == f))) (link a e f) links i
    (and_whole (a == a) ((e == e) && (f == f)) (test_itself a) (and_whole (e == e) (f == f) (test_itself e) (test_itself f)))

from_event : (ids : List EventId) (e : ℕ) → IsTrue (has_event ids e) → IsIn (event e) ids
from_event ids e h =
    let r = from_any (λ (d : EventId). d.n == e) ids h in
    let same : r.0 ≡ event e = λ k. event (equal_from_test r.0.n e r.2 k) in
    subst (λ d. IsIn d ids) same r.1

to_event : (ids : List EventId) (e : ℕ) → IsIn (event e) ids → IsTrue (has_event ids e)
to_event ids e i = to_any (λ (d : EventId). d.n == e) (event e) ids i (test_itself e)

pub built_is_made : (p : ActionParts) → AreFine p → IsMadeOf p (built p)
built_is_made p fine =
    let n = length p.events in
    let chosen : ℕ → List (ℕ × ℕ) = λ a. pairs_where (has_link p.links a) (length p.events) in
    record {
      events = refl;
      agents = length-table chosen p.agents;
      links = λ a e f. (
        λ h.
            let r = from_rows {A = ℕ × ℕ} chosen p.agents a (e, f) h in
            from_link p.links a e f (from_pairs (has_link p.links a) n n (e, f) r.1).2,
        λ i.
            let agent = at_All (λ (l : EventLink). l.agent.n < p.agents) (link a e f) p.links fine.agents i in
            let ends = at_All (λ (l : EventLink). (l.from.n < length p.events) × (l.to.n < length p.events)) (link a e f) p.links fine.links i in
            subst (λ (pairs : List (ℕ × ℕ)). IsIn {A = ℕ × ℕ} (e, f) pairs) (sym (get_or-table chosen p.agents a [] agent))
            (in_pairs (has_link p.links a) n n e f ends.0 ends.1 (to_link p.links a e f i)),
      );
      designated = λ e. (
        λ h. from_event p.designated e (from_numbers (has_event p.designated) n e h).1,
        λ i. in_numbers (has_event p.designated) n e (at_All (λ (d : EventId). d.n < length p.events) (event e) p.designated fine.designated i) (to_event p.designated e i),
      );
    }
