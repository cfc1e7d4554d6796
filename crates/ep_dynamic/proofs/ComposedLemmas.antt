-- The action that the parts of a composition give.
use Rattle.std.proofs.Common.{◌≡◌, ℕ, suc, ◌<◌, List, [], ◌∷◌, ◌++◌, map, length, get_or, refl, sym, ◌∙◌, ap₂, arith, ◌↔◌, ◌⊎◌, inl, inr}
use Rattle.std.specs.Ordering.{nat_cmp}
use Rattle.ep_logic.specs.declared.ids.EventId.{EventId}
use Rattle.ep_theory.specs.Rising.{IsIn, IsRising}
use Rattle.ep_theory.specs.Kripke.{pair_cmp}
use Rattle.ep_theory.specs.Events.{EventModel, IsAction, event_links}
use Rattle.ep_theory.proofs.lists.Lists.{same_rising}
use Rattle.ep_theory.proofs.lists.Filters.{All-at}
use Rattle.ep_theory.proofs.states.Unique.{numbers, pairs}
use Rattle.ep_event.specs.declared.parts.EventLink.{EventLink}
use Rattle.ep_event.specs.declared.parts.ActionParts.{ActionParts}
use Rattle.ep_event.specs.Built.{event_of, link, event, IsMadeOf}
use Rattle.ep_logic.proofs.CallerLemmas.{length-table}
use Rattle.ep_dynamic.specs.Composition.{event_pairs, pair_at, links_in_turn, composed, IsLinkInTurn, IsDesignatedInTurn}
use Rattle.ep_logic.specs.Numbers.{pairs_where}
use Rattle.ep_dynamic.proofs.Composing.{to_event_link, from_event_link, to_designated_event, from_designated_event}

same_lists : {X : Type 0} (xs ys : List X) (d : X) → length xs ≡ length ys → ((i : ℕ) → i < length xs → get_or xs i d ≡ get_or ys i d) → xs ≡ ys
same_lists [] [] d l h = refl
same_lists [] (y ∷ ys) d l h = absurd (omega arith)
same_lists (x ∷ xs) [] d l h = absurd (omega arith)
same_lists (x ∷ xs) (y ∷ ys) d l h = ap₂ (λ z zs. z ∷ zs) (h 0 (omega arith)) (same_lists xs ys d (omega arith) (λ i k. h (suc i) (omega arith)))

same_models : (C D : EventModel) → C.events ≡ D.events → C.links ≡ D.links → C.designated ≡ D.designated → C ≡ D
same_models C D p q r = λ i. record { events = p i; links = q i; designated = r i }

module _ (A B : EventModel) (p : ActionParts) (C : EventModel) (c : IsAction C) (m : IsMadeOf p C) (d : IsAction (composed A B)) (agents : p.agents ≡ length A.links)
    (links : (x : EventLink) → IsIn x p.links ↔ IsLinkInTurn A B x) (designated : (x : EventId) → IsIn x p.designated ↔ IsDesignatedInTurn A B x.n) where
  abbrev links_of_agent : ℕ → List (ℕ × ℕ)
  links_of_agent a = pairs_where (λ k l. links_in_turn A B a (pair_at A B k) (pair_at A B l)) (length (event_pairs A B))

  as_many : length (composed A B).links ≡ length A.links
  as_many = length-table links_of_agent (length A.links)

  links_at : (a : ℕ) → a < length C.links → event_links C a ≡ event_links (composed A B) a
  links_at a l =
      let within : a < length A.links = omega (arith, l, m.agents, agents) in
      same_rising pair_cmp pairs (event_links C a) (event_links (composed A B) a)
      (All-at (λ ps. IsRising pair_cmp ps) C.links a [] l c.rising)
      (All-at (λ ps. IsRising pair_cmp ps) (composed A B).links a [] (omega (arith, within, as_many)) d.rising)
      (λ z i. let t = (links (link a z.0 z.1)).0 ((m.links a z.0 z.1).0 i) in to_event_link A B a z.0 z.1 t.agent t.from t.to t.first t.second)
      (λ z i.
      let r = from_event_link A B a z.0 z.1 i in
      (m.links a z.0 z.1).1 ((links (link a z.0 z.1)).1 (record { agent = within; from = r.0; to = r.1; first = r.2; second = r.3 })))

  same_links : C.links ≡ (composed A B).links
  same_links = same_lists C.links (composed A B).links [] (m.agents ∙ agents ∙ sym as_many) links_at

  same_designated : C.designated ≡ (composed A B).designated
  same_designated = same_rising nat_cmp numbers C.designated (composed A B).designated c.designated_rising d.designated_rising
      (λ z i. let t = (designated (event z)).0 ((m.designated z).0 i) in to_designated_event A B z t.number t.first t.second)
      (λ z i. let r = from_designated_event A B z i in (m.designated z).1 ((designated (event z)).1 (record { number = r.0; first = r.1; second = r.2 })))

  pub composed_is : map event_of p.events ≡ (composed A B).events → C ≡ composed A B
  composed_is e = same_models C (composed A B) (m.events ∙ e) same_links same_designated

-- a link more, and a designated event more
pub in_more : {X : Type 0} (z y : X) (xs : List X) → IsIn z (xs ++ y ∷ []) ↔ (IsIn z xs ⊎ (z ≡ y))
in_more z y [] = (λ i. elim i [ inl q ↦ inr q | inr a ↦ absurd a ], λ i. elim i [ inl a ↦ absurd a | inr q ↦ inl q ])
in_more z y (x ∷ xs) =
    let rest = in_more z y xs in (
      λ i. elim i [ inl q ↦ inl (inl q) | inr j ↦ elim (rest.0 j) [ inl k ↦ inl (inr k) | inr q ↦ inr q ] ],
      λ i. elim i [ inl j ↦ elim j [ inl q ↦ inl q | inr k ↦ inr (rest.1 (inl k)) ] | inr q ↦ inr (rest.1 (inr q)) ],
    )
