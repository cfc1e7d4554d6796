-- The product keeps that relations are equivalences, and where they are, what is known is true.
use Rattle.std.proofs.Common.{◌≡◌, ℕ, ◌<◌, List, [], length, sym, ◌∙◌, subst}
use Rattle.ep_logic.specs.Numbers.{pairs_where}
use Rattle.ep_logic.specs.declared.ids.AgentId.{AgentId}
use Rattle.ep_logic.specs.declared.formula.Node.{Node}
use Rattle.ep_logic.specs.declared.formula.Node.TheVariants.{Knows}
use Rattle.ep_theory.specs.Kripke.{Kripke, IsState, links_of}
use Rattle.ep_theory.specs.Truth.{Truth}
use Rattle.ep_theory.specs.Events.{EventModel, event_links}
use Rattle.ep_theory.specs.Equivalences.{IsEquivalence, IsS5, IsS5Action}
use Rattle.ep_theory.specs.Product.{places, place_at, links_both, product_of}
use Rattle.ep_theory.proofs.lists.Lists.{All-from_each}
use Rattle.ep_theory.proofs.lists.Filters.{All-at}
use Rattle.ep_theory.proofs.lists.NumbersLemmas.{from_table}
use Rattle.ep_logic.proofs.CallerLemmas.{get_or-table}
use Rattle.ep_theory.proofs.formulas.TruthLemmas.{along, truth-Knows}
use Rattle.ep_theory.proofs.actions.ProductLemmas.{is_place, from_link, to_link}

-- the pairs of one agent of a state
agent_pairs : (S : Kripke) → IsState S → IsS5 S → (a : ℕ) → a < S.agents → IsEquivalence S.worlds (links_of S a)
agent_pairs S s e a l = All-at (IsEquivalence S.worlds) S.links a [] (subst (λ n. a < n) (sym s.relations) l) e

module _ (S : Kripke) (A : EventModel) (a : ℕ) (l : a < S.agents) (worlds : IsEquivalence S.worlds (links_of S a)) (events : IsEquivalence (length A.events) (event_links A a)) where
  both : IsEquivalence (length (places S A)) (links_of (product_of S A) a)
  both = record {
    reflexive = λ i h. let p = is_place S A i h in
        to_link S A a i i l h h (worlds.reflexive (place_at S A i).0 p.world) (events.reflexive (place_at S A i).1 p.event);
    symmetric = λ i j h. let r = from_link S A a i j h in
        to_link S A a j i l r.2 r.1 (worlds.symmetric (place_at S A i).0 (place_at S A j).0 r.3) (events.symmetric (place_at S A i).1 (place_at S A j).1 r.4);
    transitive = λ i j k h m.
        let r = from_link S A a i j h in
        let t = from_link S A a j k m in
        to_link S A a i k l r.1 t.2
        (worlds.transitive (place_at S A i).0 (place_at S A j).0 (place_at S A k).0 r.3 t.3)
        (events.transitive (place_at S A i).1 (place_at S A j).1 (place_at S A k).1 r.4 t.4);
  }

pub product-is_s5 : (S : Kripke) (A : EventModel) → IsState S → length A.links ≡ S.agents → IsS5 S → IsS5Action A → IsS5 (product_of S A)
product-is_s5 S A s agents e d =
    let f : ℕ → List (ℕ × ℕ) = λ a. pairs_where (λ i j. links_both S A a (place_at S A i) (place_at S A j)) (length (places S A)) in
    All-from_each (IsEquivalence (length (places S A))) (product_of S A).links (λ y i.
    let r = from_table f S.agents y i in
    subst (IsEquivalence (length (places S A))) (get_or-table f S.agents r.0 [] r.1 ∙ sym r.2)
    (both S A r.0 r.1 (agent_pairs S s e r.0 r.1)
    (All-at (IsEquivalence (length A.events)) A.links r.0 [] (subst (λ n. r.0 < n) (sym agents) r.1) d)))

pub known_is_true : (S : Kripke) → IsState S → IsS5 S → (a : AgentId) (f : Node) (w : ℕ) → a.n < S.agents → w < S.worlds → Truth S w (Knows a f) → Truth S w f
known_is_true S s e a f w l h known = along (truth-Knows S w a f) known w ((agent_pairs S s e a.n l).reflexive w h)
