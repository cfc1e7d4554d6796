-- The reduction of a formula is true at a world exactly if the formula is true in the product.
use Rattle.std.proofs.Common.{◌≡◌, ℕ, zero, suc, ◌<◌, ◌≤◌, Bool, false, ◌==◌, List, [], ◌∷◌, map, length, get_or, IsTrue, refl, sym, ◌∙◌, ap, subst, arith, ◌⊎◌, inl, inr, ⊎_elim, ◌↔◌, Option, Some, None}
use Rattle.std.specs.List.{AllByRecursion, find, list_all}
use Rattle.ep_logic.specs.declared.ids.AgentId.{AgentId}
use Rattle.ep_logic.specs.declared.ids.AtomId.{AtomId}
use Rattle.ep_logic.specs.declared.formula.Node.{Node, roll-Node}
use Rattle.ep_logic.specs.declared.formula.Node.TheOpen.{Node-F}
use Rattle.ep_logic.specs.declared.formula.Node.TheVariants.{True, False, Atom, Not, Or, rolls-True, rolls-False, rolls-Atom, rolls-Not, rolls-Or}
use Rattle.ep_logic.specs.declared.formula.Node.TheFolds.{map-Node, ind-Node, fold-roll-Node}
use Rattle.ep_theory.specs.Rising.{IsIn}
use Rattle.ep_theory.specs.Kripke.{Kripke, IsState, atom_at, links_of, truth_of, successors}
use Rattle.ep_theory.specs.Truth.{Truth, truth_step, Either}
use Rattle.ep_theory.specs.Events.{EventModel, IsAction, no_event, event_at, event_links}
use Rattle.ep_theory.specs.Fits.{ActionFits, EventFits, SetFits}
use Rattle.ep_theory.specs.Product.{applies, places, place_at, atom_by, atom_after, truth_after, product_of}
use Rattle.ep_theory.proofs.lists.Bools.{and_parts, decided}
use Rattle.ep_theory.proofs.lists.Lists.{at_All, IsIn-map, from_map, equal_from_test, from_successors, IsIn-successors}
use Rattle.ep_theory.proofs.lists.Filters.{All-at}
use Rattle.ep_theory.proofs.states.Unique.{links_within}
use Rattle.ep_logic.proofs.CallerLemmas.{get_or-table, length-table}
use Rattle.ep_theory.proofs.formulas.Decided.{is_true_decides}
use Rattle.ep_theory.proofs.formulas.TruthLemmas.{truth-roll, truth-And, truth-Knows, along}
use Rattle.ep_theory.proofs.actions.ProductLemmas.{IsPlace, is_place, number_of, from_link, to_link, truth_at}
use Rattle.ep_theory.proofs.actions.ProductLaws.{find_none}
use Rattle.ep_dynamic.specs.Reduction.{reducible_step, is_reducible, value_by, value_of, conjunction, knows_of, reduce_step, reduce}

pub reduce-roll : (A : EventModel) (e : ℕ) (x : Node-F Node) → reduce A e (roll-Node x) ≡ reduce_step A (map-Node Node (ℕ → Node) (λ f d. reduce A d f) x) e
unfolding reduce
reduce-roll A e x = λ i. fold-roll-Node (ℕ → Node) (reduce_step A) x i e

pub reducible-roll : (x : Node-F Node) → is_reducible (roll-Node x) ≡ reducible_step (map-Node Node Bool is_reducible x)
unfolding is_reducible
reducible-roll x = fold-roll-Node Bool reducible_step x

-- the equations of `Truth` that reduction needs
truth-True : (S : Kripke) (w : ℕ) → Truth S w True ≡ Unit {0}
truth-True S w = ap (Truth S w) (sym rolls-True) ∙ truth-roll S w Node-F.True

truth-False : (S : Kripke) (w : ℕ) → Truth S w False ≡ ⊥
truth-False S w = ap (Truth S w) (sym rolls-False) ∙ truth-roll S w Node-F.False

truth-Atom : (S : Kripke) (w : ℕ) (p : AtomId) → Truth S w (Atom p) ≡ IsTrue (atom_at S w p.n)
truth-Atom S w p = ap (Truth S w) (sym (rolls-Atom p)) ∙ truth-roll S w (Node-F.Atom p)

truth-Not : (S : Kripke) (w : ℕ) (f : Node) → Truth S w (Not f) ≡ (Truth S w f → ⊥)
truth-Not S w f = ap (Truth S w) (sym (rolls-Not f)) ∙ truth-roll S w (Node-F.Not f)

truth-Or : (S : Kripke) (w : ℕ) (fs : List Node) → Truth S w (Or fs) ≡ Either (Truth S w) fs
truth-Or S w fs = ap (Truth S w) (sym (rolls-Or fs)) ∙ truth-roll S w (Node-F.Or fs)

-- a conjunction is true where each part is
pub to_conjunction : (S : Kripke) (w : ℕ) (fs : List Node) → ((f : Node) → IsIn f fs → Truth S w f) → Truth S w (conjunction fs)
to_conjunction S w [] h = along (sym (truth-True S w)) tt
to_conjunction S w (f ∷ []) h = h f (inl refl)
to_conjunction S w (f ∷ g ∷ fs) h = along (sym (truth-And S w (f ∷ g ∷ fs))) (each (f ∷ g ∷ fs) h)
  where
    each : (fs : List Node) → ((f : Node) → IsIn f fs → Truth S w f) → AllByRecursion (Truth S w) fs
    each [] h = tt
    each (f ∷ fs) h = (h f (inl refl), each fs (λ g i. h g (inr i)))

each_at : (S : Kripke) (w : ℕ) (fs : List Node) (f : Node) → AllByRecursion (Truth S w) fs → IsIn f fs → Truth S w f
each_at S w [] f t i = absurd i
each_at S w (g ∷ fs) f t (inl q) = subst (Truth S w) (sym q) t.0
each_at S w (g ∷ fs) f t (inr i) = each_at S w fs f t.1 i

pub from_conjunction : (S : Kripke) (w : ℕ) (fs : List Node) (f : Node) → Truth S w (conjunction fs) → IsIn f fs → Truth S w f
from_conjunction S w [] f t i = absurd i
from_conjunction S w (g ∷ []) f t (inl q) = subst (Truth S w) (sym q) t
from_conjunction S w (g ∷ []) f t (inr i) = absurd i
from_conjunction S w (g ∷ h ∷ fs) f t i = each_at S w (g ∷ h ∷ fs) f (along (truth-And S w (g ∷ h ∷ fs)) t) i

past_end : {A : Type 0} (xs : List A) (i : ℕ) (d : A) → length xs ≤ i → get_or xs i d ≡ d
past_end [] i d l = refl
past_end (x ∷ xs) zero d l = absurd (omega arith)
past_end (x ∷ xs) (suc i) d l = past_end xs i d (omega arith)

within_or_past : (i n : ℕ) → (i < n) ⊎ (n ≤ i)
within_or_past i n = grind arith

-- an agent with a link is one of the state
agent_within : (S : Kripke) → IsState S → (a : ℕ) (p : ℕ × ℕ) → IsIn p (links_of S a) → a < S.agents
agent_within S s a p i = ⊎_elim
    (λ (l : a < S.agents). l)
    (λ (g : S.agents ≤ a). absurd (subst (λ ps. IsIn p ps) (past_end S.links a [] (subst (λ n. n ≤ a) (sym s.relations) g)) i))
    (within_or_past a S.agents)

atom_past : (S : Kripke) → IsState S → (w p : ℕ) → w < S.worlds → S.atoms ≤ p → atom_at S w p ≡ false
atom_past S s w p l g =
    past_end (truth_of S w) p false
    (subst (λ n. n ≤ p) (sym (All-at (λ t. length t ≡ S.atoms) S.truth w [] (subst (λ n. w < n) (sym s.truths) l) s.each_truth)) g)

-- a row of a list of rows, none past the last
row_of : {A : Type 0} (P : List A → Type 0) (rows : List (List A)) (a : ℕ) → P [] → AllByRecursion P rows → P (get_or rows a [])
row_of P [] a n h = n
row_of P (r ∷ rows) zero n h = h.0
row_of P (r ∷ rows) (suc a) n h = row_of P rows a n h.1

-- both ends of a link of events are events
pub event_link_within : (A : EventModel) → IsAction A → (a e d : ℕ) → IsIn (e, d) (event_links A a) → (e < length A.events) × (d < length A.events)
event_link_within A m a e d i =
    at_All (λ (p : ℕ × ℕ). (p.0 < length A.events) × (p.1 < length A.events)) (e, d) (event_links A a)
    (row_of (λ (ps : List (ℕ × ℕ)). AllByRecursion (λ p. (p.0 < length A.events) × (p.1 < length A.events)) ps) A.links a tt m.within) i

module _ (S : Kripke) (A : EventModel) (s : IsState S) (m : IsAction A) (fit : ActionFits S A) where
  -- an atom after the event, by the formula that it gets
  by_value : (w : ℕ) (p : AtomId) (o : Option (ℕ × Node)) → w < S.worlds → IsTrue (atom_by S w p.n o) ↔ Truth S w (value_by p o)
  by_value w p None l = (λ t. along (sym (truth-Atom S w p)) t, λ t. along (truth-Atom S w p) t)
  by_value w p (Some set) l = is_true_decides S s w l set.1

  pub event_fits : (e : ℕ) → e < length A.events → EventFits S (event_at A e)
  event_fits e l = All-at (EventFits S) A.events e no_event l fit.events

  -- no event assigns to an atom past the last
  none_past : (e p : ℕ) → e < length A.events → S.atoms ≤ p → find (λ set. set.0 == p) (event_at A e).sets ≡ None
  none_past e p l g = find_none {A = ℕ × Node} (λ set. set.0 == p) (event_at A e).sets (λ x i t.
      let q : x.0 ≡ p = equal_from_test x.0 p t in
      let b : x.0 < S.atoms = (at_All (SetFits S) x (event_at A e).sets (event_fits e l).sets i).0 in
      omega arith)

  pub atom_reduced : (i : ℕ) → i < length (places S A) → (p : AtomId) → IsTrue (atom_at (product_of S A) i p.n) ↔ Truth S (place_at S A i).0 (value_of (event_at A (place_at S A i).1) p)
  atom_reduced i l p = ⊎_elim
      (λ (b : p.n < S.atoms).
      let e : atom_at (product_of S A) i p.n ≡ atom_after S w (event_at A d) p.n =
      ap (λ t. get_or t p.n false) (truth_at S A i l) ∙ get_or-table (atom_after S w (event_at A d)) S.atoms p.n false b in
      (λ t. iff.0 (sym e ∙ t), λ t. e ∙ iff.1 t))
      (λ (g : S.atoms ≤ p.n).
      let e : atom_at (product_of S A) i p.n ≡ false =
      ap (λ t. get_or t p.n false) (truth_at S A i l) ∙ past_end (truth_after S A (place_at S A i)) p.n false (subst (λ n. n ≤ p.n) (sym (length-table (atom_after S w (event_at A d)) S.atoms)) g) in
      let n : atom_after S w (event_at A d) p.n ≡ false = ap (atom_by S w p.n) (none_past d p.n place.event g) ∙ atom_past S s w p.n place.world g in
      (λ t. absurd (cc), λ t. let u = iff.1 t in absurd (cc)))
      (within_or_past p.n S.atoms)
    where
      w : ℕ
      w = (place_at S A i).0

      d : ℕ
      d = (place_at S A i).1

      place : IsPlace S A (place_at S A i)
      place = is_place S A i l

      iff : IsTrue (atom_after S (place_at S A i).0 (event_at A (place_at S A i).1) p.n) ↔ Truth S (place_at S A i).0 (value_of (event_at A (place_at S A i).1) p)
      iff = by_value (place_at S A i).0 p (find (λ set. set.0 == p.n) (event_at A (place_at S A i).1).sets) (is_place S A i l).world

  -- the formula is true in the product exactly where its reduction is true
  abbrev pub Reduces : Node → Type 0
  Reduces f = IsTrue (is_reducible f) → (i : ℕ) → i < length (places S A) → Truth (product_of S A) i f ↔ Truth S (place_at S A i).0 (reduce A (place_at S A i).1 f)

  each : (i : ℕ) → i < length (places S A) → (fs : List ((f : Node) × Reduces f)) → IsTrue (list_all (λ b. b) (map is_reducible (map (λ r. r.0) fs))) →
      AllByRecursion (Truth (product_of S A) i) (map (λ r. r.0) fs)
      ↔ AllByRecursion (Truth S (place_at S A i).0) (map {A = ℕ → Node} (λ f. f (place_at S A i).1) (map (λ f d. reduce A d f) (map (λ r. r.0) fs)))
  each i l [] h = (λ t. t, λ t. t)
  each i l (f ∷ fs) h =
      let p = and_parts (is_reducible f.0) (list_all (λ b. b) (map is_reducible (map (λ r. r.0) fs))) h in
      let one = f.1 p.0 i l in
      let rest = each i l fs p.1 in
      (λ t. (one.0 t.0, rest.0 t.1), λ t. (one.1 t.0, rest.1 t.1))

  either : (i : ℕ) → i < length (places S A) → (fs : List ((f : Node) × Reduces f)) → IsTrue (list_all (λ b. b) (map is_reducible (map (λ r. r.0) fs))) →
      Either (Truth (product_of S A) i) (map (λ r. r.0) fs)
      ↔ Either (Truth S (place_at S A i).0) (map {A = ℕ → Node} (λ f. f (place_at S A i).1) (map (λ f d. reduce A d f) (map (λ r. r.0) fs)))
  either i l [] h = (λ t. t, λ t. t)
  either i l (f ∷ fs) h =
      let p = and_parts (is_reducible f.0) (list_all (λ b. b) (map is_reducible (map (λ r. r.0) fs))) h in
      let one = f.1 p.0 i l in
      let rest = either i l fs p.1 in
      (λ t. elim t [ inl x ↦ inl (one.0 x) | inr y ↦ inr (rest.0 y) ], λ t. elim t [ inl x ↦ inl (one.1 x) | inr y ↦ inr (rest.1 y) ])

  -- what an agent knows in the product
  knows_ahead : (i : ℕ) → i < length (places S A) → (a : AgentId) (f : Node) → Reduces f → IsTrue (is_reducible f) →
      ((j : ℕ) → IsIn (i, j) (links_of (product_of S A) a.n) → Truth (product_of S A) j f) →
      Truth S (place_at S A i).0 (conjunction (map (knows_of A a (λ d. reduce A d f)) (successors (event_links A a.n) (place_at S A i).1)))
  knows_ahead i l a f r h t = to_conjunction S (place_at S A i).0 _ (λ g j.
      let d = from_map (knows_of A a (λ d. reduce A d f)) g (successors (event_links A a.n) (place_at S A i).1) j in
      let k : IsIn ((place_at S A i).1, d.0) (event_links A a.n) = from_successors (place_at S A i).1 d.0 (event_links A a.n) d.1 in
      subst (Truth S (place_at S A i).0) (sym d.2)
      (along (sym (truth-Knows S (place_at S A i).0 a _)) (λ v u. along (sym (truth-Or S v _)) (known d.0 v k u))))
    where
      known : (d v : ℕ) → IsIn ((place_at S A i).1, d) (event_links A a.n) → IsIn ((place_at S A i).0, v) (links_of S a.n) → Either (Truth S v) (Not (event_at A d).pre ∷ reduce A d f ∷ [])
      known d v k u =
          let within : v < S.worlds = (links_within S s a.n (place_at S A i).0 v u).1 in
          ⊎_elim
          (λ (z : IsTrue (applies S A v d)).
          let j = number_of S A v d within (event_link_within A m a.n (place_at S A i).1 d k).1 z in
          let world : (place_at S A j.0).0 ≡ v = ap (λ (q : ℕ × ℕ). q.0) j.2 in
          let event : (place_at S A j.0).1 ≡ d = ap (λ (q : ℕ × ℕ). q.1) j.2 in
          let there = to_link S A a.n i j.0 (agent_within S s a.n ((place_at S A i).0, v) u) l j.1
          (subst (λ x. IsIn ((place_at S A i).0, x) (links_of S a.n)) (sym world) u)
          (subst (λ x. IsIn ((place_at S A i).1, x) (event_links A a.n)) (sym event) k) in
          inr (inl (subst (λ (q : ℕ × ℕ). Truth S q.0 (reduce A q.1 f)) j.2 ((r h j.0 j.1).0 (t j.0 there)))))
          (λ (z : applies S A v d ≡ false). inl (along (sym (truth-Not S v (event_at A d).pre)) (λ q.
          let y : IsTrue (applies S A v d) = (is_true_decides S s v within (event_at A d).pre).1 q in absurd (cc))))
          (decided (applies S A v d))

  known_back : (i : ℕ) → i < length (places S A) → (a : AgentId) (f : Node) → Reduces f → IsTrue (is_reducible f) →
      Truth S (place_at S A i).0 (conjunction (map (knows_of A a (λ d. reduce A d f)) (successors (event_links A a.n) (place_at S A i).1))) →
      (j : ℕ) → IsIn (i, j) (links_of (product_of S A) a.n) → Truth (product_of S A) j f
  known_back i l a f r h t j k =
      let link = from_link S A a.n i j k in
      let d = (place_at S A j).1 in
      let place = is_place S A j link.2 in
      let part = from_conjunction S (place_at S A i).0 _ (knows_of A a (λ d. reduce A d f) (place_at S A j).1) t
      (IsIn-map (knows_of A a (λ d. reduce A d f)) (place_at S A j).1 (successors (event_links A a.n) (place_at S A i).1)
      (IsIn-successors (place_at S A i).1 (place_at S A j).1 (event_links A a.n) link.4)) in
      let there = along (truth-Or S (place_at S A j).0 _) (along (truth-Knows S (place_at S A i).0 a _) part (place_at S A j).0 link.3) in
      (r h j link.2).1 (split (place_at S A j) place there)
    where
      split : (q : ℕ × ℕ) → IsPlace S A q → Either (Truth S q.0) (Not (event_at A q.1).pre ∷ reduce A q.1 f ∷ []) → Truth S q.0 (reduce A q.1 f)
      split q place (inl n) = absurd (along (truth-Not S q.0 (event_at A q.1).pre) n ((is_true_decides S s q.0 place.world (event_at A q.1).pre).0 place.applies_there))
      split q place (inr (inl g)) = g
      split q place (inr (inr z)) = absurd z

  -- one level, where the parts are reduced
  level : (y : Node-F ((f : Node) × Reduces f)) → IsTrue (reducible_step (map-Node Node Bool is_reducible (map-Node ((f : Node) × Reduces f) Node (λ r. r.0) y))) →
      (i : ℕ) → i < length (places S A) →
      truth_step (product_of S A) Node (λ f v. Truth (product_of S A) v f) (map-Node ((f : Node) × Reduces f) Node (λ r. r.0) y) i
      ↔ Truth S (place_at S A i).0 (reduce_step A (map-Node Node (ℕ → Node) (λ f d. reduce A d f) (map-Node ((f : Node) × Reduces f) Node (λ r. r.0) y)) (place_at S A i).1)
  level Node-F.True h i l = (λ t. along (sym (truth-True S (place_at S A i).0)) tt, λ t. tt)
  level Node-F.False h i l = (λ t. absurd t, λ t. along (truth-False S (place_at S A i).0) t)
  level (Node-F.Atom p) h i l = atom_reduced i l p
  level (Node-F.Not f) h i l =
      let one = f.1 h i l in (
        λ t. along (sym (truth-Not S (place_at S A i).0 _)) (λ q. t (one.1 q)),
        λ t q. along (truth-Not S (place_at S A i).0 _) t (one.0 q),
      )
  level (Node-F.And fs) h i l =
      let e = each i l fs h in
      (λ t. along (sym (truth-And S (place_at S A i).0 _)) (e.0 t), λ t. e.1 (along (truth-And S (place_at S A i).0 _) t))
  level (Node-F.Or fs) h i l =
      let e = either i l fs h in
      (λ t. along (sym (truth-Or S (place_at S A i).0 _)) (e.0 t), λ t. e.1 (along (truth-Or S (place_at S A i).0 _) t))
  level (Node-F.Knows a f) h i l = (knows_ahead i l a f.0 f.1 h, known_back i l a f.0 f.1 h)
  level (Node-F.Common g f) h i l = absurd (cc)

  rolled : (x : Node-F Node) (y : Node-F ((f : Node) × Reduces f)) → map-Node ((f : Node) × Reduces f) Node (λ r. r.0) y ≡ x → Reduces (roll-Node x)
  rolled x y e = subst (λ (x : Node-F Node). Reduces (roll-Node x)) e (λ h i l.
      let step = level y (sym (reducible-roll _) ∙ h) i l in (
        λ t. subst (Truth S (place_at S A i).0) (sym (reduce-roll A (place_at S A i).1 _)) (step.0 (along (truth-roll (product_of S A) i _) t)),
        λ t. along (sym (truth-roll (product_of S A) i _)) (step.1 (subst (Truth S (place_at S A i).0) (reduce-roll A (place_at S A i).1 _) t)),
      ))

  pub reduces : (f : Node) → Reduces f
  reduces = ind-Node Reduces rolled

pub reduction : (S : Kripke) (A : EventModel) → IsState S → IsAction A → ActionFits S A → (f : Node) → IsTrue (is_reducible f) →
    (i : ℕ) → i < length (places S A) → Truth (product_of S A) i f ↔ Truth S (place_at S A i).0 (reduce A (place_at S A i).1 f)
reduction S A s m fit f h i l = reduces S A s m fit f h i l
