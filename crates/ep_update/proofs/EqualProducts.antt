-- Products of one state that are equal.
use Rattle.std.proofs.Common.{◌≡◌, ℕ, ◌<◌, Bool, true, false, cond, ◌&&◌, ◌==◌, List, [], ◌∷◌, map, length, get_or, Option, Some, refl, sym, ◌∙◌, ap, ap₂, arith, inl, inr}
use Rattle.std.proofs.lemmas.Bool.{false≢true, true≢false}
use Rattle.std.proofs.lemmas.List.{length-map}
use Rattle.std.specs.List.{find}
use Rattle.ep_logic.specs.declared.formula.Node.{Node}
use Rattle.ep_logic.specs.Numbers.{numbers_where, pairs_where, has_number, has_pair, table}
use Rattle.ep_logic.proofs.CallerLemmas.{get_or-table}
use Rattle.ep_theory.specs.Rising.{IsIn}
use Rattle.ep_theory.specs.Kripke.{Kripke, links_of}
use Rattle.ep_theory.specs.Events.{Event, EventModel, event_at, no_event}
use Rattle.ep_theory.specs.Product.{places, truth_after, atom_after, atom_by, product_of}
use Rattle.ep_theory.specs.Tested.{is_true}
use Rattle.ep_theory.proofs.CallerLemmas.{get_or-map_within, from_places}
use Rattle.ep_update.specs.Places.{label_of, precondition_labels, assignment_labels, labelled_pairs}
use Rattle.ep_update.proofs.NumbersWhere.{table-same}
use Rattle.ep_update.proofs.PlaceLemmas.{labelled_places}

map-same : {X Y : Type 0} (f g : X → Y) (xs : List X) → ((x : X) → IsIn x xs → f x ≡ g x) → map f xs ≡ map g xs
map-same f g [] h = refl
map-same f g (x ∷ xs) h = ap₂ (λ y ys. y ∷ ys) (h x (inl refl)) (map-same f g xs (λ y i. h y (inr i)))

abbrev rest : {X : Type 0} → List X → List X
rest [] = []
rest (x ∷ xs) = xs

abbrev lab : Kripke → ℕ × Node → ℕ × List Bool
lab S set = (set.0, label_of S set.1)

abbrev none : ℕ × List Bool
none = (0, [])

-- the value that an atom gets
same_value : (S : Kripke) (w : ℕ) (f g : Node) → w < S.worlds → label_of S f ≡ label_of S g → is_true S w f ≡ is_true S w g
same_value S w f g l e = sym (get_or-table (λ v. is_true S v f) S.worlds w false l) ∙ ap (λ row. get_or row w false) e ∙ get_or-table (λ v. is_true S v g) S.worlds w false l

one_assigned : (S : Kripke) (w p : ℕ) (b c : Bool) (x y : ℕ × Node) (o r : Option (ℕ × Node)) → b ≡ c → is_true S w x.1 ≡ is_true S w y.1 → atom_by S w p o ≡ atom_by S w p r → atom_by S w p (cond b (Some x) o) ≡ atom_by S w p (cond c (Some y) r)
one_assigned S w p true true x y o r e h t = h
one_assigned S w p false false x y o r e h t = t
one_assigned S w p true false x y o r e h t = absurd (true≢false e)
one_assigned S w p false true x y o r e h t = absurd (false≢true e)

same_assigned : (S : Kripke) (w p : ℕ) → w < S.worlds → (xs ys : List (ℕ × Node)) → map (lab S) xs ≡ map (lab S) ys → atom_by S w p (find (λ set. set.0 == p) xs) ≡ atom_by S w p (find (λ set. set.0 == p) ys)
same_assigned S w p l [] [] e = refl
same_assigned S w p l [] (y ∷ ys) e = absurd (omega (arith, ap length e))
same_assigned S w p l (x ∷ xs) [] e = absurd (omega (arith, ap length e))
same_assigned S w p l (x ∷ xs) (y ∷ ys) e =
    let head : (x.0, label_of S x.1) ≡ (y.0, label_of S y.1) = ap (λ zs. get_or zs 0 none) e in
    one_assigned S w p (x.0 == p) (y.0 == p) x y (find (λ set. set.0 == p) xs) (find (λ set. set.0 == p) ys) (ap (λ (z : ℕ × List Bool). z.0 == p) head)
    (same_value S w x.1 y.1 l (ap (λ (z : ℕ × List Bool). z.1) head)) (same_assigned S w p l xs ys (ap rest e))

module _ (S : Kripke) (A B : EventModel) where
  sets_same : assignment_labels S A ≡ assignment_labels S B → length A.events ≡ length B.events → (e : ℕ) → e < length A.events → map (lab S) (event_at A e).sets ≡ map (lab S) (event_at B e).sets
  sets_same h n e l =
      sym (get_or-map_within (λ (event : Event). map (lab S) event.sets) A.events e no_event [] l)
      ∙ ap (λ rows. get_or rows e []) h
      ∙ get_or-map_within (λ (event : Event). map (lab S) event.sets) B.events e no_event [] (omega (arith, l, n))

  truth_same : assignment_labels S A ≡ assignment_labels S B → length A.events ≡ length B.events → (w e : ℕ) → w < S.worlds → e < length A.events → truth_after S A (w, e) ≡ truth_after S B (w, e)
  truth_same h n w e l k = table-same (atom_after S w (event_at A e)) (atom_after S w (event_at B e)) S.atoms (λ p m. same_assigned S w p l (event_at A e).sets (event_at B e).sets (sets_same h n e k))

  abbrev made : List (ℕ × ℕ) → List (List Bool) → List (List (ℕ × ℕ)) → List ℕ → Kripke
  made L truth links designated = record {
    worlds = length L;
    agents = S.agents;
    atoms = S.atoms;
    truth = truth;
    links = table (λ a. pairs_where (λ i j. has_pair (links_of S a) (get_or L i (0, 0)).0 (get_or L j (0, 0)).0 && has_pair (get_or links a []) (get_or L i (0, 0)).1 (get_or L j (0, 0)).1) (length L)) S.agents;
    designated = numbers_where (λ i. has_number S.designated (get_or L i (0, 0)).0 && has_number designated (get_or L i (0, 0)).1) (length L);
  }

  pub equal_products : A.links ≡ B.links → A.designated ≡ B.designated → precondition_labels S A ≡ precondition_labels S B → assignment_labels S A ≡ assignment_labels S B → product_of S A ≡ product_of S B
  equal_products ls ds ps values =
      let n : length A.events ≡ length B.events = sym (length-map A.events (λ (event : Event). label_of S event.pre)) ∙ ap length ps ∙ length-map B.events (λ (event : Event). label_of S event.pre) in
      let same : places S A ≡ places S B = sym (labelled_places S A) ∙ ap (λ rows. labelled_pairs rows S.worlds) ps ∙ labelled_places S B in
      let truth : map (truth_after S A) (places S A) ≡ map (truth_after S B) (places S B) =
      map-same (truth_after S A) (truth_after S B) (places S A) (λ at i. let p = from_places S A at i in truth_same values n at.0 at.1 p.world p.event)
      ∙ ap (map (truth_after S B)) same in
      ap (λ L. made L (map (truth_after S A) (places S A)) A.links A.designated) same
      ∙ ap (λ t. made (places S B) t A.links A.designated) truth
      ∙ ap (λ l. made (places S B) (map (truth_after S B) (places S B)) l A.designated) ls
      ∙ ap (λ d. made (places S B) (map (truth_after S B) (places S B)) B.links d) ds
