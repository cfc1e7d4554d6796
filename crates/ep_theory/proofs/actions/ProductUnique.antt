-- There is one product.
use Rattle.std.proofs.Common.{◌≡◌, ℕ, zero, suc, ◌<◌, true, false, ◌==◌, List, [], ◌∷◌, length, get_or, slice_get, IsTrue, refl, sym, ◌∙◌, ap, subst, arith, ◌⊎◌, inl, inr, ⊎_elim, Some}
use Rattle.std.specs.Ordering.{nat_cmp}
use Rattle.std.specs.Cmp.{both_ways}
use Rattle.ep_logic.specs.declared.formula.Node.{Node}
use Rattle.ep_theory.specs.Rising.{IsIn}
use Rattle.ep_theory.specs.Kripke.{Kripke, IsState, pair_cmp, links_of, atom_at}
use Rattle.ep_theory.specs.Events.{EventModel, IsAction, event_at}
use Rattle.ep_theory.specs.Product.{IsApplicable, IsProduct, places, product_of}
use Rattle.ep_theory.proofs.lists.Bools.{decided}
use Rattle.ep_theory.proofs.lists.Lists.{at_All, same_rising, equal_from_test, test_itself}
use Rattle.ep_theory.proofs.lists.Filters.{All-at}
use Rattle.ep_theory.proofs.states.Unique.{numbers, pairs, same_places, links_within, links_rising}
use Rattle.ep_theory.proofs.formulas.Decided.{is_true_decides}
use Rattle.ep_theory.proofs.actions.ProductLemmas.{in_places, from_places, rising_places, product-is_state}
use Rattle.ep_theory.proofs.actions.ProductLaws.{product_is_product}

to_get : {A : Type 0} (xs : List A) (i : ℕ) (d : A) → i < length xs → slice_get xs i ≡ Some (get_or xs i d)
to_get [] i d l = absurd (omega arith)
to_get (x ∷ xs) zero d l = refl
to_get (x ∷ xs) (suc i) d l = to_get xs i d (omega arith)

-- a formula that is assigned to the atom, or none
find_or_none : (p : ℕ) (sets : List (ℕ × Node)) → ((f : Node) × IsIn (p, f) sets) ⊎ ((f : Node) → IsIn (p, f) sets → ⊥)
find_or_none p [] = inr (λ f i. i)
find_or_none p (x ∷ sets) = ⊎_elim
    (λ (t : IsTrue (x.0 == p)). inl (x.1, inl (λ k. (sym (equal_from_test x.0 p t) k, x.1))))
    (λ (e : (x.0 == p) ≡ false). ⊎_elim
    (λ (h : (f : Node) × IsIn (p, f) sets). inl (h.0, inr h.1))
    (λ (n : (f : Node) → IsIn (p, f) sets → ⊥). inr (λ f i. ⊎_elim
    (λ (q : (p, f) ≡ x). let t : (x.0 == p) ≡ true = ap (λ (y : ℕ × Node). y.0 == p) (sym q) ∙ test_itself p in cc)
    (λ (j : IsIn (p, f) sets). n f j) i))
    (find_or_none p sets))
    (decided (x.0 == p))

module _ (S : Kripke) (A : EventModel) (L : List (ℕ × ℕ)) (P Q : Kripke) (p : IsState P) (q : IsState Q) (g : IsProduct S A L P) (h : IsProduct S A L Q) where
  same_atom : (i x : ℕ) → i < length L → x < S.atoms → atom_at P i x ≡ atom_at Q i x
  same_atom i x l k =
      let at = get_or L i (0, 0) in
      let got = to_get L i (0, 0) l in
      ⊎_elim
      (λ (f : (f : Node) × IsIn (x, f) (event_at A (get_or L i (0, 0)).1).sets).
      let a = g.assigned i at.0 at.1 x f.0 got k f.1 in
      let b = h.assigned i at.0 at.1 x f.0 got k f.1 in
      both_ways (atom_at P i x) (atom_at Q i x) (λ t. b.1 (a.0 t)) (λ t. a.1 (b.0 t)))
      (λ (n : (f : Node) → IsIn (x, f) (event_at A (get_or L i (0, 0)).1).sets → ⊥).
      g.kept i at.0 at.1 x got k n ∙ sym (h.kept i at.0 at.1 x got k n))
      (find_or_none x (event_at A (get_or L i (0, 0)).1).sets)

  worlds : P.worlds ≡ Q.worlds
  worlds = g.worlds ∙ sym h.worlds

  listed : (i : ℕ) → i < P.worlds → i < length L
  listed i l = subst (λ n. i < n) g.worlds l

  same_row : (i : ℕ) → i < P.worlds → get_or P.truth i [] ≡ get_or Q.truth i []
  same_row i l =
      let m : i < Q.worlds = subst (λ n. i < n) worlds l in
      let a : length (get_or P.truth i []) ≡ P.atoms = All-at (λ t. length t ≡ P.atoms) P.truth i [] (subst (λ n. i < n) (sym p.truths) l) p.each_truth in
      let b : length (get_or Q.truth i []) ≡ Q.atoms = All-at (λ t. length t ≡ Q.atoms) Q.truth i [] (subst (λ n. i < n) (sym q.truths) m) q.each_truth in
      same_places false (get_or P.truth i []) (get_or Q.truth i []) (a ∙ g.atoms ∙ sym h.atoms ∙ sym b)
      (λ x k. same_atom i x (listed i l) (subst (λ n. x < n) (a ∙ g.atoms) k))

  truths : P.truth ≡ Q.truth
  truths = same_places [] P.truth Q.truth (p.truths ∙ worlds ∙ sym q.truths) (λ i l. same_row i (subst (λ n. i < n) p.truths l))

  links : P.links ≡ Q.links
  links = same_places [] P.links Q.links (p.relations ∙ g.agents ∙ sym h.agents ∙ sym q.relations) (λ a l.
      let k : a < S.agents = subst (λ n. a < n) (p.relations ∙ g.agents) l in
      same_rising pair_cmp pairs (links_of P a) (links_of Q a) (links_rising P p a) (links_rising Q q a)
      (λ x i. let r = links_within P p a x.0 x.1 i in move a x.0 x.1 k (listed x.0 r.0) (listed x.1 r.1) i)
      (λ x i. let r = links_within Q q a x.0 x.1 i in
      back a x.0 x.1 k (subst (λ n. x.0 < n) h.worlds r.0) (subst (λ n. x.1 < n) h.worlds r.1) i))
    where
      move : (a i j : ℕ) → a < S.agents → i < length L → j < length L → IsIn (i, j) (links_of P a) → IsIn (i, j) (links_of Q a)
      move a i j k l m n =
          let x = to_get L i (0, 0) l in
          let y = to_get L j (0, 0) m in
          (h.links a i j _ _ _ _ k x y).1 ((g.links a i j _ _ _ _ k x y).0 n)

      back : (a i j : ℕ) → a < S.agents → i < length L → j < length L → IsIn (i, j) (links_of Q a) → IsIn (i, j) (links_of P a)
      back a i j k l m n =
          let x = to_get L i (0, 0) l in
          let y = to_get L j (0, 0) m in
          (g.links a i j _ _ _ _ k x y).1 ((h.links a i j _ _ _ _ k x y).0 n)

  designated : P.designated ≡ Q.designated
  designated = same_rising nat_cmp numbers P.designated Q.designated p.designated_rising q.designated_rising
      (λ i k. let x = to_get L i (0, 0) (listed i (at_All (λ w. w < P.worlds) i P.designated p.designated_within k)) in
      (h.designated i _ _ x).1 ((g.designated i _ _ x).0 k))
      (λ i k. let x = to_get L i (0, 0) (subst (λ n. i < n) h.worlds (at_All (λ w. w < Q.worlds) i Q.designated q.designated_within k)) in
      (g.designated i _ _ x).1 ((h.designated i _ _ x).0 k))

  pub same_product : P ≡ Q
  same_product = λ i. record { worlds = worlds i; agents = (g.agents ∙ sym h.agents) i; atoms = (g.atoms ∙ sym h.atoms) i; truth = truths i; links = links i; designated = designated i }

-- the list of a product is the list of places
list_is : (S : Kripke) (A : EventModel) (L : List (ℕ × ℕ)) (P : Kripke) → IsState S → IsProduct S A L P → L ≡ places S A
list_is S A L P s g = same_rising pair_cmp pairs L (places S A) g.in_order (rising_places S A)
    (λ x i. let c = (g.listed x.0 x.1).0 i in in_places S A x.0 x.1 c.0 c.1 ((is_true_decides S s x.0 c.0 (event_at A x.1).pre).1 c.2))
    (λ x i. let c = from_places S A x i in (g.listed x.0 x.1).1 (c.world, c.event, (is_true_decides S s x.0 c.world (event_at A x.1).pre).0 c.applies_there))

-- each product is `product_of`
pub product_is_one : (S : Kripke) (A : EventModel) (L : List (ℕ × ℕ)) (P : Kripke) → IsState S → IsAction A → IsApplicable S A → IsState P → IsProduct S A L P → P ≡ product_of S A
product_is_one S A L P s m fits p g =
    same_product S A (places S A) P (product_of S A) p (product-is_state S A s m fits) (subst (λ L. IsProduct S A L P) (list_is S A L P s g) g) (product_is_product S A s m)
