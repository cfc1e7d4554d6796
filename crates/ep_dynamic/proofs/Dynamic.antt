-- The equations of `DynTruth`, and that it is equal at bisimilar worlds.
use Rattle.std.proofs.Common.{◌≡◌, ℕ, zero, suc, ◌<◌, Bool, false, ◌&&◌, ◌==◌, nat_lt, List, [], ◌∷◌, map, length, get_or, slice_get, slice_index_or, IsTrue, refl, sym, ◌∙◌, ap, subst, arith, inl, inr, ◌↔◌, Some}
use Rattle.std.specs.List.{AllByRecursion}
use Rattle.ep_theory.specs.Rising.{IsIn}
use Rattle.ep_theory.specs.Kripke.{Kripke, IsState, links_of, truth_of}
use Rattle.ep_theory.specs.Walks.{last_of}
use Rattle.ep_theory.specs.Tested.{is_true}
use Rattle.ep_theory.specs.Events.{EventModel, IsAction, event_at}
use Rattle.ep_theory.specs.Product.{IsApplicable, applies, places, place_at, product_of}
use Rattle.ep_theory.specs.Bisimulation.{IsBisimulation, BisimilarWorlds}
use Rattle.ep_theory.specs.Truth.{Truth, Either}
use Rattle.ep_theory.proofs.formulas.TruthLemmas.{Each-map, Either-map, along}
use Rattle.ep_theory.proofs.lists.Bools.{and_parts, and_whole}
use Rattle.ep_theory.proofs.lists.Lists.{equal_from_test, test_itself}
use Rattle.ep_theory.proofs.kinds.FromKinds.{less_from_test, test_from_less}
use Rattle.ep_theory.proofs.states.Unique.{links_within}
use Rattle.ep_theory.proofs.formulas.Decided.{is_true_decides, same_test}
use Rattle.ep_theory.proofs.actions.ProductLemmas.{IsPlace, is_place, number_of, product-is_state, paired, to_paired, product_bisimulation}
use Rattle.ep_theory.proofs.actions.ProductLaws.{from_get}
use Rattle.ep_dynamic.specs.declared.node.DynNode.{DynNode, roll-DynNode}
use Rattle.ep_dynamic.specs.declared.node.DynNode.TheOpen.{DynNode-F}
use Rattle.ep_dynamic.specs.declared.node.DynNode.TheFolds.{map-DynNode, ind-DynNode, rec-roll-DynNode}
use Rattle.ep_dynamic.proofs.Walking.{walk_forth, walk_back}
use Rattle.ep_dynamic.specs.DynamicTruth.{action_at, dynamic_step, DynTruth}

natural : (T : List EventModel) (X : Type 0) (v : X → DynNode) (holds : DynNode → Kripke → ℕ → Type 0) (x : DynNode-F X) →
    dynamic_step T X (λ p. holds (v p)) x ≡ dynamic_step T DynNode holds (map-DynNode X DynNode v x)
natural T X v holds DynNode-F.True = refl
natural T X v holds DynNode-F.False = refl
natural T X v holds (DynNode-F.Atom p) = refl
natural T X v holds (DynNode-F.Not f) = refl
natural T X v holds (DynNode-F.And fs) = λ i S w. Each-map (λ f. holds f S w) v fs i
natural T X v holds (DynNode-F.Or fs) = λ i S w. Either-map (λ f. holds f S w) v fs i
natural T X v holds (DynNode-F.Knows a f) = refl
natural T X v holds (DynNode-F.Common g f) = refl
natural T X v holds (DynNode-F.After a f) = refl

-- one level
pub dynamic-roll : (T : List EventModel) (S : Kripke) (w : ℕ) (x : DynNode-F DynNode) → DynTruth T S w (roll-DynNode x) ≡ dynamic_step T DynNode (λ f R v. DynTruth T R v f) x S w
unfolding DynTruth
dynamic-roll T S w x = λ i. rec-roll-DynNode (Kripke → ℕ → Type 0) (λ X v holds x. dynamic_step T X holds x) (natural T) x i S w

-- designated worlds play no part in a product, but for its designated worlds
pub same_product : (S : Kripke) (ds : List ℕ) (A : EventModel) →
    product_of (record S { designated = ds }) A ≡ record (product_of S A) { designated = (product_of (record S { designated = ds }) A).designated }
unfolding places is_true
same_product S ds A = refl

same_places : (S : Kripke) (ds : List ℕ) (A : EventModel) → places (record S { designated = ds }) A ≡ places S A
unfolding places is_true
same_places S ds A = refl

-- a state but for its designated worlds
abbrev pub IsFrame : Kripke → Type 0
IsFrame S = (ds : List ℕ) × IsState (record S { designated = ds })

pub frame_of : (S : Kripke) → IsState S → IsFrame S
frame_of S s = (S.designated, s)

-- one designated world makes it a state
pub pointed : (S : Kripke) → IsFrame S → (w : ℕ) → w < S.worlds → IsState (record S { designated = w ∷ [] })
pointed S frame w l =
    let s = frame.1 in
    record {
      some_world = s.some_world;
      truths = s.truths;
      each_truth = s.each_truth;
      relations = s.relations;
      rising = s.rising;
      within = s.within;
      designated_rising = (tt, tt);
      designated_within = (l, tt);
      some_designated = λ h. cc;
    }

to_get : {A : Type 0} (xs : List A) (i : ℕ) (d : A) → i < length xs → slice_get xs i ≡ Some (get_or xs i d)
to_get [] i d l = absurd (omega arith)
to_get (x ∷ xs) zero d l = refl
to_get (x ∷ xs) (suc i) d l = to_get xs i d (omega arith)

-- an action that has a designated event is one of the list
pub action_within : (T : List EventModel) → AllByRecursion IsAction T → (a e : ℕ) → IsIn e (action_at T a).designated → IsAction (action_at T a)
action_within [] t a e i = absurd i
action_within (A ∷ T) t zero e i = t.0
action_within (A ∷ T) t (suc a) e i = action_within T t.1 a e i

-- nor in the test of a formula
applied : (S : Kripke) (ds : List ℕ) (A : EventModel) (w e : ℕ) → IsTrue (applies S A w e) → IsTrue (is_true (record S { designated = ds }) w (event_at A e).pre)
unfolding is_true
applied S ds A w e t = t

-- the product of a frame where some designated event applies at a world
pub product_frame : (S : Kripke) (A : EventModel) → IsFrame S → IsAction A → (w e : ℕ) → w < S.worlds → IsIn e A.designated → IsTrue (applies S A w e) → IsFrame (product_of S A)
product_frame S A frame m w e l i t =
    let s = pointed S frame w l in
    let fits : IsApplicable (record S { designated = w ∷ [] }) A = λ v j. (e, i, at v j) in
    ((product_of (record S { designated = w ∷ [] }) A).designated, subst IsState (same_product S (w ∷ []) A) (product-is_state (record S { designated = w ∷ [] }) A s m fits))
  where
    at : (v : ℕ) → IsIn v (w ∷ []) → Truth (record S { designated = w ∷ [] }) v (event_at A e).pre
    at v (inl q) = subst (λ x. Truth (record S { designated = w ∷ [] }) x (event_at A e).pre) (sym q)
        ((is_true_decides (record S { designated = w ∷ [] }) (pointed S frame w l) w l (event_at A e).pre).0 (applied S (w ∷ []) A w e t))
    at v (inr z) = absurd z

-- a bisimulation does not look at designated worlds
moved : (S R : Kripke) (ds es : List ℕ) (Z : ℕ → ℕ → Bool) → IsBisimulation Z S R → IsBisimulation Z (record S { designated = ds }) (record R { designated = es })
moved S R ds es Z b = record { agents = b.agents; atoms = b.atoms; within = b.within; truth = b.truth; forth = b.forth; back = b.back }

moved_back : (S R : Kripke) (ds es : List ℕ) (Z : ℕ → ℕ → Bool) → IsBisimulation Z (record S { designated = ds }) (record R { designated = es }) → IsBisimulation Z S R
moved_back S R ds es Z b = record { agents = b.agents; atoms = b.atoms; within = b.within; truth = b.truth; forth = b.forth; back = b.back }

-- tests are equal at related worlds
same_tests : (S R : Kripke) → IsFrame S → IsFrame R → (Z : ℕ → ℕ → Bool) → IsBisimulation Z S R → (A : EventModel) (w v e : ℕ) → IsTrue (Z w v) → applies S A w e ≡ applies R A v e
unfolding is_true
same_tests S R s r Z b A w v e z =
    same_test (record S { designated = s.0 }) (record R { designated = r.0 }) s.1 r.1 w v (Z, moved S R s.0 r.0 Z b, z) (event_at A e).pre

-- the products of related worlds with one event are related, whatever is designated
paired_products : (S R : Kripke) (A : EventModel) → (ds es : List ℕ) → IsState (record S { designated = ds }) → IsState (record R { designated = es }) → IsAction A →
    (Z : ℕ → ℕ → Bool) → IsBisimulation Z S R → (w v e i j : ℕ) →
    i < length (places S A) → place_at S A i ≡ (w, e) → j < length (places R A) → place_at R A j ≡ (v, e) → IsTrue (Z w v) →
    (Y : ℕ → ℕ → Bool) × IsBisimulation Y (product_of S A) (product_of R A) × IsTrue (Y i j)
paired_products S R A ds es s r m Z b w v e i j l p k q z =
    let S' : Kripke = record S { designated = ds } in
    let R' : Kripke = record R { designated = es } in
    let b' = moved S R ds es Z b in (
      paired S' R' A s r m Z b',
      moved_back (product_of S A) (product_of R A) (product_of S' A).designated (product_of R' A).designated (paired S' R' A s r m Z b')
          (subst (λ P. IsBisimulation (paired S' R' A s r m Z b') (record (product_of S A) { designated = (product_of S' A).designated }) P) (same_product R es A)
          (subst (λ P. IsBisimulation (paired S' R' A s r m Z b') P (product_of R' A)) (same_product S ds A) (product_bisimulation S' R' A s r m Z b'))),
      to_paired S' R' A s r m Z b' i j (record {
        left = subst (λ L. i < length L) (sym (same_places S ds A)) l;
        right = subst (λ L. j < length L) (sym (same_places R es A)) k;
        worlds = subst (λ (x : ℕ × ℕ). IsTrue (Z x.0 (place_at R' A j).0)) (sym (at S ds i (w, e) p)) (subst (λ (x : ℕ × ℕ). IsTrue (Z w x.0)) (sym (at R es j (v, e) q)) z);
        events = ap (λ (x : ℕ × ℕ). x.1) (at S ds i (w, e) p) ∙ sym (ap (λ (x : ℕ × ℕ). x.1) (at R es j (v, e) q));
      }),
    )
  where
    at : (S : Kripke) (ds : List ℕ) (i : ℕ) (x : ℕ × ℕ) → place_at S A i ≡ x → place_at (record S { designated = ds }) A i ≡ x
    at S ds i x h = ap (λ L. get_or L i (0, 0)) (same_places S ds A) ∙ h

module _ (T : List EventModel) (t : AllByRecursion IsAction T) where
  -- worlds of frames that a bisimulation relates agree on the formula
  abbrev pub Agree : DynNode → Type 0
  Agree f = (S R : Kripke) → IsFrame S → IsFrame R → (Z : ℕ → ℕ → Bool) → IsBisimulation Z S R → (w v : ℕ) → IsTrue (Z w v) → DynTruth T S w f ↔ DynTruth T R v f

  each : (S R : Kripke) → IsFrame S → IsFrame R → (Z : ℕ → ℕ → Bool) → IsBisimulation Z S R → (w v : ℕ) → IsTrue (Z w v) → (fs : List ((f : DynNode) × Agree f)) →
      AllByRecursion (DynTruth T S w) (map (λ e. e.0) fs) ↔ AllByRecursion (DynTruth T R v) (map (λ e. e.0) fs)
  each S R s r Z b w v z [] = (λ t. t, λ t. t)
  each S R s r Z b w v z (f ∷ fs) =
      let one = f.1 S R s r Z b w v z in
      let rest = each S R s r Z b w v z fs in
      (λ t. (one.0 t.0, rest.0 t.1), λ t. (one.1 t.0, rest.1 t.1))

  either : (S R : Kripke) → IsFrame S → IsFrame R → (Z : ℕ → ℕ → Bool) → IsBisimulation Z S R → (w v : ℕ) → IsTrue (Z w v) → (fs : List ((f : DynNode) × Agree f)) →
      Either (DynTruth T S w) (map (λ e. e.0) fs) ↔ Either (DynTruth T R v) (map (λ e. e.0) fs)
  either S R s r Z b w v z [] = (λ t. t, λ t. t)
  either S R s r Z b w v z (f ∷ fs) =
      let one = f.1 S R s r Z b w v z in
      let rest = either S R s r Z b w v z fs in
      (λ t. elim t [ inl x ↦ inl (one.0 x) | inr y ↦ inr (rest.0 y) ], λ t. elim t [ inl x ↦ inl (one.1 x) | inr y ↦ inr (rest.1 y) ])

  -- what holds after the action in the first state holds after it in the second
  ahead : (S R : Kripke) → IsFrame S → IsFrame R → (Z : ℕ → ℕ → Bool) → IsBisimulation Z S R → (w v : ℕ) → IsTrue (Z w v) → (A : EventModel) → ((e : ℕ) → IsIn e A.designated → IsAction A) →
      (f : DynNode) → Agree f →
      ((e i : ℕ) → IsIn e A.designated → slice_get (places S A) i ≡ Some (w, e) → DynTruth T (product_of S A) i f) →
      (e j : ℕ) → IsIn e A.designated → slice_get (places R A) j ≡ Some (v, e) → DynTruth T (product_of R A) j f
  ahead S R s r Z b w v z A action f agree h e j d at =
      let m = action e d in
      let l = b.within w v z in
      let got = from_get (places R A) j (v, e) (0, 0) at in
      let place : IsPlace R A (v, e) = subst (IsPlace R A) got.1 (is_place R A j got.0) in
      let t : IsTrue (applies S A w e) = same_tests S R s r Z b A w v e z ∙ place.applies_there in
      let i = number_of S A w e l.0 place.event t in
      let s' = pointed S s w l.0 in
      let r' = pointed R r v l.1 in
      let holds = h e i.0 d (to_get (places S A) i.0 (0, 0) i.1 ∙ ap Some i.2) in
      let both = paired_products S R A (w ∷ []) (v ∷ []) s' r' m Z b w v e i.0 j i.1 i.2 got.0 got.1 z in
      (agree (product_of S A) (product_of R A) (product_frame S A s m w e l.0 d t) (product_frame R A r m v e l.1 d place.applies_there) both.0 both.1 i.0 j both.2).0 holds

  converse : (S R : Kripke) (Z : ℕ → ℕ → Bool) → IsBisimulation Z S R → IsBisimulation (λ v w. Z w v) R S
  converse S R Z b = record {
    agents = sym b.agents;
    atoms = sym b.atoms;
    within = λ v w h. let t = b.within w v h in (t.1, t.0);
    truth = λ v w h. sym (b.truth w v h);
    forth = λ a v w x h i. b.back a w v x h i;
    back = λ a v w u h i. b.forth a w v u h i;
  }

  -- one level, where the parts agree
  level : (S R : Kripke) → IsFrame S → IsFrame R → (Z : ℕ → ℕ → Bool) → IsBisimulation Z S R → (w v : ℕ) → IsTrue (Z w v) → (y : DynNode-F ((f : DynNode) × Agree f)) →
      dynamic_step T DynNode (λ f Q u. DynTruth T Q u f) (map-DynNode ((f : DynNode) × Agree f) DynNode (λ e. e.0) y) S w
      ↔ dynamic_step T DynNode (λ f Q u. DynTruth T Q u f) (map-DynNode ((f : DynNode) × Agree f) DynNode (λ e. e.0) y) R v
  level S R s r Z b w v z DynNode-F.True = (λ t. t, λ t. t)
  level S R s r Z b w v z DynNode-F.False = (λ t. t, λ t. t)
  level S R s r Z b w v z (DynNode-F.Atom p) =
      let e = ap (λ l. slice_index_or l p.n false) (b.truth w v z) in
      (λ t. sym e ∙ t, λ t. e ∙ t)
  level S R s r Z b w v z (DynNode-F.Not f) = let one = f.1 S R s r Z b w v z in (λ t q. t (one.1 q), λ t q. t (one.0 q))
  level S R s r Z b w v z (DynNode-F.And fs) = each S R s r Z b w v z fs
  level S R s r Z b w v z (DynNode-F.Or fs) = either S R s r Z b w v z fs
  level S R s r Z b w v z (DynNode-F.Knows a f) = (
    λ t y q. let x = b.back a.n w v y z q in (f.1 S R s r Z b x.0 y x.2).0 (t x.0 x.1),
    λ t x q. let y = b.forth a.n w v x z q in (f.1 S R s r Z b x y.0 y.2).1 (t y.0 y.1),
  )
  level S R s r Z b w v z (DynNode-F.Common g f) = (
    λ t vs q. let ws = walk_back Z S R b g w v vs z q in (f.1 S R s r Z b (last_of w ws.0) (last_of v vs) ws.2).0 (t ws.0 ws.1),
    λ t ws q. let vs = walk_forth Z S R b g w v ws z q in (f.1 S R s r Z b (last_of w ws) (last_of v vs.0) vs.2).1 (t vs.0 vs.1),
  )
  level S R s r Z b w v z (DynNode-F.After a f) = (
    λ h. ahead S R s r Z b w v z (action_at T a.n) (action_within T t a.n) f.0 f.1 h,
    λ h. ahead R S r s (λ v w. Z w v) (converse S R Z b) v w z (action_at T a.n) (action_within T t a.n) f.0 f.1 h,
  )

  rolled : (x : DynNode-F DynNode) (y : DynNode-F ((f : DynNode) × Agree f)) → map-DynNode ((f : DynNode) × Agree f) DynNode (λ e. e.0) y ≡ x → Agree (roll-DynNode x)
  rolled x y e = subst (λ (x : DynNode-F DynNode). Agree (roll-DynNode x)) e (λ S R s r Z b w v z.
      let step = level S R s r Z b w v z y in (
        λ t. along (sym (dynamic-roll T R v _)) (step.0 (along (dynamic-roll T S w _) t)),
        λ t. along (sym (dynamic-roll T S w _)) (step.1 (along (dynamic-roll T R v _) t)),
      ))

  pub agree : (f : DynNode) → Agree f
  agree = ind-DynNode Agree rolled

pub bisimilar_agree : (T : List EventModel) → AllByRecursion IsAction T → (S R : Kripke) → IsState S → IsState R → (w v : ℕ) → BisimilarWorlds S w R v → (f : DynNode) → DynTruth T S w f ↔ DynTruth T R v f
bisimilar_agree T t S R s r w v b f = agree T t f S R (frame_of S s) (frame_of R r) b.0 b.1 w v b.2

-- designated worlds play no part in truth
module _ (T : List EventModel) (t : AllByRecursion IsAction T) where
  abbrev itself : Kripke → ℕ → ℕ → Bool
  itself S w v = (w == v) && nat_lt w S.worlds

  from_itself : (S : Kripke) (w v : ℕ) → IsTrue (itself S w v) → (w ≡ v) × (w < S.worlds)
  from_itself S w v h = let p = and_parts (w == v) (nat_lt w S.worlds) h in (equal_from_test w v p.0, less_from_test w S.worlds p.1)

  to_itself : (S : Kripke) (w : ℕ) → w < S.worlds → IsTrue (itself S w w)
  to_itself S w l = and_whole (w == w) (nat_lt w S.worlds) (test_itself w) (test_from_less w S.worlds l)

  pub designated_plays_no_part : (S : Kripke) → IsFrame S → (ds : List ℕ) (w : ℕ) → w < S.worlds → (f : DynNode) → DynTruth T (record S { designated = ds }) w f ↔ DynTruth T S w f
  designated_plays_no_part S frame ds w l f = agree T t f (record S { designated = ds }) S frame frame (itself S) (record {
    agents = refl;
    atoms = refl;
    within = λ v u h. let p = from_itself S v u h in (p.1, subst (λ x. x < S.worlds) p.0 p.1);
    truth = λ v u h. ap (λ x. truth_of S x) (from_itself S v u h).0;
    forth = λ a v u x h i. (
      x,
      subst (λ y. IsIn (y, x) (links_of S a)) (from_itself S v u h).0 i,
      to_itself S x (links_within (record S { designated = frame.0 }) frame.1 a v x i).1,
    );
    back = λ a v u x h i. (
      x,
      subst (λ y. IsIn (y, x) (links_of S a)) (sym (from_itself S v u h).0) i,
      to_itself S x (links_within (record S { designated = frame.0 }) frame.1 a u x i).1,
    );
  }) w w (to_itself S w l)

  -- nor in a product
  pub same_after : (S : Kripke) (A : EventModel) (ds : List ℕ) → IsFrame (product_of S A) → (i : ℕ) → i < length (places S A) → (f : DynNode) → DynTruth T (product_of (record S { designated = ds }) A) i f ↔ DynTruth T (product_of S A) i f
  same_after S A ds frame i l f =
      subst (λ P. DynTruth T P i f ↔ DynTruth T (product_of S A) i f) (sym (same_product S ds A))
      (designated_plays_no_part (product_of S A) frame (product_of (record S { designated = ds }) A).designated i l f)
