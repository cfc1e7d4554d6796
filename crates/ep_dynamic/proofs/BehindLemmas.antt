-- What a row over the worlds of a product says of the worlds of the state.
use Rattle.std.proofs.Common.{◌≡◌, ℕ, zero, suc, ◌+◌, ◌<◌, Bool, true, false, ◌&&◌, ◌==◌, List, [], ◌∷◌, length, get_or, slice_get, replicate, set, IsTrue, refl, sym, ◌∙◌, ap, subst, arith, ⊎_elim, ◌↔◌, Some}
use Rattle.std.specs.List.{AllByRecursion, list_any}
use Rattle.ep_logic.specs.declared.ids.ActionId.{ActionId}
use Rattle.ep_theory.specs.Rising.{IsIn}
use Rattle.ep_theory.specs.Kripke.{Kripke, IsState}
use Rattle.ep_theory.specs.Events.{EventModel, IsAction}
use Rattle.ep_theory.specs.Product.{applies, places, place_at, product_of}
use Rattle.ep_theory.proofs.lists.Bools.{and_parts, and_whole, decided}
use Rattle.ep_theory.proofs.lists.Filters.{to_any}
use Rattle.ep_theory.proofs.lists.Lists.{equal_from_test, test_itself}
use Rattle.ep_theory.proofs.lists.NumbersLemmas.{in_numbers}
use Rattle.ep_theory.proofs.lists.Counting.{last_or_before}
use Rattle.ep_theory.proofs.formulas.TruthLemmas.{along}
use Rattle.ep_theory.proofs.actions.ProductLaws.{from_get}
use Rattle.ep_theory.proofs.actions.ProductLemmas.{IsPlace, is_place}
use Rattle.ep_theory.specs.PlanningTask.{PlanningTask}
use Rattle.ep_logic.specs.Rows.{value_at}
use Rattle.ep_update.specs.Ahead.{openings}
use Rattle.ep_dynamic.specs.declared.node.DynNode.{DynNode}
use Rattle.ep_dynamic.specs.declared.node.DynNode.TheVariants.{After}
use Rattle.ep_dynamic.specs.DynamicTruth.{action_at, DynTruth}
use Rattle.ep_dynamic.specs.Made.{opened}
use Rattle.ep_dynamic.specs.DynamicLabels.{Says, SaysTruth, HoldsBefore, HoldsBehind}
use Rattle.ep_dynamic.proofs.Dynamic.{IsFrame, frame_of, action_within, product_frame, same_product, same_after}
use Rattle.ep_dynamic.proofs.DynamicLemmas.{dynamic-After, says_everywhere}

to_get : {A : Type 0} (xs : List A) (i : ℕ) (d : A) → i < length xs → slice_get xs i ≡ Some (get_or xs i d)
to_get [] i d l = absurd (omega arith)
to_get (x ∷ xs) zero d l = refl
to_get (x ∷ xs) (suc i) d l = to_get xs i d (omega arith)

-- a world with a designated event that applies there is among the openings
opening : (S : Kripke) (A : EventModel) (w e : ℕ) → w < S.worlds → IsIn e A.designated → IsTrue (applies S A w e) → IsIn w (openings S A)
opening S A w e l i t = in_numbers (λ w. list_any (applies S A w) A.designated) S.worlds w l (to_any (applies S A w) e A.designated i t)

in_empty : (xs : List ℕ) (x : ℕ) → xs ≡ [] → IsIn x xs → ⊥
in_empty xs x h i = subst (IsIn x) h i

module _ (T : PlanningTask) (t : AllByRecursion IsAction T.actions) (S : Kripke) (s : IsState S) (a : ActionId) (f : DynNode) where
  -- where the action may happen nowhere, all holds after it
  pub says-open : (row : List Bool) → openings S (action_at T.actions a.n) ≡ [] → row ≡ replicate S.worlds true → SaysTruth T S (After a f) row
  says-open row none h = says_everywhere S.worlds (λ w. DynTruth T.actions S w (After a f)) row h (λ w l. along (sym (dynamic-After T.actions S w a f)) (λ d i j at.
      let got = from_get (places S (action_at T.actions a.n)) i (w, d) (0, 0) at in
      let place = subst (IsPlace S (action_at T.actions a.n)) got.1 (is_place S (action_at T.actions a.n) i got.0) in
      absurd (in_empty (openings S (action_at T.actions a.n)) w none (opening S (action_at T.actions a.n) w d l j place.applies_there))))

  -- a world of the product, whatever is designated
  frame_at : (i : ℕ) → i < length (places S (action_at T.actions a.n)) → IsIn (place_at S (action_at T.actions a.n) i).1 (action_at T.actions a.n).designated → IsFrame (product_of S (action_at T.actions a.n))
  frame_at i l j =
      let place = is_place S (action_at T.actions a.n) i l in
      let at = place_at S (action_at T.actions a.n) i in
      product_frame S (action_at T.actions a.n) (frame_of S s) (action_within T.actions t a.n at.1 j) at.0 at.1 place.world j place.applies_there

  same_there : (i : ℕ) → i < length (places S (action_at T.actions a.n)) → IsIn (place_at S (action_at T.actions a.n) i).1 (action_at T.actions a.n).designated →
      DynTruth T.actions (product_of (opened S (action_at T.actions a.n)) (action_at T.actions a.n)) i f ↔ DynTruth T.actions (product_of S (action_at T.actions a.n)) i f
  same_there i l j = same_after T.actions t S (action_at T.actions a.n) (openings S (action_at T.actions a.n)) (frame_at i l j) i l f

  -- the worlds of the product are the places
  worlds_are : (product_of (opened S (action_at T.actions a.n)) (action_at T.actions a.n)).worlds ≡ length (places S (action_at T.actions a.n))
  worlds_are = ap (λ (P : Kripke). P.worlds) (same_product S (openings S (action_at T.actions a.n)) (action_at T.actions a.n))

  pub long_inner : (P : Kripke) (inner : List Bool) → P ≡ product_of (opened S (action_at T.actions a.n)) (action_at T.actions a.n) → SaysTruth T P f inner → length inner ≡ length (places S (action_at T.actions a.n))
  long_inner P inner h u = u.long ∙ ap (λ (P : Kripke). P.worlds) h ∙ worlds_are

  pub says-After : (P : Kripke) (inner row : List Bool) → P ≡ product_of (opened S (action_at T.actions a.n)) (action_at T.actions a.n) → SaysTruth T P f inner →
      Says S.worlds (HoldsBehind S (action_at T.actions a.n) inner) row → SaysTruth T S (After a f) row
  says-After P inner row h u r = record {
    long = r.long;
    each = λ w l. (
      λ q. along (sym (dynamic-After T.actions S w a f)) (λ d i j at.
          let got = from_get (places S (action_at T.actions a.n)) i (w, d) (0, 0) at in
          let world : (place_at S (action_at T.actions a.n) i).0 ≡ w = ap (λ (p : ℕ × ℕ). p.0) got.1 in
          let event : IsIn (place_at S (action_at T.actions a.n) i).1 (action_at T.actions a.n).designated = subst (λ (p : ℕ × ℕ). IsIn p.1 (action_at T.actions a.n).designated) (sym got.1) j in
          let inside = (said.each i (subst (λ n. i < n) (sym worlds_are) got.0)).0 ((r.each w l).0 q i got.0 world event) in
          (same_there i got.0 event).0 inside),
      λ q. (r.each w l).1 (λ i k world event.
          let ahead = along (dynamic-After T.actions S w a f) q (place_at S (action_at T.actions a.n) i).1 i event
          (to_get (places S (action_at T.actions a.n)) i (0, 0) k ∙ ap (λ (x : ℕ). Some (x, (place_at S (action_at T.actions a.n) i).1)) world) in
          (said.each i (subst (λ n. i < n) (sym worlds_are) k)).1 ((same_there i k event).1 ahead)),
    );
  }
    where
      said : SaysTruth T (product_of (opened S (action_at T.actions a.n)) (action_at T.actions a.n)) f inner
      said = subst (λ P. SaysTruth T P f inner) h u

-- one place more

module _ (S : Kripke) (A : EventModel) (inner : List Bool) where
  pub behind-none : (row : List Bool) (n : ℕ) → n ≡ S.worlds → length row ≡ n → ((k : ℕ) → k < n → value_at row k ≡ true) → Says S.worlds (HoldsBefore 0 S A inner) row
  behind-none row n q e h = record {
    long = e ∙ q;
    each = λ w l. (λ t i k. absurd (omega arith), λ t. h w (subst (λ m. w < m) (sym q) l));
  }

  pub behind-more : (row : List Bool) (i w e : ℕ) (met : Bool) → i < length (places S A) → place_at S A i ≡ (w, e) → Says S.worlds (HoldsBefore i S A inner) row →
      IsTrue met ↔ (IsIn e A.designated → IsTrue (value_at inner i)) → Says S.worlds (HoldsBefore (i + 1) S A inner) (set row w (value_at row w && met))
  behind-more row i w e met l at s m = record {
    long = length-set row w (value_at row w && met) ∙ s.long;
    each = λ v k. ⊎_elim
        (λ (q : IsTrue (v == w)). here v k (equal_from_test v w q))
        (λ (q : (v == w) ≡ false). there v k (λ (h : v ≡ w). let u : IsTrue (v == w) = ap (λ x. x == w) h ∙ test_itself w in cc))
        (decided (v == w));
  }
    where
      length-set : (xs : List Bool) (i : ℕ) (x : Bool) → length (set xs i x) ≡ length xs
      length-set [] i x = refl
      length-set (y ∷ ys) zero x = refl
      length-set (y ∷ ys) (suc i) x = ap suc (length-set ys i x)

      set_at : (xs : List Bool) (i : ℕ) (x : Bool) → i < length xs → value_at (set xs i x) i ≡ x
      set_at [] i x l = absurd (omega arith)
      set_at (y ∷ ys) zero x l = refl
      set_at (y ∷ ys) (suc i) x l = set_at ys i x (omega arith)

      set_off : (xs : List Bool) (i j : ℕ) (x : Bool) → (j ≡ i → ⊥) → value_at (set xs i x) j ≡ value_at xs j
      set_off [] i j x h = refl
      set_off (y ∷ ys) zero zero x h = absurd (h refl)
      set_off (y ∷ ys) zero (suc j) x h = refl
      set_off (y ∷ ys) (suc i) zero x h = refl
      set_off (y ∷ ys) (suc i) (suc j) x h = set_off ys i j x (λ q. h (ap suc q))

      here : (v : ℕ) → v < S.worlds → v ≡ w → IsTrue (value_at (set row w (value_at row w && met)) v) ↔ HoldsBefore (i + 1) S A inner v
      here v k q =
          let l' : w < length row = subst (λ n. w < n) (sym s.long) (subst (λ x. x < S.worlds) q k) in
          let is : value_at (set row w (value_at row w && met)) v ≡ (value_at row w && met) = ap (value_at (set row w (value_at row w && met))) q ∙ set_at row w (value_at row w && met) l' in (
            λ t j b c d.
                let p = and_parts (value_at row w) met (sym is ∙ t) in
                ⊎_elim
                (λ (g : j ≡ i). subst (λ x. IsTrue (value_at inner x)) (sym g) (m.0 p.1 (subst (λ (x : ℕ × ℕ). IsIn x.1 A.designated) (ap (place_at S A) g ∙ at) d)))
                (λ (g : j < i). (s.each w (subst (λ x. x < S.worlds) q k)).0 p.0 j g (c ∙ q) d)
                (last_or_before j i (omega arith)),
            λ t. is ∙ and_whole (value_at row w) met
                ((s.each w (subst (λ x. x < S.worlds) q k)).1 (λ j b c d. t j (omega arith) (c ∙ sym q) d))
                (m.1 (λ d. t i (omega arith) (ap (λ (x : ℕ × ℕ). x.0) at ∙ sym q) (subst (λ (x : ℕ × ℕ). IsIn x.1 A.designated) (sym at) d))),
          )

      there : (v : ℕ) → v < S.worlds → (v ≡ w → ⊥) → IsTrue (value_at (set row w (value_at row w && met)) v) ↔ HoldsBefore (i + 1) S A inner v
      there v k n =
          let is = set_off row w v (value_at row w && met) n in (
            λ t j b c d. ⊎_elim
                (λ (g : j ≡ i). absurd (n (sym c ∙ ap (λ x. (place_at S A x).0) g ∙ ap (λ (x : ℕ × ℕ). x.0) at)))
                (λ (g : j < i). (s.each v k).0 (sym is ∙ t) j g c d)
                (last_or_before j i (omega arith)),
            λ t. is ∙ (s.each v k).1 (λ j b c d. t j (omega arith) c d),
          )

pub place_in : (S : Kripke) (A : EventModel) (list : List (ℕ × ℕ)) (i : ℕ) → list ≡ places S A → i < length (places S A) → IsPlace S A (get_or list i (0, 0))
place_in S A list i h l = subst (λ xs. IsPlace S A (get_or xs i (0, 0))) (sym h) (is_place S A i l)
