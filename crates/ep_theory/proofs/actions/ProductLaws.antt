-- The product in the words of truth, and when an action is applicable.
use Rattle.std.proofs.Common.{◌≡◌, ◌≢◌, ℕ, zero, suc, ◌<◌, Bool, true, false, not, cond, ◌==◌, List, [], ◌∷◌, length, get_or, slice_get, IsTrue, refl, sym, ◌∙◌, ap, subst, arith, ◌⊎◌, inl, inr, ⊎_elim, ◌↔◌, Option, Some, None, Less}
use Rattle.std.specs.Ordering.{nat_cmp}
use Rattle.std.specs.List.{AllByRecursion, list_any, find}
use Rattle.std.proofs.lemmas.Option.{none-some, same_Some}
use Rattle.ep_logic.specs.declared.formula.Node.{Node}
use Rattle.ep_theory.specs.Rising.{IsIn, IsRising}
use Rattle.ep_theory.specs.Kripke.{Kripke, IsState, links_of, atom_at}
use Rattle.ep_theory.specs.Truth.{Truth}
use Rattle.ep_theory.specs.Events.{Event, EventModel, IsAction, AreDistinct, no_event, event_at, event_links}
use Rattle.ep_theory.specs.Product.{IsApplicable, IsStuckAt, IsProduct, applies, stuck_world, places, place_at, atom_by, atom_after, truth_after, product_of}
use Rattle.ep_theory.proofs.lists.Bools.{from_not, not_true, decided}
use Rattle.ep_theory.proofs.lists.Lists.{at_All, equal_from_test, test_itself, not_below_itself, not_both_below}
use Rattle.ep_theory.proofs.lists.Filters.{to_any, from_any, All-at}
use Rattle.ep_theory.proofs.states.Unique.{numbers}
use Rattle.ep_theory.proofs.lists.NumbersLemmas.{below}
use Rattle.ep_logic.proofs.CallerLemmas.{get_or-table}
use Rattle.ep_theory.proofs.formulas.Decided.{is_true_decides}
use Rattle.ep_theory.proofs.actions.ProductLemmas.{in_places, from_places, rising_places, from_link, to_link, from_designated, to_designated, truth_at}

pub from_get : {A : Type 0} (xs : List A) (i : ℕ) (x d : A) → slice_get xs i ≡ Some x → (i < length xs) × (get_or xs i d ≡ x)
from_get [] i x d h = absurd (none-some x h)
from_get (y ∷ ys) zero x d h = (omega arith, same_Some y x h)
from_get (y ∷ ys) (suc i) x d h = let r = from_get ys i x d h in (omega (arith, r.0), r.1)

-- what a search finds
found_step : {A : Type 0} (p : A → Bool) (x y : A) (r : Option A) (b : Bool) → p x ≡ b → cond b (Some x) r ≡ Some y → ((x ≡ y) × IsTrue (p x)) ⊎ ((p x ≡ false) × (r ≡ Some y))
found_step p x y r true e h = inl (same_Some x y h, e)
found_step p x y r false e h = inr (e, h)

find_here : {A : Type 0} (p : A → Bool) (x : A) (xs : List A) → IsTrue (p x) → find p (x ∷ xs) ≡ Some x
find_here p x xs h = rw h refl

find_later : {A : Type 0} (p : A → Bool) (x : A) (xs : List A) → p x ≡ false → find p (x ∷ xs) ≡ find p xs
find_later p x xs h = rw h refl

pub find_none : {A : Type 0} (p : A → Bool) (xs : List A) → ((x : A) → IsIn x xs → IsTrue (p x) → ⊥) → find p xs ≡ None
find_none p [] h = refl
find_none p (x ∷ xs) h = ⊎_elim
    (λ (t : IsTrue (p x)). absurd (h x (inl refl) t))
    (λ (e : p x ≡ false). find_later p x xs e ∙ find_none p xs (λ y i. h y (inr i)))
    (decided (p x))

pub none_found : {A : Type 0} (p : A → Bool) (xs : List A) → find p xs ≡ None → (x : A) → IsIn x xs → IsTrue (p x) → ⊥
none_found p [] h x i t = i
none_found p (y ∷ ys) h x i t = ⊎_elim
    (λ (u : IsTrue (p y)). none-some y (sym h ∙ find_here p y ys u))
    (λ (e : p y ≡ false). ⊎_elim
    (λ (q : x ≡ y). let v : p x ≡ false = ap p q ∙ e in cc)
    (λ (j : IsIn x ys). none_found p ys (sym (find_later p y ys e) ∙ h) x j t) i)
    (decided (p y))

-- in a rising list the first that passes is the least that passes
pub find_least : (p : ℕ → Bool) (xs : List ℕ) (w : ℕ) → IsRising nat_cmp xs → IsIn w xs → IsTrue (p w) → ((v : ℕ) → v < w → IsIn v xs → IsTrue (p v) → ⊥) → find p xs ≡ Some w
find_least p [] w h i t f = absurd i
find_least p (x ∷ xs) w h (inl e) t f = subst (λ v. find p (x ∷ xs) ≡ Some v) (sym e) (find_here p x xs (ap p (sym e) ∙ t))
find_least p (x ∷ xs) w h (inr i) t f = ⊎_elim
    (λ (u : IsTrue (p x)). absurd (f x (from_below x w (at_All (λ y. nat_cmp x y ≡ Less) w xs h.0 i)) (inl refl) u))
    (λ (e : p x ≡ false). find_later p x xs e ∙ find_least p xs w h.1 i t (λ v l j u. f v l (inr j) u))
    (decided (p x))
  where
    lt_or_not : (m n : ℕ) → (m < n) ⊎ ((m ≡ n) ⊎ (n < m))
    lt_or_not m n = grind arith

    from_below : (m n : ℕ) → nat_cmp m n ≡ Less → m < n
    from_below m n h = ⊎_elim
        (λ (l : m < n). l)
        (λ (q : (m ≡ n) ⊎ (n < m)). ⊎_elim
        (λ (e : m ≡ n). absurd (not_below_itself nat_cmp numbers n (subst (λ k. nat_cmp k n ≡ Less) e h)))
        (λ (g : n < m). absurd (not_both_below nat_cmp numbers m n h (below n m g))) q)
        (lt_or_not m n)

pub found_least : (p : ℕ → Bool) (xs : List ℕ) (w : ℕ) → IsRising nat_cmp xs → find p xs ≡ Some w → IsIn w xs × IsTrue (p w) × ((v : ℕ) → v < w → IsIn v xs → IsTrue (p v) → ⊥)
found_least p [] w h e = absurd (none-some w e)
found_least p (x ∷ xs) w h e = ⊎_elim
    (λ (g : (x ≡ w) × IsTrue (p x)). (
      inl (sym g.0),
      ap p (sym g.0) ∙ g.1,
      λ v l i t. not_before v l i g.0,
    ))
    (λ (g : (p x ≡ false) × (find p xs ≡ Some w)).
    let r = found_least p xs w h.1 g.1 in (
      inr r.0,
      r.1,
      λ v l i t. ⊎_elim (λ (q : v ≡ x). let z : p v ≡ false = ap p q ∙ g.0 in cc) (λ (j : IsIn v xs). r.2 v l j t) i,
    ))
    (found_step p x w (find p xs) (p x) refl e)
  where
    not_before : (v : ℕ) → v < w → IsIn v (x ∷ xs) → x ≡ w → ⊥
    not_before v l (inl q) e = let z : v ≡ w = q ∙ e in omega arith
    not_before v l (inr j) e = not_both_below nat_cmp numbers v w (below v w l) (subst (λ k. nat_cmp k v ≡ Less) e (at_All (λ y. nat_cmp x y ≡ Less) v xs h.0 j))

module _ (S : Kripke) (A : EventModel) (s : IsState S) where
  abbrev goes_on : ℕ → Bool
  goes_on w = list_any (applies S A w) A.designated

  in_range : (w : ℕ) → IsIn w S.designated → w < S.worlds
  in_range w i = at_All (λ x. x < S.worlds) w S.designated s.designated_within i

  to_going : (w e : ℕ) → IsIn w S.designated → IsIn e A.designated → Truth S w (event_at A e).pre → IsTrue (goes_on w)
  to_going w e i j t = to_any (applies S A w) e A.designated j ((is_true_decides S s w (in_range w i) (event_at A e).pre).1 t)

  from_going : (w : ℕ) → IsIn w S.designated → IsTrue (goes_on w) → (e : ℕ) × IsIn e A.designated × Truth S w (event_at A e).pre
  from_going w i h =
      let r = from_any (applies S A w) A.designated h in
      (r.0, r.1, (is_true_decides S s w (in_range w i) (event_at A r.0).pre).0 r.2)

  to_stuck : (w : ℕ) → IsIn w S.designated → IsTrue (not (goes_on w)) → IsStuckAt S A w
  to_stuck w i h = (i, λ e j t. from_not (goes_on w) h (to_going w e i j t))

  from_stuck : (w : ℕ) → IsStuckAt S A w → IsTrue (not (goes_on w))
  from_stuck w h = not_true (goes_on w) (λ g. let r = from_going w h.0 g in h.1 r.0 r.1 r.2)

  -- no world is stuck exactly if the action is applicable
  pub stuck_none : (stuck_world S A ≡ None) ↔ IsApplicable S A
  stuck_none = (
    λ h w i. ⊎_elim
        (λ (g : IsTrue (goes_on w)). from_going w i g)
        (λ (e : goes_on w ≡ false). absurd (none_found (λ w. not (goes_on w)) S.designated h w i (ap not e)))
        (decided (goes_on w)),
    λ f. find_none (λ w. not (goes_on w)) S.designated (λ w i h. let r = f w i in from_not (goes_on w) h (to_going w r.0 i r.1 r.2)),
  )

  -- the stuck world is the first where no designated event applies
  pub stuck_some : (w : ℕ) → (stuck_world S A ≡ Some w) ↔ (IsStuckAt S A w × ((v : ℕ) → v < w → ¬ IsStuckAt S A v))
  stuck_some w = (
    λ h. let r = found_least (λ w. not (goes_on w)) S.designated w s.designated_rising h in
        (to_stuck w r.0 r.1, λ v l g. r.2 v l g.0 (from_stuck v g)),
    λ h. find_least (λ w. not (goes_on w)) S.designated w s.designated_rising h.0.0 (from_stuck w h.0) (λ v l i t. h.1 v l (to_stuck v i t)),
  )

-- what is assigned to an atom
not_later : (p : ℕ) (f : Node) (sets : List (ℕ × Node)) (x : ℕ × Node) → AllByRecursion (λ y. x.0 ≢ y.0) sets → IsIn (p, f) sets → (x.0 == p) ≡ false
not_later p f sets x a i = ⊎_elim
    (λ (t : IsTrue (x.0 == p)). absurd (at_All (λ (y : ℕ × Node). x.0 ≢ y.0) (p, f) sets a i (equal_from_test x.0 p t)))
    (λ (e : (x.0 == p) ≡ false). e)
    (decided (x.0 == p))

pub assigned_found : (p : ℕ) (f : Node) (sets : List (ℕ × Node)) → AreDistinct sets → IsIn (p, f) sets → find (λ set. set.0 == p) sets ≡ Some (p, f)
assigned_found p f [] d i = absurd i
assigned_found p f (x ∷ sets) d (inl e) =
    subst (λ (y : ℕ × Node). find (λ set. set.0 == p) (y ∷ sets) ≡ Some (p, f)) e (find_here {A = ℕ × Node} (λ set. set.0 == p) (p, f) sets (test_itself p))
assigned_found p f (x ∷ sets) d (inr i) =
    find_later {A = ℕ × Node} (λ set. set.0 == p) x sets (not_later p f sets x d.0 i) ∙ assigned_found p f sets d.1 i

distinct_at : (A : EventModel) → IsAction A → (e : ℕ) → e < length A.events → AreDistinct (event_at A e).sets
distinct_at A m e l = All-at (λ (event : Event). AreDistinct event.sets) A.events e no_event l m.distinct

module _ (S : Kripke) (A : EventModel) (s : IsState S) (m : IsAction A) where
  atom_is : (i w e p : ℕ) → slice_get (places S A) i ≡ Some (w, e) → p < S.atoms → atom_at (product_of S A) i p ≡ atom_by S w p (find (λ set. set.0 == p) (event_at A e).sets)
  atom_is i w e p h l =
      let r = from_get (places S A) i (w, e) (0, 0) h in
      ap (λ t. get_or t p false) (truth_at S A i r.0)
      ∙ ap (λ (q : ℕ × ℕ). get_or (truth_after S A q) p false) r.1
      ∙ get_or-table (atom_after S w (event_at A e)) S.atoms p false l

  -- the product is a product
  pub product_is_product : IsProduct S A (places S A) (product_of S A)
  product_is_product = record {
    listed = λ w e. (
      λ i. let c = from_places S A (w, e) i in (c.world, c.event, (is_true_decides S s w c.world (event_at A e).pre).0 c.applies_there),
      λ h. in_places S A w e h.0 h.1 ((is_true_decides S s w h.0 (event_at A e).pre).1 h.2),
    );
    in_order = rising_places S A;
    worlds = refl;
    agents = refl;
    atoms = refl;
    assigned = λ i w e p f h l k.
        let c = from_places S A (w, e) (in_from_get (places S A) i (w, e) h) in
        let q = atom_is i w e p h l ∙ ap (atom_by S w p) (assigned_found p f (event_at A e).sets (distinct_at A m e c.event) k) in
        let d = is_true_decides S s w c.world f in
        (λ t. d.0 (sym q ∙ t), λ t. q ∙ d.1 t);
    kept = λ i w e p h l none.
        atom_is i w e p h l ∙ ap (atom_by S w p) (find_none {A = ℕ × Node} (λ set. set.0 == p) (event_at A e).sets
        (λ x j t. none x.1 (subst (λ (y : ℕ × Node). IsIn y (event_at A e).sets) (λ k. (equal_from_test x.0 p t k, x.1)) j)));
    links = λ a i j w e v f l h k.
        let x = from_get (places S A) i (w, e) (0, 0) h in
        let y = from_get (places S A) j (v, f) (0, 0) k in (
          λ g. let r = from_link S A a i j g in (
            subst (λ (q : ℕ × ℕ). IsIn (q.0, v) (links_of S a)) x.1 (subst (λ (q : ℕ × ℕ). IsIn ((place_at S A i).0, q.0) (links_of S a)) y.1 r.3),
            subst (λ (q : ℕ × ℕ). IsIn (q.1, f) (event_links A a)) x.1 (subst (λ (q : ℕ × ℕ). IsIn ((place_at S A i).1, q.1) (event_links A a)) y.1 r.4),
          ),
          λ g. to_link S A a i j l x.0 y.0
              (subst (λ (q : ℕ × ℕ). IsIn ((place_at S A i).0, q.0) (links_of S a)) (sym y.1) (subst (λ (q : ℕ × ℕ). IsIn (q.0, v) (links_of S a)) (sym x.1) g.0))
              (subst (λ (q : ℕ × ℕ). IsIn ((place_at S A i).1, q.1) (event_links A a)) (sym y.1) (subst (λ (q : ℕ × ℕ). IsIn (q.1, f) (event_links A a)) (sym x.1) g.1)),
        );
    designated = λ i w e h.
        let x = from_get (places S A) i (w, e) (0, 0) h in (
          λ g. let r = from_designated S A i g in
              (subst (λ (q : ℕ × ℕ). IsIn q.0 S.designated) x.1 r.1, subst (λ (q : ℕ × ℕ). IsIn q.1 A.designated) x.1 r.2),
          λ g. to_designated S A i x.0 (subst (λ (q : ℕ × ℕ). IsIn q.0 S.designated) (sym x.1) g.0) (subst (λ (q : ℕ × ℕ). IsIn q.1 A.designated) (sym x.1) g.1),
        );
  }
    where
      in_from_get : {X : Type 0} (xs : List X) (i : ℕ) (x : X) → slice_get xs i ≡ Some x → IsIn x xs
      in_from_get [] i x h = absurd (none-some x h)
      in_from_get (y ∷ ys) zero x h = inl (sym (same_Some y x h))
      in_from_get (y ∷ ys) (suc i) x h = inr (in_from_get ys i x h)
