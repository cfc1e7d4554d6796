-- A state to which two states lead, so that worlds are bisimilar exactly if they lead to one world.
use Rattle.std.proofs.Common.{◌≡◌, ℕ, zero, suc, ◌<◌, ◌≤◌, ◌+◌, ◌*◌, inl, inr, ◌↔◌, Bool, true, false, ◌&&◌, ◌==◌, List, [], ◌∷◌, length, map, refl, sym, ap, subst, ◌∙◌, arith, IsTrue, nat_lt, le_refl, ◌||◌}
use Rattle.std.specs.List.{AllByRecursion, IsDistinct, list_any}
use Rattle.std.proofs.lemmas.Map.Steps.{length-le_from_distinct_below}
use Rattle.std.proofs.lemmas.List.{length-map}
use Rattle.ep_theory.specs.Rising.{IsIn}
use Rattle.ep_theory.specs.Kripke.{Kripke, IsState}
use Rattle.ep_theory.specs.Truth.{Truth}
use Rattle.ep_theory.specs.Bisimulation.{IsBisimulation, BisimilarWorlds, Bisimilar}
use Rattle.ep_theory.proofs.CallerLemmas.{IsIn-map, at_All, equal_from_test, from_map, test_itself}
use Rattle.ep_apart.proofs.TheoryLemmas.{bisimilar_agree, less_from_test, test_from_less, three, three_back, worlds_sym, worlds_trans}
use Rattle.ep_apart.specs.declared.lines.Side.{Side}
use Rattle.ep_apart.specs.declared.lines.Apart.{Apart}
use Rattle.ep_apart.specs.Lines.{formula_of, last_line, AreLines, nesting}
use Rattle.ep_apart.specs.Telling.{state_at, state_across, HasLone, DifferFrom, AreApart, IsWidth, TellsApart}
use Rattle.ep_apart.specs.Tables.{Tells}
use Rattle.ep_apart.specs.Joint.{IsJoint}

-- the classes of the state on the side, and of the one on the other side
abbrev pub class_on : (ℕ → ℕ) → (ℕ → ℕ) → Side → ℕ → ℕ
class_on f g Side.First = f
class_on f g Side.Second = g

abbrev pub class_across : (ℕ → ℕ) → (ℕ → ℕ) → Side → ℕ → ℕ
class_across f g Side.First = g
class_across f g Side.Second = f

module _ (S T Q : Kripke) (f g : ℕ → ℕ) (s : IsState S) (t : IsState T) (j : IsJoint S T Q f g) where
  leads : (i : Side) (w : ℕ) → w < (state_at S T i).worlds → BisimilarWorlds (state_at S T i) w Q (class_on f g i w)
  leads Side.First w b = j.first w b
  leads Side.Second w b = j.second w b

  leads_across : (i : Side) (w : ℕ) → w < (state_across S T i).worlds → BisimilarWorlds (state_across S T i) w Q (class_across f g i w)
  leads_across Side.First w b = j.second w b
  leads_across Side.Second w b = j.first w b

  class_below : (i : Side) (w : ℕ) → w < (state_at S T i).worlds → class_on f g i w < Q.worlds
  class_below i w b = let z = leads i w b in (z.1.within w (class_on f g i w) z.2).1

  pub same_class : (i k : Side) (w v : ℕ) → w < (state_at S T i).worlds → v < (state_at S T k).worlds → BisimilarWorlds (state_at S T i) w (state_at S T k) v → class_on f g i w ≡ class_on f g k v
  same_class i k w v a b z = j.apart (class_on f g i w) (class_on f g k v) (class_below i w a) (class_below k v b)
      (worlds_trans Q (state_at S T i) Q (class_on f g i w) w (class_on f g k v) (worlds_sym (state_at S T i) Q w (class_on f g i w) (leads i w a))
      (worlds_trans (state_at S T i) (state_at S T k) Q w v (class_on f g k v) z (leads k v b)))

  from_class : (w v : ℕ) → w < S.worlds → v < T.worlds → f w ≡ g v → BisimilarWorlds S w T v
  from_class w v a b e = worlds_trans S Q T w (g v) v (subst (λ c. BisimilarWorlds S w Q c) e (j.first w a)) (worlds_sym T Q v (g v) (j.second v b))

  -- worlds that lead to one world
  abbrev pub meets : ℕ → ℕ → Bool
  meets w v = nat_lt w S.worlds && nat_lt v T.worlds && (f w == g v)

  to_meets : (w v : ℕ) → w < S.worlds → v < T.worlds → f w ≡ g v → IsTrue (meets w v)
  to_meets w v a b e = three_back (nat_lt w S.worlds) (nat_lt v T.worlds) (f w == g v) (test_from_less w S.worlds a) (test_from_less v T.worlds b)
      (subst (λ c. IsTrue (f w == c)) e (test_itself (f w)))

  from_meets : (w v : ℕ) → IsTrue (meets w v) → (w < S.worlds) × (v < T.worlds) × BisimilarWorlds S w T v
  from_meets w v h =
      let p = three (nat_lt w S.worlds) (nat_lt v T.worlds) (f w == g v) h in
      let a = less_from_test w S.worlds p.0 in
      let b = less_from_test v T.worlds p.1 in
      (a, b, from_class w v a b (equal_from_test (f w) (g v) p.2))

  meet_if_bisimilar : (w v : ℕ) → BisimilarWorlds S w T v → IsTrue (meets w v)
  meet_if_bisimilar w v z =
      let b = z.1.within w v z.2 in
      to_meets w v b.0 b.1 (same_class Side.First Side.Second w v b.0 b.1 z)

  meets_bisimulation : IsBisimulation meets S T
  meets_bisimulation =
      let z = from_some in
      record {
        agents = z.1.agents ∙ sym (j.second 0 t.some_world).1.agents;
        atoms = z.1.atoms ∙ sym (j.second 0 t.some_world).1.atoms;
        within = λ w v h. let p = from_meets w v h in (p.0, p.1);
        truth = λ w v h. let p = from_meets w v h in p.2.1.truth w v p.2.2;
        forth = λ a w v u h i. let p = from_meets w v h in let x = p.2.1.forth a w v u p.2.2 i in (x.0, x.1, meet_if_bisimilar u x.0 (p.2.0, p.2.1, x.2));
        back = λ a w v x h i. let p = from_meets w v h in let u = p.2.1.back a w v x p.2.2 i in (u.0, u.1, meet_if_bisimilar u.0 x (p.2.0, p.2.1, u.2));
      }
    where
      from_some : BisimilarWorlds S 0 Q (f 0)
      from_some = j.first 0 s.some_world

  designated_first : (w : ℕ) → IsIn w S.designated → w < S.worlds
  designated_first w i = at_All (λ x. x < S.worlds) w S.designated s.designated_within i

  designated_second : (v : ℕ) → IsIn v T.designated → v < T.worlds
  designated_second v i = at_All (λ x. x < T.worlds) v T.designated t.designated_within i

  -- states are bisimilar exactly if their designated worlds lead to the same worlds
  pub bisimilar_from : ((c : ℕ) → IsIn c (map f S.designated) → IsIn c (map g T.designated)) → ((c : ℕ) → IsIn c (map g T.designated) → IsIn c (map f S.designated)) → Bisimilar S T
  bisimilar_from h k = (
    meets,
    meets_bisimulation,
    λ w i. let m = from_map g (f w) T.designated (h (f w) (IsIn-map f w S.designated i)) in (m.0, m.1, to_meets w m.0 (designated_first w i) (designated_second m.0 m.1) m.2),
    λ v i. let m = from_map f (g v) S.designated (k (g v) (IsIn-map g v T.designated i)) in (m.0, m.1, to_meets m.0 v (designated_first m.0 m.1) (designated_second v i) (sym m.2)),
  )

  pub first_to_second : Bisimilar S T → (c : ℕ) → IsIn c (map f S.designated) → IsIn c (map g T.designated)
  first_to_second b c i =
      let w = from_map f c S.designated i in
      let v = b.2 w.0 w.1 in
      let e = same_class Side.First Side.Second w.0 v.0 (designated_first w.0 w.1) (designated_second v.0 v.1) (b.0, b.1, v.2) in
      subst (λ x. IsIn x (map g T.designated)) (sym (w.2 ∙ e)) (IsIn-map g v.0 T.designated v.1)

  pub second_to_first : Bisimilar S T → (c : ℕ) → IsIn c (map g T.designated) → IsIn c (map f S.designated)
  second_to_first b c i =
      let v = from_map g c T.designated i in
      let w = b.3 v.0 v.1 in
      let e = same_class Side.First Side.Second w.0 v.0 (designated_first w.0 w.1) (designated_second v.0 v.1) (b.0, b.1, w.2) in
      subst (λ x. IsIn x (map f S.designated)) (sym (v.2 ∙ sym e)) (IsIn-map f w.0 S.designated w.1)

  pub lone_from : (c : ℕ) → IsIn c (map f S.designated) → (IsIn c (map g T.designated) → ⊥) → HasLone S T
  lone_from c i n =
      let w = from_map f c S.designated i in (
        w.0,
        w.1,
        λ v k z. n (subst (λ x. IsIn x (map g T.designated))
            (sym (w.2 ∙ same_class Side.First Side.Second w.0 v (designated_first w.0 w.1) (designated_second v k) z)) (IsIn-map g v T.designated k)),
      )

  pub no_lone : ((c : ℕ) → IsIn c (map f S.designated) → IsIn c (map g T.designated)) → HasLone S T → ⊥
  no_lone h l =
      let m = from_map g (f l.0) T.designated (h (f l.0) (IsIn-map f l.0 S.designated l.1)) in
      l.2 m.0 m.1 (from_class l.0 m.0 (designated_first l.0 l.1) (designated_second m.0 m.1) m.2)

  -- the number of worlds of Q is the greatest number of worlds no two of which are bisimilar
  abbrev class_at : Side × ℕ → ℕ
  class_at x = class_on f g x.0 x.1

  place_of : (c : ℕ) → c < Q.worlds → (x : Side × ℕ) × (x.1 < (state_at S T x.0).worlds) × (class_at x ≡ c)
  place_of c b = elim (j.onto c b) [ inl w ↦ ((Side.First, w.0), w.1, w.2) | inr v ↦ ((Side.Second, v.0), v.1, v.2) ]

  abbrev InRange : Side × ℕ → Type 0
  InRange x = x.1 < (state_at S T x.0).worlds

  all_later : (k : ℕ) (xs : List (Side × ℕ)) → AllByRecursion (λ x. class_at x < k) xs → AllByRecursion (λ x. class_at x < suc k) xs
  all_later k [] h = tt
  all_later k (x ∷ xs) h = (let b = h.0 in omega arith, all_later k xs h.1)

  differ_from : (k : ℕ) (x : Side × ℕ) → InRange x → class_at x ≡ k → (xs : List (Side × ℕ)) → AllByRecursion InRange xs → AllByRecursion (λ y. class_at y < k) xs → AllByRecursion (DifferFrom S T x) xs
  differ_from k x b e [] h l = tt
  differ_from k x b e (y ∷ ys) h l =
      (λ z. let q = same_class x.0 y.0 x.1 y.1 b h.0 z in let m = l.0 in absurd (omega arith), differ_from k x b e ys h.1 l.1)

  many : (k : ℕ) → k ≤ Q.worlds → (xs : List (Side × ℕ)) × AreApart S T xs × (length xs ≡ k) × AllByRecursion InRange xs × AllByRecursion (λ x. class_at x < k) xs
  many zero l = ([], tt, refl, tt, tt)
  many (suc k) l =
      let r = many k (omega arith) in
      let x = place_of k (omega arith) in
      let b : class_at x.0 < suc k = let e = x.2 in omega arith in
      (x.0 ∷ r.0, (x.1, differ_from k x.0 x.1 x.2 r.0 r.3 r.4, r.1), (let e = r.2 in omega arith), (x.1, r.3), (b, all_later k r.0 r.4))

  test_false : (m n : ℕ) → (m ≡ n → ⊥) → (m == n) ≡ false
  test_false m n h = go (m == n) refl
    where
      go : (b : Bool) → (m == n) ≡ b → b ≡ false
      go true e = absurd (h (equal_from_test m n e))
      go false e = refl

  classes_differ : (x : Side × ℕ) → InRange x → (ys : List (Side × ℕ)) → AreApart S T ys → AllByRecursion (DifferFrom S T x) ys → AllByRecursion (λ c. (class_at x == c) ≡ false) (map class_at ys)
  classes_differ x b [] h d = tt
  classes_differ x b (y ∷ ys) h d = (test_false (class_at x) (class_at y) (λ e. d.0 (same_places x y b h.0 e)), classes_differ x b ys h.2 d.1)
    where
      same_places : (x y : Side × ℕ) → InRange x → InRange y → class_at x ≡ class_at y → BisimilarWorlds (state_at S T x.0) x.1 (state_at S T y.0) y.1
      same_places x y a b e = worlds_trans (state_at S T x.0) Q (state_at S T y.0) x.1 (class_at y) y.1
          (subst (λ c. BisimilarWorlds (state_at S T x.0) x.1 Q c) e (leads x.0 x.1 a)) (worlds_sym (state_at S T y.0) Q y.1 (class_at y) (leads y.0 y.1 b))

  all_in_range : (xs : List (Side × ℕ)) → AreApart S T xs → AllByRecursion (λ c. c < Q.worlds) (map class_at xs)
  all_in_range [] h = tt
  all_in_range (x ∷ xs) h = (class_below x.0 x.1 h.0, all_in_range xs h.2)

  distinct_classes : (xs : List (Side × ℕ)) → AreApart S T xs → IsDistinct (λ m n. m == n) (map class_at xs)
  unfolding IsDistinct
  distinct_classes [] h = tt
  distinct_classes (x ∷ xs) h = (classes_differ x h.0 xs h.2 h.1, distinct_classes xs h.2)

  any_step : (c : ℕ) (cs : List ℕ) (q n : ℕ) → c < n → (list_any (λ c. q == c) cs ≡ true → q < n) → (b : Bool) → (q == c) ≡ b → (b || list_any (λ c. q == c) cs) ≡ true → q < n
  any_step c cs q n l f true p e = let r = equal_from_test q c p in omega arith
  any_step c cs q n l f false p e = f e

  below_if_any : (cs : List ℕ) → AllByRecursion (λ c. c < Q.worlds) cs → (q : ℕ) → list_any (λ c. q == c) cs ≡ true → q < Q.worlds
  below_if_any [] h q e = absurd (cc)
  below_if_any (c ∷ cs) h q e = any_step c cs q Q.worlds h.0 (below_if_any cs h.1 q) (q == c) refl e

  pub joint_width : IsWidth S T Q.worlds
  joint_width =
      let r = many Q.worlds (le_refl Q.worlds) in
      record {
        reached = (r.0, r.1, r.2);
        greatest = λ xs h.
            let l = length-map xs class_at in
            let b = length-le_from_distinct_below (map class_at xs) Q.worlds (distinct_classes xs h) (λ q e. below_if_any (map class_at xs) (all_in_range xs h) q e) in
            omega arith;
      }

  designated_across : (i : Side) (w : ℕ) → IsIn w (state_across S T i).designated → w < (state_across S T i).worlds
  designated_across Side.First w i = designated_second w i
  designated_across Side.Second w i = designated_first w i

  designated_at : (i : Side) (w : ℕ) → IsIn w (state_at S T i).designated → w < (state_at S T i).worlds
  designated_at Side.First w i = designated_first w i
  designated_at Side.Second w i = designated_second w i

  -- a line that is true at the class of a designated world of one state and false at those of the other
  pub tells_states : (a : Apart) (m r c : ℕ) → AreLines S.agents S.atoms 0 a.lines → r ≡ last_line a.lines → length a.lines ≤ 5 * Q.worlds * Q.worlds + 1 → suc m ≡ Q.worlds →
      Tells Q m a.lines r c (λ y. IsIn y (map (class_across f g a.side) (state_across S T a.side).designated)) → IsIn c (map (class_on f g a.side) (state_at S T a.side).designated) →
      ((a.side ≡ Side.First) ↔ HasLone S T) → TellsApart S T a
  tells_states a m r c p e l q t i side = record {
    proper = record { some_line = (let w = t.within in omega arith); each = p };
    here =
        let w = from_map (class_on f g a.side) c (state_at S T a.side).designated i in
        let h : Truth Q (class_on f g a.side w.0) (formula_of a.lines (last_line a.lines)) =
        subst (λ x. Truth Q x (formula_of a.lines (last_line a.lines))) w.2 (subst (λ k. Truth Q c (formula_of a.lines k)) e t.here) in
        (w.0, w.1, (bisimilar_agree (state_at S T a.side) w.0 Q (class_on f g a.side w.0) (leads a.side w.0 (designated_at a.side w.0 w.1)) (formula_of a.lines (last_line a.lines))).1 h);
    nowhere = λ w k h.
        t.nowhere (class_across f g a.side w) (IsIn-map (class_across f g a.side) w (state_across S T a.side).designated k)
        (subst (λ n. Truth Q (class_across f g a.side w) (formula_of a.lines n)) (sym e)
        ((bisimilar_agree (state_across S T a.side) w Q (class_across f g a.side w) (leads_across a.side w (designated_across a.side w k)) (formula_of a.lines (last_line a.lines))).0 h));
    side = side;
    short = (
      Q.worlds,
      record {
        width = joint_width;
        few = l;
        shallow = let d = t.shallow in let n = ap (λ k. nesting (formula_of a.lines k)) e in omega arith;
      },
    );
  }
