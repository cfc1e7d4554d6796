-- The groups of a sorted list of worlds, and the sides of the cuts between them.
use Rattle.std.proofs.Common.{◌≡◌, ◌≢◌, ℕ, ◌<◌, ◌≤◌, ◌+◌, Bool, true, false, cond, List, length, get_or, refl, sym, ap, ap₂, subst, ◌∙◌, arith, ◌⊎◌, inl, inr, ⊎_elim, min, Ordering, Equal}
use Rattle.std.specs.Ordering.{nat_cmp, ordering_then}
use Rattle.ep_theory.specs.Rising.{IsIn}
use Rattle.ep_logic.specs.Numbers.{has_number}
use Rattle.ep_theory.proofs.lists.Orders.{then-equal}
use Rattle.ep_theory.proofs.CallerLemmas.{to_has_number, from_has_number}
use Rattle.ep_refine.specs.Blocks.{side_of}
use Rattle.ep_refine.specs.Groups.{Suits, Turned, Refined}
use Rattle.ep_refine.proofs.Splitting.{Tri, below, level, above, tri, Cut, cut_group, from_equal, is_equal, is_less, is_greater, then_equal}

pub to_bool : (b : Bool) → (b ≡ true) ⊎ (b ≡ false)
to_bool true = inl refl
to_bool false = inr refl

pub side_in : (front : Bool) (xs : List ℕ) (u : ℕ) → IsIn u xs → side_of front xs u ≡ cond front 0 1
side_in front xs u i = ap (λ b. cond b (cond front 0 1) (cond front 1 0)) (to_has_number xs u i)

pub side_out : (front : Bool) (xs : List ℕ) (u : ℕ) → (IsIn u xs → ⊥) → side_of front xs u ≡ cond front 1 0
side_out front xs u h = go (has_number xs u) refl
  where
    go : (b : Bool) → has_number xs u ≡ b → side_of front xs u ≡ cond front 1 0
    go true e = absurd (h (from_has_number xs u e))
    go false e = ap (λ b. cond b (cond front 0 1) (cond front 1 0)) e

module _ (n : ℕ) (old g : ℕ → ℕ) (marked : ℕ → Bool) (ws : List ℕ) (suits : Suits n old g marked ws) where
  W : ℕ → ℕ
  W k = get_or ws k 0

  -- one group is in one class
  pub one_class : (u v : ℕ) → u < n → v < n → g u ≡ g v → old u ≡ old v
  one_class u v a b e = go (tri (old u) (old v))
    where
      go : Tri (old u) (old v) → old u ≡ old v
      go (below l) = absurd (let h = suits.classes u v a b l in omega (arith, h, e))
      go (level q) = q
      go (above l) = absurd (let h = suits.classes v u b a l in omega (arith, h, e))

  class_rises : (u v : ℕ) → u < n → v < n → g u ≤ g v → old u ≤ old v
  class_rises u v a b e = go (tri (old u) (old v))
    where
      go : Tri (old u) (old v) → old u ≤ old v
      go (below l) = omega (arith, l)
      go (level q) = omega (arith, q)
      go (above l) = absurd (let h = suits.classes v u b a l in omega (arith, h, e))

  -- in a class of a listed world each group is that of a listed world
  group_listed : (u k : ℕ) → u < n → k < length ws → old (get_or ws k 0) ≡ old u → (m : ℕ) × (m < length ws) × (g u ≡ g (get_or ws m 0))
  group_listed u k a b e = ⊎_elim
      (λ (h : marked u ≡ true). let l = suits.listed u a h in (l.0, l.1, ap g (sym l.2)))
      (λ (h : marked u ≡ false). let r = suits.chosen u k a h b e in (r.0, r.1, suits.resting u (get_or ws r.0 0) a (suits.within r.0 r.1) h r.2 (sym r.3)))
      (to_bool (marked u))

  module _ (t i : ℕ) (turned : Turned g ws t i) (inside : i < length ws) where
    s : ℕ
    s = g (get_or ws i 0)

    c : ℕ
    c = old (get_or ws i 0)

    t_s : t ≤ g (get_or ws i 0)
    t_s = turned.ahead i (omega arith) inside

    split : (m : ℕ) → m < length ws → (g (get_or ws m 0) < t) ⊎ (g (get_or ws i 0) ≤ g (get_or ws m 0))
    split m b = ⊎_elim (λ (l : m < i). inl (turned.before m l b)) (λ (l : i ≤ m). inr (suits.sorted i m l b)) (lt_or_le m i)
      where
        lt_or_le : (m i : ℕ) → (m < i) ⊎ (i ≤ m)
        lt_or_le m i = grind arith

    gap : (u : ℕ) → u < n → old u ≡ old (get_or ws i 0) → (g u < t) ⊎ (g (get_or ws i 0) ≤ g u)
    gap u a e = let m = group_listed u i a inside (sym e) in ⊎_elim
        (λ (l : g (get_or ws m.0 0) < t). inl (let q = m.2 in omega (arith, q, l)))
        (λ (l : g (get_or ws i 0) ≤ g (get_or ws m.0 0)). inr (let q = m.2 in omega (arith, q, l)))
        (split m.0 m.1)

    strict : (u k : ℕ) → u < n → k < length ws → old (get_or ws k 0) ≡ old u → old u ≢ old (get_or ws i 0) → (g u < t) ⊎ (g (get_or ws i 0) < g u)
    strict u k a b e d = let m = group_listed u k a b e in ⊎_elim
        (λ (l : g (get_or ws m.0 0) < t). inl (let q = m.2 in omega (arith, q, l)))
        (λ (l : g (get_or ws i 0) ≤ g (get_or ws m.0 0)). inr (
        let q = m.2 in
        let far : g u ≢ g (get_or ws i 0) = (λ p. d (one_class u (get_or ws i 0) a (suits.within i inside) p)) in
        omega (arith, q, l, far)))
        (split m.0 m.1)

    others : (u v : ℕ) → u < n → v < n → old u ≡ old v → old u ≢ old (get_or ws i 0) →
        (g u ≡ g v) ⊎ (((g u < t) ⊎ (g (get_or ws i 0) < g u)) × ((g v < t) ⊎ (g (get_or ws i 0) < g v)))
    others u v a b e d = ⊎_elim
        (λ (h : marked u ≡ true). let l = suits.listed u a h in
        inr (strict u l.0 a l.1 (ap old l.2) d, strict v l.0 b l.1 (ap old l.2 ∙ e) (λ q. d (e ∙ q))))
        (λ (h : marked u ≡ false). ⊎_elim
        (λ (k : marked v ≡ true). let l = suits.listed v b k in
        inr (strict u l.0 a l.1 (ap old l.2 ∙ sym e) d, strict v l.0 b l.1 (ap old l.2) (λ q. d (e ∙ q))))
        (λ (k : marked v ≡ false). inl (suits.resting u v a b h k e))
        (to_bool (marked v)))
        (to_bool (marked u))

    -- the group ends at place j
    module _ (j : ℕ) (i_j : i < j) (j_in : j ≤ length ws) (group : (k : ℕ) → i ≤ k → k < j → g (get_or ws k 0) ≡ g (get_or ws i 0))
        (next : j < length ws → g (get_or ws j 0) ≢ g (get_or ws i 0)) where
      ahead_group : (k : ℕ) → j ≤ k → k < length ws → g (get_or ws i 0) < g (get_or ws k 0)
      ahead_group k l b =
          let a = suits.sorted i j (omega arith) (omega arith) in
          let d = suits.sorted j k l b in
          let e = next (omega arith) in
          omega (arith, a, d, e)

      place_in_group : (k : ℕ) → k < length ws → g (get_or ws k 0) ≡ g (get_or ws i 0) → (i ≤ k) × (k < j)
      place_in_group k b e = (from, to)
        where
          le_or_lt : (m n : ℕ) → (m ≤ n) ⊎ (n < m)
          le_or_lt m n = grind arith

          from : i ≤ k
          from = ⊎_elim (λ (l : i ≤ k). l) (λ (l : k < i). absurd (let h = turned.before k l b in let q = t_s in omega (arith, h, q, e))) (le_or_lt i k)

          to : k < j
          to = ⊎_elim (λ (l : j ≤ k). absurd (let h = ahead_group k l b in omega (arith, h, e))) (λ (l : k < j). l) (le_or_lt j k)

      pub turned_next : Turned g ws (g (get_or ws i 0) + 1) j
      turned_next = record {
        before = λ k l b. let h = before k l b in omega (arith, h);
        ahead = λ k l b. let h = ahead_group k l b in omega (arith, h);
      }
        where
          le_or_lt : (m n : ℕ) → (m ≤ n) ⊎ (n < m)
          le_or_lt m n = grind arith

          before : (k : ℕ) → k < j → k < length ws → g (get_or ws k 0) ≤ g (get_or ws i 0)
          before k l b = ⊎_elim (λ (h : i ≤ k). let e = group k h l in omega (arith, e)) (λ (h : k < i). suits.sorted k i (omega arith) inside) (le_or_lt i k)

      -- no group of the class is left behind this one
      pub last_group : (now : ℕ → ℕ) → Refined n old g now t → (j < length ws → old (get_or ws j 0) ≢ old (get_or ws i 0)) → Refined n old g now (g (get_or ws i 0) + 1)
      last_group now refined ends = cut_group n old g now now (λ _. 0) t (g (get_or ws i 0)) (old (get_or ws i 0)) 0 t_s refined
          (λ u v a b. sym (ap (ordering_then (nat_cmp (now u) (now v))) (is_equal 0 0 refl) ∙ then_equal (nat_cmp (now u) (now v))))
          (λ u a e q. refl) (λ u a e q. absurd (none u a e q)) (λ u a e q. refl) (λ u a e. refl) gap others
        where
          none : (u : ℕ) → u < n → old u ≡ old (get_or ws i 0) → g (get_or ws i 0) < g u → ⊥
          none u a e l =
              let m = group_listed u i a inside (sym e) in
              let w = suits.within m.0 m.1 in
              let same : old (get_or ws m.0 0) ≡ old (get_or ws i 0) = one_class (get_or ws m.0 0) u w a (sym m.2) ∙ e in
              ⊎_elim
              (λ (h : m.0 < j). let d = turned_next.before m.0 h m.1 in let q = m.2 in omega (arith, d, q, l))
              (λ (h : j ≤ m.0).
              let b : j < length ws = (let k = m.1 in omega (arith, h, k)) in
              let up = class_rises (get_or ws i 0) (get_or ws j 0) (suits.within i inside) (suits.within j b) (suits.sorted i j (omega arith) b) in
              let down = class_rises (get_or ws j 0) (get_or ws m.0 0) (suits.within j b) w (suits.sorted j m.0 h m.1) in
              ends b (let q = same in omega (arith, up, down, q)))
              (lt_or_le m.0 j)
            where
              lt_or_le : (m i : ℕ) → (m < i) ⊎ (i ≤ m)
              lt_or_le m i = grind arith

      -- the group, in which each world is marked, goes in front
      pub front_group : (now new : ℕ → ℕ) (xs : List ℕ) → Refined n old g now t →
          ((k : ℕ) → i ≤ k → k < j → marked (get_or ws k 0) ≡ true) →
          ((k : ℕ) → i ≤ k → k < j → IsIn (get_or ws k 0) xs) → ((u : ℕ) → IsIn u xs → (k : ℕ) × (i ≤ k) × (k < j) × (get_or ws k 0 ≡ u)) →
          Cut n now new (side_of true xs) → Refined n old g new (g (get_or ws i 0) + 1)
      front_group now new xs refined all to from cut = cut_group n old g now new (side_of true xs) t (g (get_or ws i 0)) (old (get_or ws i 0)) 1 t_s refined cut
          (λ u a e q. side_in true xs u (has u a e q))
          (λ u a e q. side_out true xs u (λ x. let h = in_group u x in omega (arith, h, q)))
          (λ u a e q. side_out true xs u (λ x. let h = in_group u x in let l = t_s in omega (arith, h, q, l)))
          (λ u a e. side_out true xs u (λ x. let k = from u x in e (ap old (sym k.3) ∙ one_class (get_or ws k.0 0) (get_or ws i 0) (suits.within k.0 (let l = k.2 in omega (arith, l))) (suits.within i inside) (group k.0 k.1 k.2))))
          gap others
        where
          in_group : (u : ℕ) → IsIn u xs → g u ≡ g (get_or ws i 0)
          in_group u x = let k = from u x in ap g (sym k.3) ∙ group k.0 k.1 k.2

          has : (u : ℕ) → u < n → old u ≡ old (get_or ws i 0) → g u ≡ g (get_or ws i 0) → IsIn u xs
          has u a e q = ⊎_elim
              (λ (h : marked u ≡ true). let l = suits.listed u a h in let p = place_in_group l.0 l.1 (ap g l.2 ∙ q) in subst (λ w. IsIn w xs) l.2 (to l.0 p.0 p.1))
              (λ (h : marked u ≡ false).
              let r = suits.chosen u i a h inside (sym e) in
              let same : g u ≡ g (get_or ws r.0 0) = suits.resting u (get_or ws r.0 0) a (suits.within r.0 r.1) h r.2 (sym r.3) in
              let p = place_in_group r.0 r.1 (sym same ∙ q) in
              absurd (clash (marked (get_or ws r.0 0)) (all r.0 p.0 p.1) r.2))
              (to_bool (marked u))
            where
              clash : (b : Bool) → b ≡ true → b ≡ false → ⊥
              clash b p q = cc

      -- the group has a world that is not marked, and the other worlds of the class, which are listed up to place m, go behind
      pub back_group : (now new : ℕ → ℕ) (xs : List ℕ) (m : ℕ) → j ≤ m → m ≤ length ws → Refined n old g now t →
          (k : ℕ) → i ≤ k → k < j → marked (get_or ws k 0) ≡ false →
          ((k : ℕ) → j ≤ k → k < m → old (get_or ws k 0) ≡ old (get_or ws i 0)) → (m < length ws → old (get_or ws m 0) ≢ old (get_or ws i 0)) →
          ((k : ℕ) → j ≤ k → k < m → IsIn (get_or ws k 0) xs) → ((u : ℕ) → IsIn u xs → (k : ℕ) × (j ≤ k) × (k < m) × (get_or ws k 0 ≡ u)) →
          Cut n now new (side_of false xs) → Refined n old g new (g (get_or ws i 0) + 1)
      back_group now new xs m j_m m_in refined r r_from r_to rest class ends to from cut = cut_group n old g now new (side_of false xs) t (g (get_or ws i 0)) (old (get_or ws i 0)) 0 t_s refined cut
          (λ u a e q. side_out false xs u (λ x. let h = behind u x in omega (arith, h, q)))
          (λ u a e q. side_in false xs u (has u a e q))
          (λ u a e q. side_out false xs u (λ x. let h = behind u x in let l = t_s in omega (arith, h, q, l)))
          (λ u a e. side_out false xs u (λ x. let k = from u x in e (ap old (sym k.3) ∙ class k.0 k.1 k.2)))
          gap others
        where
          behind : (u : ℕ) → IsIn u xs → g (get_or ws i 0) < g u
          behind u x = let k = from u x in let h = ahead_group k.0 k.1 (let l = k.2 in omega (arith, l)) in let e = ap g k.3 in omega (arith, h, e)

          lt_or_le : (m i : ℕ) → (m < i) ⊎ (i ≤ m)
          lt_or_le m i = grind arith

          has : (u : ℕ) → u < n → old u ≡ old (get_or ws i 0) → g (get_or ws i 0) < g u → IsIn u xs
          has u a e q = ⊎_elim
              (λ (h : marked u ≡ true).
              let l = suits.listed u a h in
              let from_j : j ≤ l.0 = ⊎_elim (λ (b : l.0 < j). absurd (let d = turned_next.before l.0 b l.1 in let p = ap g l.2 in omega (arith, d, p, q))) (λ (b : j ≤ l.0). b) (lt_or_le l.0 j) in
              let to_m : l.0 < m = ⊎_elim (λ (b : l.0 < m). b)
              (λ (b : m ≤ l.0).
              let w = suits.within l.0 l.1 in
              let f : m < length ws = (let k = l.1 in omega (arith, b, k)) in
              let up = class_rises (get_or ws i 0) (get_or ws m 0) (suits.within i inside) (suits.within m f) (suits.sorted i m (omega arith) f) in
              let down = class_rises (get_or ws m 0) (get_or ws l.0 0) (suits.within m f) w (suits.sorted m l.0 b l.1) in
              let same : old (get_or ws l.0 0) ≡ old (get_or ws i 0) = ap old l.2 ∙ e in
              absurd (ends f (omega (arith, up, down, same))))
              (lt_or_le l.0 m) in
              subst (λ w. IsIn w xs) l.2 (to l.0 from_j to_m))
              (λ (h : marked u ≡ false).
              let b : r < length ws = omega arith in
              let d : old (get_or ws r 0) ≡ old (get_or ws i 0) = one_class (get_or ws r 0) (get_or ws i 0) (suits.within r b) (suits.within i inside) (group r r_from r_to) in
              let same : g u ≡ g (get_or ws r 0) = suits.resting u (get_or ws r 0) a (suits.within r b) h rest (e ∙ sym d) in
              let f = group r r_from r_to in
              absurd (omega (arith, same, f, q)))
              (to_bool (marked u))

  lt_or_le : (m i : ℕ) → (m < i) ⊎ (i ≤ m)
  lt_or_le m i = grind arith

  -- at the start, and at the end
  pub refined_first : Refined n old g old 0
  refined_first u v a b = sym (ap (ordering_then (nat_cmp (old u) (old v))) (is_equal (min (g u) 0) (min (g v) 0) (omega arith)) ∙ then_equal (nat_cmp (old u) (old v)))

  pub turned_first : Turned g ws 0 0
  turned_first = record { before = λ k l b. absurd (omega arith); ahead = λ k l b. omega arith }

  -- once all groups are done, the ranks order the worlds as the groups do
  pub refined_last : (now : ℕ → ℕ) (t i : ℕ) → length ws ≤ i → Turned g ws t i → Refined n old g now t → (u v : ℕ) → u < n → v < n → nat_cmp (now u) (now v) ≡ nat_cmp (g u) (g v)
  refined_last now t i l turned refined u v a b = go (tri (old u) (old v))
    where
      done : (u v : ℕ) → u < n → v < n → old u ≡ old v → (g u ≡ g v) ⊎ ((g u < t) × (g v < t))
      done u v a b e = ⊎_elim
          (λ (h : marked u ≡ true). let k = suits.listed u a h in inr (ended u k.0 a k.1 (ap old k.2), ended v k.0 b k.1 (ap old k.2 ∙ e)))
          (λ (h : marked u ≡ false). ⊎_elim
          (λ (d : marked v ≡ true). let k = suits.listed v b d in inr (ended u k.0 a k.1 (ap old k.2 ∙ sym e), ended v k.0 b k.1 (ap old k.2)))
          (λ (d : marked v ≡ false). inl (suits.resting u v a b h d e))
          (to_bool (marked v)))
          (to_bool (marked u))
        where
          ended : (u k : ℕ) → u < n → k < length ws → old (get_or ws k 0) ≡ old u → g u < t
          ended u k a b e = let m = group_listed u k a b e in let h = turned.before m.0 (let f = m.1 in omega (arith, f, l)) m.1 in let q = m.2 in omega (arith, h, q)

      same : old u ≡ old v → (g u ≡ g v) ⊎ ((g u < t) × (g v < t)) → nat_cmp (min (g u) t) (min (g v) t) ≡ nat_cmp (g u) (g v)
      same e (inl q) = is_equal (min (g u) t) (min (g v) t) (ap (λ z. min z t) q) ∙ sym (is_equal (g u) (g v) q)
      same e (inr q) = let p = q.0 in let r = q.1 in ap₂ nat_cmp (let z : min (g u) t ≡ g u = omega (arith, p) in z) (let z : min (g v) t ≡ g v = omega (arith, r) in z)

      go : Tri (old u) (old v) → nat_cmp (now u) (now v) ≡ nat_cmp (g u) (g v)
      go (below h) = refined u v a b ∙ ap (λ o. ordering_then o (nat_cmp (min (g u) t) (min (g v) t))) (is_less (old u) (old v) h) ∙ sym (is_less (g u) (g v) (suits.classes u v a b h))
      go (level q) = refined u v a b ∙ ap (λ o. ordering_then o (nat_cmp (min (g u) t) (min (g v) t))) (is_equal (old u) (old v) q) ∙ same q (done u v a b q)
      go (above h) = refined u v a b ∙ ap (λ o. ordering_then o (nat_cmp (min (g u) t) (min (g v) t))) (is_greater (old u) (old v) h) ∙ sym (is_greater (g u) (g v) (suits.classes v u b a h))

-- worlds of one group stand in one block, and so do worlds of one class in groups that are not done
pub group_together : (n : ℕ) (old g now : ℕ → ℕ) (t u v : ℕ) → Refined n old g now t → u < n → v < n → old u ≡ old v → g u ≡ g v → now u ≡ now v
group_together n old g now t u v refined a b p q = from_equal (now u) (now v)
    (refined u v a b ∙ ap₂ ordering_then (is_equal (old u) (old v) p) (is_equal (min (g u) t) (min (g v) t) (ap (λ z. min z t) q)))

pub ahead_together : (n : ℕ) (old g now : ℕ → ℕ) (t u v : ℕ) → Refined n old g now t → u < n → v < n → old u ≡ old v → t ≤ g u → t ≤ g v → now u ≡ now v
ahead_together n old g now t u v refined a b p q r = from_equal (now u) (now v)
    (refined u v a b ∙ ap₂ ordering_then (is_equal (old u) (old v) p) (is_equal (min (g u) t) (min (g v) t) (omega (arith, q, r))))

-- worlds of one block are of one class
pub block_class : (n : ℕ) (old g now : ℕ → ℕ) (t u v : ℕ) → Refined n old g now t → u < n → v < n → now u ≡ now v → old u ≡ old v
block_class n old g now t u v refined a b p = from_equal (old u) (old v)
    (first (nat_cmp (old u) (old v)) (nat_cmp (min (g u) t) (min (g v) t)) (sym (refined u v a b) ∙ is_equal (now u) (now v) p))
  where
    first : (x y : Ordering) → ordering_then x y ≡ Equal → x ≡ Equal
    first x y h = (then-equal x y h).0
