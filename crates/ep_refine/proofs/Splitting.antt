-- Classes that are split at the groups of a sorted list of worlds, one after another.
use Rattle.std.proofs.Common.{◌≡◌, ◌≢◌, ℕ, ◌<◌, ◌≤◌, ◌+◌, refl, sym, ap, ◌∙◌, arith, Ordering, Less, Equal, Greater, ◌⊎◌, inl, inr, ⊎_elim, min}
use Rattle.std.specs.Ordering.{nat_cmp, ordering_then}
use Rattle.std.specs.Cmp.{nat_cmp_is}
use Rattle.ep_theory.proofs.CallerLemmas.{numbers}
use Rattle.ep_refine.specs.Groups.{Refined}

-- three cases of two numbers
pub data Tri (m n : ℕ) : Type 0 where
  below : m < n → Tri m n
  level : m ≡ n → Tri m n
  above : n < m → Tri m n

pub tri : (m n : ℕ) → Tri m n
tri m n = ⊎_elim (λ (l : m < n). below l) (λ r. ⊎_elim (λ (q : m ≡ n). level q) (λ (g : n < m). above g) r) (three m n)
  where
    three : (m n : ℕ) → (m < n) ⊎ ((m ≡ n) ⊎ (n < m))
    three m n = grind arith

pub is_less : (m n : ℕ) → m < n → nat_cmp m n ≡ Less
is_less m n l = sym (nat_cmp_is m n Less l)

pub is_equal : (m n : ℕ) → m ≡ n → nat_cmp m n ≡ Equal
is_equal m n l = sym (nat_cmp_is m n Equal l)

pub is_greater : (m n : ℕ) → n < m → nat_cmp m n ≡ Greater
is_greater m n l = sym (nat_cmp_is m n Greater l)

pub from_equal : (m n : ℕ) → nat_cmp m n ≡ Equal → m ≡ n
from_equal = numbers.same

-- numbers that compare alike
pub same_cmp : (p q x y : ℕ) → (p < q → x < y) → (q < p → y < x) → (p ≡ q → x ≡ y) → nat_cmp p q ≡ nat_cmp x y
same_cmp p q x y f g h = go (tri p q)
  where
    go : Tri p q → nat_cmp p q ≡ nat_cmp x y
    go (below l) = is_less p q l ∙ sym (is_less x y (f l))
    go (level l) = is_equal p q l ∙ sym (is_equal x y (h l))
    go (above l) = is_greater p q l ∙ sym (is_greater x y (g l))

-- first one pair of numbers and then another
pub then_cmp : (a b p q x y : ℕ) → (a < b → x < y) → (b < a → y < x) → (a ≡ b → p < q → x < y) → (a ≡ b → q < p → y < x) → (a ≡ b → p ≡ q → x ≡ y) →
    ordering_then (nat_cmp a b) (nat_cmp p q) ≡ nat_cmp x y
then_cmp a b p q x y f g h i j = go (tri a b)
  where
    go : Tri a b → ordering_then (nat_cmp a b) (nat_cmp p q) ≡ nat_cmp x y
    go (below l) = ap (λ o. ordering_then o (nat_cmp p q)) (is_less a b l) ∙ sym (is_less x y (f l))
    go (level l) = ap (λ o. ordering_then o (nat_cmp p q)) (is_equal a b l) ∙ same_cmp p q x y (h l) (i l) (j l)
    go (above l) = ap (λ o. ordering_then o (nat_cmp p q)) (is_greater a b l) ∙ sym (is_greater x y (g l))

pub then_then : (a b c : Ordering) → ordering_then (ordering_then a b) c ≡ ordering_then a (ordering_then b c)
then_then Less b c = refl
then_then Equal b c = refl
then_then Greater b c = refl

pub then_equal : (a : Ordering) → ordering_then a Equal ≡ a
then_equal Less = refl
then_equal Equal = refl
then_equal Greater = refl

-- two orders that agree where the first number is level
pub then_same : (a b : ℕ) (o p : Ordering) → (a ≡ b → o ≡ p) → ordering_then (nat_cmp a b) o ≡ ordering_then (nat_cmp a b) p
then_same a b o p f = go (tri a b)
  where
    go : Tri a b → ordering_then (nat_cmp a b) o ≡ ordering_then (nat_cmp a b) p
    go (below l) = ap (λ r. ordering_then r o) (is_less a b l) ∙ sym (ap (λ r. ordering_then r p) (is_less a b l))
    go (level l) = ap (λ r. ordering_then r o) (is_equal a b l) ∙ f l ∙ sym (ap (λ r. ordering_then r p) (is_equal a b l))
    go (above l) = ap (λ r. ordering_then r o) (is_greater a b l) ∙ sym (ap (λ r. ordering_then r p) (is_greater a b l))

-- one side of a cut and the other
abbrev pub Cut : ℕ → (ℕ → ℕ) → (ℕ → ℕ) → (ℕ → ℕ) → Type 0
Cut n now new side = (u v : ℕ) → u < n → v < n → nat_cmp (new u) (new v) ≡ ordering_then (nat_cmp (now u) (now v)) (nat_cmp (side u) (side v))

-- The class c is cut at its group s: the groups from t to s end. Outside of its worlds in groups from t on the side is e.
module _ (n : ℕ) (old g now new side : ℕ → ℕ) (t s c e : ℕ) (t_s : t ≤ s)
    (refined : Refined n old g now t) (cut : Cut n now new side)
    (low : (u : ℕ) → u < n → old u ≡ c → g u ≡ s → side u ≡ 0)
    (high : (u : ℕ) → u < n → old u ≡ c → s < g u → side u ≡ 1)
    (done : (u : ℕ) → u < n → old u ≡ c → g u < t → side u ≡ e)
    (outside : (u : ℕ) → u < n → old u ≢ c → side u ≡ e)
    (gap : (u : ℕ) → u < n → old u ≡ c → (g u < t) ⊎ (s ≤ g u))
    (others : (u v : ℕ) → u < n → v < n → old u ≡ old v → old u ≢ c → (g u ≡ g v) ⊎ (((g u < t) ⊎ (s < g u)) × ((g v < t) ⊎ (s < g v)))) where
  -- two worlds that are both on the side e
  level_sides : (u v : ℕ) → side u ≡ e → side v ≡ e → (g u ≡ g v) ⊎ (((g u < t) ⊎ (s < g u)) × ((g v < t) ⊎ (s < g v))) →
      ordering_then (nat_cmp (min (g u) t) (min (g v) t)) (nat_cmp (side u) (side v)) ≡ nat_cmp (min (g u) (s + 1)) (min (g v) (s + 1))
  level_sides u v p q (inl h) =
      then_cmp (min (g u) t) (min (g v) t) (side u) (side v) (min (g u) (s + 1)) (min (g v) (s + 1))
      (λ l. absurd (omega (arith, h, l))) (λ l. absurd (omega (arith, h, l)))
      (λ _ l. absurd (omega (arith, p, q, l))) (λ _ l. absurd (omega (arith, p, q, l))) (λ _ _. ap (λ z. min z (s + 1)) h)
  level_sides u v p q (inr (inl a, inl b)) =
      then_cmp (min (g u) t) (min (g v) t) (side u) (side v) (min (g u) (s + 1)) (min (g v) (s + 1))
      (λ l. omega (arith, a, b, l, t_s)) (λ l. omega (arith, a, b, l, t_s))
      (λ _ l. absurd (omega (arith, p, q, l))) (λ _ l. absurd (omega (arith, p, q, l))) (λ l _. omega (arith, a, b, l, t_s))
  level_sides u v p q (inr (inl a, inr b)) =
      then_cmp (min (g u) t) (min (g v) t) (side u) (side v) (min (g u) (s + 1)) (min (g v) (s + 1))
      (λ l. omega (arith, a, b, t_s)) (λ l. absurd (omega (arith, a, b, l, t_s)))
      (λ l _. absurd (omega (arith, a, b, l, t_s))) (λ l _. absurd (omega (arith, a, b, l, t_s))) (λ l _. absurd (omega (arith, a, b, l, t_s)))
  level_sides u v p q (inr (inr a, inl b)) =
      then_cmp (min (g u) t) (min (g v) t) (side u) (side v) (min (g u) (s + 1)) (min (g v) (s + 1))
      (λ l. absurd (omega (arith, a, b, l, t_s))) (λ l. omega (arith, a, b, t_s))
      (λ l _. absurd (omega (arith, a, b, l, t_s))) (λ l _. absurd (omega (arith, a, b, l, t_s))) (λ l _. absurd (omega (arith, a, b, l, t_s)))
  level_sides u v p q (inr (inr a, inr b)) =
      then_cmp (min (g u) t) (min (g v) t) (side u) (side v) (min (g u) (s + 1)) (min (g v) (s + 1))
      (λ l. absurd (omega (arith, a, b, l, t_s))) (λ l. absurd (omega (arith, a, b, l, t_s)))
      (λ _ l. absurd (omega (arith, p, q, l))) (λ _ l. absurd (omega (arith, p, q, l))) (λ _ _. omega (arith, a, b))

  -- where a world of the class c stands
  data At (u : ℕ) : Type 0 where
    ended : g u < t → side u ≡ e → At u
    here : g u ≡ s → side u ≡ 0 → At u
    later : s < g u → side u ≡ 1 → At u

  at : (u : ℕ) → u < n → old u ≡ c → At u
  at u b q = ⊎_elim (λ (l : g u < t). ended l (done u b q l)) (λ (l : s ≤ g u). upper l (tri s (g u))) (gap u b q)
    where
      upper : s ≤ g u → Tri s (g u) → At u
      upper l (below m) = later m (high u b q m)
      upper l (level m) = here (sym m) (low u b q (sym m))
      upper l (above m) = absurd (omega (arith, l, m))

  class_sides : (u v : ℕ) → At u → At v → ordering_then (nat_cmp (min (g u) t) (min (g v) t)) (nat_cmp (side u) (side v)) ≡ nat_cmp (min (g u) (s + 1)) (min (g v) (s + 1))
  class_sides u v (ended a p) (ended b q) = level_sides u v p q (inr (inl a, inl b))
  class_sides u v (ended a p) (here b q) =
      then_cmp (min (g u) t) (min (g v) t) (side u) (side v) (min (g u) (s + 1)) (min (g v) (s + 1))
      (λ l. omega (arith, a, b, t_s)) (λ l. absurd (omega (arith, a, b, l, t_s)))
      (λ l _. absurd (omega (arith, a, b, l, t_s))) (λ l _. absurd (omega (arith, a, b, l, t_s))) (λ l _. absurd (omega (arith, a, b, l, t_s)))
  class_sides u v (ended a p) (later b q) =
      then_cmp (min (g u) t) (min (g v) t) (side u) (side v) (min (g u) (s + 1)) (min (g v) (s + 1))
      (λ l. omega (arith, a, b, t_s)) (λ l. absurd (omega (arith, a, b, l, t_s)))
      (λ l _. absurd (omega (arith, a, b, l, t_s))) (λ l _. absurd (omega (arith, a, b, l, t_s))) (λ l _. absurd (omega (arith, a, b, l, t_s)))
  class_sides u v (here a p) (ended b q) =
      then_cmp (min (g u) t) (min (g v) t) (side u) (side v) (min (g u) (s + 1)) (min (g v) (s + 1))
      (λ l. absurd (omega (arith, a, b, l, t_s))) (λ l. omega (arith, a, b, t_s))
      (λ l _. absurd (omega (arith, a, b, l, t_s))) (λ l _. absurd (omega (arith, a, b, l, t_s))) (λ l _. absurd (omega (arith, a, b, l, t_s)))
  class_sides u v (later a p) (ended b q) =
      then_cmp (min (g u) t) (min (g v) t) (side u) (side v) (min (g u) (s + 1)) (min (g v) (s + 1))
      (λ l. absurd (omega (arith, a, b, l, t_s))) (λ l. omega (arith, a, b, t_s))
      (λ l _. absurd (omega (arith, a, b, l, t_s))) (λ l _. absurd (omega (arith, a, b, l, t_s))) (λ l _. absurd (omega (arith, a, b, l, t_s)))
  class_sides u v (here a p) (here b q) = level_sides_as u v p q (a ∙ sym b)
    where
      level_sides_as : (u v : ℕ) → side u ≡ 0 → side v ≡ 0 → g u ≡ g v → ordering_then (nat_cmp (min (g u) t) (min (g v) t)) (nat_cmp (side u) (side v)) ≡ nat_cmp (min (g u) (s + 1)) (min (g v) (s + 1))
      level_sides_as u v p q h =
          then_cmp (min (g u) t) (min (g v) t) (side u) (side v) (min (g u) (s + 1)) (min (g v) (s + 1))
          (λ l. absurd (omega (arith, h, l))) (λ l. absurd (omega (arith, h, l)))
          (λ _ l. absurd (omega (arith, p, q, l))) (λ _ l. absurd (omega (arith, p, q, l))) (λ _ _. ap (λ z. min z (s + 1)) h)
  class_sides u v (here a p) (later b q) =
      then_cmp (min (g u) t) (min (g v) t) (side u) (side v) (min (g u) (s + 1)) (min (g v) (s + 1))
      (λ l. absurd (omega (arith, a, b, l, t_s))) (λ l. absurd (omega (arith, a, b, l, t_s)))
      (λ _ l. omega (arith, a, b)) (λ _ l. absurd (omega (arith, p, q, l))) (λ _ l. absurd (omega (arith, p, q, l)))
  class_sides u v (later a p) (here b q) =
      then_cmp (min (g u) t) (min (g v) t) (side u) (side v) (min (g u) (s + 1)) (min (g v) (s + 1))
      (λ l. absurd (omega (arith, a, b, l, t_s))) (λ l. absurd (omega (arith, a, b, l, t_s)))
      (λ _ l. absurd (omega (arith, p, q, l))) (λ _ l. omega (arith, a, b)) (λ _ l. absurd (omega (arith, p, q, l)))
  class_sides u v (later a p) (later b q) =
      then_cmp (min (g u) t) (min (g v) t) (side u) (side v) (min (g u) (s + 1)) (min (g v) (s + 1))
      (λ l. absurd (omega (arith, a, b, l, t_s))) (λ l. absurd (omega (arith, a, b, l, t_s)))
      (λ _ l. absurd (omega (arith, p, q, l))) (λ _ l. absurd (omega (arith, p, q, l))) (λ _ _. omega (arith, a, b))

  same_or_not : (a b : ℕ) → (a ≡ b) ⊎ (a ≢ b)
  same_or_not a b = grind arith

  pub cut_group : Refined n old g new (s + 1)
  cut_group u v a b =
      cut u v a b ∙ ap (λ o. ordering_then o (nat_cmp (side u) (side v))) (refined u v a b)
      ∙ then_then (nat_cmp (old u) (old v)) (nat_cmp (min (g u) t) (min (g v) t)) (nat_cmp (side u) (side v))
      ∙ then_same (old u) (old v) _ _
      (λ q. ⊎_elim
      (λ (h : old u ≡ c). class_sides u v (at u a h) (at v b (sym q ∙ h)))
      (λ (h : old u ≢ c). level_sides u v (outside u a h) (outside v b (λ p. h (q ∙ p))) (others u v a b q h))
      (same_or_not (old u) c))
