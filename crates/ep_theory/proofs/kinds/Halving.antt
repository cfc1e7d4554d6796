-- How often a world can lie in a piece that is not kept, and what that says of the number of signatures.
use Rattle.std.proofs.Common.{◌≡◌, ℕ, zero, suc, ◌<◌, ◌≤◌, ◌+◌, ◌*◌, ◌^◌, List, [], ◌∷◌, Bool, true, false, cond, refl, sym, ap, subst, ◌∙◌, arith, ◌⊎◌, ⊎_elim, length, lt-suc_self, mul-le-mul_left, pow-suc, mul_assoc, le_trans, pow_mono, mul-suc, ◌≢◌}
use Rattle.std.specs.List.{AllByRecursion}
use Rattle.ep_theory.specs.Kripke.{Kripke}
use Rattle.ep_theory.specs.Kind.{kind}
use Rattle.ep_theory.proofs.lists.Counting.{count, last_or_before, count-le, count-bound}
use Rattle.ep_theory.proofs.kinds.Points.{same_kind, from_same_kind, to_same_kind, same_kind-itself}

-- two tests that no number passes both, and that each imply a third
disjoint_step : (a b c : Bool) (l m n : ℕ) → (a ≡ true → c ≡ true) → (b ≡ true → c ≡ true) → (a ≡ true → b ≡ true → ⊥) → l + m ≤ n → cond a (suc l) l + cond b (suc m) m ≤ cond c (suc n) n
disjoint_step true true c l m n f g h k = absurd (h refl refl)
disjoint_step true false true l m n f g h k = omega arith
disjoint_step true false false l m n f g h k = absurd (let e = f refl in cc)
disjoint_step false true true l m n f g h k = omega arith
disjoint_step false true false l m n f g h k = absurd (let e = g refl in cc)
disjoint_step false false true l m n f g h k = omega arith
disjoint_step false false false l m n f g h k = k

pub count-disjoint : (p q r : ℕ → Bool) (n : ℕ) → ((i : ℕ) → i < n → p i ≡ true → r i ≡ true) → ((i : ℕ) → i < n → q i ≡ true → r i ≡ true) → ((i : ℕ) → i < n → p i ≡ true → q i ≡ true → ⊥) → count p n + count q n ≤ count r n
count-disjoint p q r zero f g h = omega arith
count-disjoint p q r (suc n) f g h =
    disjoint_step (p n) (q n) (r n) (count p n) (count q n) (count r n) (f n (lt-suc_self n)) (g n (lt-suc_self n)) (h n (lt-suc_self n))
    (count-disjoint p q r n (λ i l. f i (omega arith)) (λ i l. g i (omega arith)) (λ i l. h i (omega arith)))

pub count_pos : (p : ℕ → Bool) (n i : ℕ) → i < n → p i ≡ true → 0 < count p n
count_pos p zero i l h = absurd (omega arith)
count_pos p (suc n) i l h = ⊎_elim
    (λ (q : i ≡ n). subst (λ b. 0 < cond b (suc (count p n)) (count p n)) (sym (ap p (sym q) ∙ h)) (omega arith))
    (λ (k : i < n). pos_step (p n) (count p n) (count_pos p n i k h))
    (last_or_before i n l)
  where
    pos_step : (b : Bool) (m : ℕ) → 0 < m → 0 < cond b (suc m) m
    pos_step true m h = omega arith
    pos_step false m h = h

le_or_lt : (m n : ℕ) → (m ≤ n) ⊎ (n < m)
le_or_lt m n = grind arith

-- how many of the listed worlds lie in no kept piece
abbrev pub missed : (ℕ → Bool) → List ℕ → ℕ
missed kept [] = 0
missed kept (x ∷ xs) = cond (kept x) (missed kept xs) (suc (missed kept xs))

abbrev total : (ℕ → ℕ) → List ℕ → ℕ
total f [] = 0
total f (x ∷ xs) = f x + total f xs

-- the sum over the rounds before r
abbrev pub spent : (ℕ → ℕ) → ℕ → ℕ
spent signed zero = 0
spent signed (suc r) = spent signed r + signed r

-- in how many rounds before j the world lay in a piece that was not kept
abbrev pub hits : (ℕ → ℕ → Bool) → ℕ → ℕ → ℕ
hits kept zero x = 0
hits kept (suc j) x = cond (kept j x) (hits kept j x) (suc (hits kept j x))

total_step : (b : Bool) (h t m u : ℕ) → u ≡ t + m → cond b h (suc h) + u ≡ (h + t) + cond b m (suc m)
total_step true h t m u q = omega arith
total_step false h t m u q = omega arith

total-hits : (kept : ℕ → ℕ → Bool) (j : ℕ) (xs : List ℕ) → total (hits kept (suc j)) xs ≡ total (hits kept j) xs + missed (kept j) xs
total-hits kept j [] = omega arith
total-hits kept j (x ∷ xs) = total_step (kept j x) (hits kept j x) (total (hits kept j) xs) (missed (kept j) xs) (total (hits kept (suc j)) xs) (total-hits kept j xs)

total-none : (kept : ℕ → ℕ → Bool) (xs : List ℕ) → total (hits kept 0) xs ≡ 0
total-none kept [] = refl
total-none kept (x ∷ xs) = let h = total-none kept xs in omega arith

spent-hits : (kept : ℕ → ℕ → Bool) (xs : List ℕ) (signed : ℕ → ℕ) → ((j : ℕ) → signed j ≤ 2 * missed (kept j) xs) → (r : ℕ) → spent signed r ≤ 2 * total (hits kept r) xs
spent-hits kept xs signed f zero = omega arith
spent-hits kept xs signed f (suc r) =
    let a = spent-hits kept xs signed f r in
    let b = f r in
    let c = total-hits kept r xs in
    omega arith

total_bounded : (f : ℕ → ℕ) (n k : ℕ) → ((x : ℕ) → x < n → f x ≤ k) → (xs : List ℕ) → AllByRecursion (λ x. x < n) xs → total f xs ≤ k * length xs
total_bounded f n k h [] a = omega arith
total_bounded f n k h (x ∷ xs) a =
    let b = h x a.0 in
    let c = total_bounded f n k h xs a.1 in
    let q : k * suc (length xs) ≡ k * length xs + k = mul-suc k (length xs) in
    omega arith

-- size j x is the size of the class of x in round j, and kept j x says whether x lies in a kept piece of the split in round j
module _ (n : ℕ) (size : ℕ → ℕ → ℕ) (kept : ℕ → ℕ → Bool)
    (begins : (x : ℕ) → x < n → size 0 x ≤ n)
    (shrinks : (j x : ℕ) → x < n → size (suc j) x ≤ size j x)
    (halves : (j x : ℕ) → x < n → kept j x ≡ false → 2 * size (suc j) x ≤ size j x)
    (some : (j x : ℕ) → x < n → 1 ≤ size j x) where
  kept_case : (h s t : ℕ) → 2 ^ h * s ≤ n → t ≤ s → 2 ^ h * t ≤ n
  kept_case h s t f g = le_trans (mul-le-mul_left (2 ^ h) g) f

  moved_case : (h s t : ℕ) → 2 ^ h * s ≤ n → 2 * t ≤ s → 2 ^ suc h * t ≤ n
  moved_case h s t f g =
      let e : 2 ^ suc h * t ≡ 2 ^ h * (2 * t) = ap (λ z. z * t) (pow-suc 2 h) ∙ mul_assoc (2 ^ h) 2 t in
      let k : 2 ^ h * (2 * t) ≤ n = le_trans (mul-le-mul_left (2 ^ h) g) f in
      omega arith

  halved_step : (b : Bool) (j x : ℕ) → x < n → kept j x ≡ b → 2 ^ hits kept j x * size j x ≤ n → 2 ^ cond b (hits kept j x) (suc (hits kept j x)) * size (suc j) x ≤ n
  halved_step true j x l e h = kept_case (hits kept j x) (size j x) (size (suc j) x) h (shrinks j x l)
  halved_step false j x l e h = moved_case (hits kept j x) (size j x) (size (suc j) x) h (halves j x l e)

  pub halved : (j x : ℕ) → x < n → 2 ^ hits kept j x * size j x ≤ n
  halved zero x l = let b = begins x l in omega arith
  halved (suc j) x l = halved_step (kept j x) j x l refl (halved j x l)

  pub hits_bounded : (k : ℕ) → n < 2 ^ suc k → (j x : ℕ) → x < n → hits kept j x ≤ k
  hits_bounded k b j x l = ⊎_elim (λ (h : hits kept j x ≤ k). h)
      (λ (h : k < hits kept j x).
      let p : 2 ^ suc k ≤ 2 ^ hits kept j x = pow_mono h in
      let q : 2 ^ hits kept j x * 1 ≤ 2 ^ hits kept j x * size j x = mul-le-mul_left (2 ^ hits kept j x) (some j x l) in
      let r = halved j x l in
      absurd (omega arith))
      (le_or_lt (hits kept j x) k)

  -- at most 2·k signatures for each link, beside those of the first round
  pub signs_bounded : (k : ℕ) → n < 2 ^ suc k → (targets : List ℕ) → AllByRecursion (λ x. x < n) targets → (signed : ℕ → ℕ) → ((j : ℕ) → signed j ≤ 2 * missed (kept j) targets) →
      (r : ℕ) → spent signed r ≤ 2 * (k * length targets)
  signs_bounded k b targets a signed f r =
      let c = spent-hits kept targets signed f r in
      let d : total (hits kept r) targets ≤ k * length targets = total_bounded (hits kept r) n k (hits_bounded k b r) targets a in
      omega arith

-- the classes of kinds, of which the largest piece is kept
abbrev pub class_size : Kripke → ℕ → ℕ → ℕ
class_size S j x = count (λ y. same_kind j (kind S j y) (kind S j x)) S.worlds

pub record IsKept (S : Kripke) (j : ℕ) (kept : ℕ → Bool) : Type 0 where
  -- two worlds of one old class that are kept are in one new class
  pub one : (u x : ℕ) → u < S.worlds → x < S.worlds → kept u ≡ true → kept x ≡ true → kind S j u ≡ kind S j x → kind S (suc j) u ≡ kind S (suc j) x
  -- beside a world that is not kept, the old class has a new class that is no smaller
  pub largest : (x : ℕ) → x < S.worlds → kept x ≡ false → (z : ℕ) × (z < S.worlds) × (kind S j z ≡ kind S j x) × (kind S (suc j) z ≢ kind S (suc j) x) × (class_size S (suc j) x ≤ class_size S (suc j) z)

module _ (S : Kripke) (kept : ℕ → ℕ → Bool) (largest : (j : ℕ) → IsKept S j (kept j)) where
  size_begins : (x : ℕ) → x < S.worlds → class_size S 0 x ≤ S.worlds
  size_begins x l = count-bound (λ y. same_kind 0 (kind S 0 y) (kind S 0 x)) S.worlds

  older : (j y x : ℕ) → same_kind (suc j) (kind S (suc j) y) (kind S (suc j) x) ≡ true → same_kind j (kind S j y) (kind S j x) ≡ true
  older j y x e = to_same_kind j (kind S j y) (kind S j x) (ap (λ z. z.older) (from_same_kind (suc j) (kind S (suc j) y) (kind S (suc j) x) e))

  size_shrinks : (j x : ℕ) → x < S.worlds → class_size S (suc j) x ≤ class_size S j x
  size_shrinks j x l = count-le (λ y. same_kind (suc j) (kind S (suc j) y) (kind S (suc j) x)) (λ y. same_kind j (kind S j y) (kind S j x)) S.worlds (λ y _ e. older j y x e)

  size_some : (j x : ℕ) → x < S.worlds → 1 ≤ class_size S j x
  size_some j x l = count_pos (λ y. same_kind j (kind S j y) (kind S j x)) S.worlds x l (same_kind-itself j (kind S j x))

  size_halves : (j x : ℕ) → x < S.worlds → kept j x ≡ false → 2 * class_size S (suc j) x ≤ class_size S j x
  size_halves j x l e =
      let z = (largest j).largest x l e in
      let c : class_size S (suc j) x + class_size S (suc j) z.0 ≤ class_size S j x =
      count-disjoint (λ y. same_kind (suc j) (kind S (suc j) y) (kind S (suc j) x)) (λ y. same_kind (suc j) (kind S (suc j) y) (kind S (suc j) z.0)) (λ y. same_kind j (kind S j y) (kind S j x)) S.worlds
      (λ y _ h. older j y x h)
      (λ y _ h. to_same_kind j (kind S j y) (kind S j x) (ap (λ t. t.older) (from_same_kind (suc j) (kind S (suc j) y) (kind S (suc j) z.0) h) ∙ z.2))
      (λ y _ h g. z.3 (sym (from_same_kind (suc j) (kind S (suc j) y) (kind S (suc j) z.0) g) ∙ from_same_kind (suc j) (kind S (suc j) y) (kind S (suc j) x) h)) in
      let d : class_size S (suc j) x ≤ class_size S (suc j) z.0 = z.4 in
      omega arith

  pub signatures_bounded : (k : ℕ) → S.worlds < 2 ^ suc k → (targets : List ℕ) → AllByRecursion (λ x. x < S.worlds) targets → (signed : ℕ → ℕ) → ((j : ℕ) → signed j ≤ 2 * missed (kept j) targets) →
      (r : ℕ) → spent signed r ≤ 2 * (k * length targets)
  signatures_bounded = signs_bounded S.worlds (class_size S) kept size_begins size_shrinks size_halves size_some
