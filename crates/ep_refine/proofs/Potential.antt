-- The bound on signatures: what was signed and is still due is paid by how often worlds lay in pieces that were not kept.
use Rattle.std.proofs.Common.{◌≡◌, ◌≢◌, ℕ, zero, suc, ◌<◌, ◌≤◌, ◌+◌, ◌*◌, ◌^◌, Bool, true, false, cond, refl, sym, ap, ap₂, subst, ◌∙◌, arith, ◌⊎◌, ⊎_elim, lt-suc_self, mul-le-mul_left, pow-suc, mul_assoc, mul_comm, le_trans, pow_mono, mul-suc}
use Rattle.ep_theory.proofs.CallerLemmas.{last_or_before}
use Rattle.ep_theory.specs.Kripke.{Kripke}
use Rattle.ep_theory.specs.Fits.{link_count}
use Rattle.ep_refine.specs.Bound.{FewSigned, sum_below}

pub sum_same : (f g : ℕ → ℕ) (n : ℕ) → ((x : ℕ) → x < n → g x ≡ f x) → sum_below g n ≡ sum_below f n
sum_same f g zero h = refl
sum_same f g (suc n) h = ap₂ (λ a b. a + b) (sum_same f g n (λ x l. h x (omega arith))) (h n (lt-suc_self n))

-- one value more
pub sum_bump : (f g : ℕ → ℕ) (n w d : ℕ) → w < n → g w ≡ f w + d → ((x : ℕ) → x < n → x ≢ w → g x ≡ f x) → sum_below g n ≡ sum_below f n + d
sum_bump f g zero w d l e h = absurd (omega arith)
sum_bump f g (suc n) w d l e h = ⊎_elim
    (λ (q : w ≡ n).
    let a : sum_below g n ≡ sum_below f n = sum_same f g n (λ x b. h x (omega arith) (λ p. absurd (omega arith))) in
    let b : g n ≡ f n + d = subst (λ m. g m ≡ f m + d) q e in
    omega arith)
    (λ (m : w < n).
    let a : sum_below g n ≡ sum_below f n + d = sum_bump f g n w d m e (λ x b. h x (omega arith)) in
    let b : g n ≡ f n = h n (lt-suc_self n) (λ p. absurd (omega arith)) in
    omega arith)
    (last_or_before w n l)

-- the weights of the numbers that pass
abbrev pub weight : (ℕ → ℕ) → (ℕ → Bool) → ℕ → ℕ
weight f test n = sum_below (λ x. cond (test x) (f x) 0) n

-- one hit more where the test passes
abbrev pub hit : (ℕ → Bool) → (ℕ → ℕ) → ℕ → ℕ
hit test hits x = cond (test x) (suc (hits x)) (hits x)

hit_once : (b : Bool) (a h : ℕ) → a * cond b (suc h) h ≡ a * h + cond b a 0
hit_once true a h = mul-suc a h
hit_once false a h = omega arith

pub sum_hits : (f hits : ℕ → ℕ) (test : ℕ → Bool) (n : ℕ) →
    sum_below (λ x. f x * hit test hits x) n ≡ sum_below (λ x. f x * hits x) n + weight f test n
sum_hits f hits test zero = omega arith
sum_hits f hits test (suc n) =
    let a = sum_hits f hits test n in
    let b : f n * hit test hits n ≡ f n * hits n + cond (test n) (f n) 0 = hit_once (test n) (f n) (hits n) in
    omega (arith, a, b)

sum_most : (f hits : ℕ → ℕ) (k n : ℕ) → ((x : ℕ) → x < n → hits x ≤ k) → sum_below (λ x. f x * hits x) n ≤ sum_below f n * k
sum_most f hits k zero h = omega arith
sum_most f hits k (suc n) h =
    let a = sum_most f hits k n (λ x l. h x (omega arith)) in
    let b : f n * hits n ≤ f n * k = mul-le-mul_left (f n) (h n (lt-suc_self n)) in
    let c : (sum_below f n + f n) * k ≡ sum_below f n * k + f n * k = distributes (sum_below f n) (f n) k in
    omega (arith, a, b, c)
  where
    distributes : (a b c : ℕ) → (a + b) * c ≡ a * c + b * c
    distributes a b c = grind arith

-- Of n worlds, world x stands in a class of size x and has f x links to it. What was signed since the count was `before`, and twice what is due,
-- is at most n and two for each link and each time that its target lay in a piece that was not kept; each such time at least halved the class.
pub record Budget (n : ℕ) (size f : ℕ → ℕ) (before now due : ℕ) : Type 0 where
  pub hits : ℕ → ℕ
  pub halved : (x : ℕ) → x < n → 2 ^ hits x * size x ≤ n
  pub paid : now + 2 * due ≤ before + n + 2 * sum_below (λ x. f x * hits x) n

no_hits : (f : ℕ → ℕ) (n : ℕ) → sum_below (λ x. f x * 0) n ≡ 0
no_hits f zero = refl
no_hits f (suc n) = let a = no_hits f n in omega (arith, a)

-- the first round
pub budget_first : (n : ℕ) (size f : ℕ → ℕ) (before now : ℕ) → ((x : ℕ) → x < n → size x ≤ n) → now ≤ before + n → Budget n size f before now 0
budget_first n size f before now h l = record {
  hits = λ _. 0;
  halved = λ x b. let a = h x b in omega (arith, a);
  paid = let a = no_hits f n in omega (arith, a, l);
}

-- what was due is signed
pub budget_spend : (n : ℕ) (size f : ℕ → ℕ) (before now due later : ℕ) → later ≤ now + 2 * due → Budget n size f before now due → Budget n size f before later 0
budget_spend n size f before now due later l b = record {
  hits = b.hits;
  halved = b.halved;
  paid = let p = b.paid in omega (arith, p, l);
}

moved_case : (h s t n : ℕ) → 2 ^ h * s ≤ n → 2 * t ≤ s → 2 ^ suc h * t ≤ n
moved_case h s t n f g =
    let e : 2 ^ suc h * t ≡ 2 ^ h * (2 * t) = ap (λ z. z * t) (pow-suc 2 h) ∙ mul_assoc (2 ^ h) 2 t in
    let k : 2 ^ h * (2 * t) ≤ n = le_trans (mul-le-mul_left (2 ^ h) g) f in
    omega (arith, e, k)

halved_step : (b : Bool) (h s t n : ℕ) → 2 ^ h * s ≤ n → t ≤ s → (b ≡ true → 2 * t ≤ s) → 2 ^ cond b (suc h) h * t ≤ n
halved_step true h s t n f g m = moved_case h s t n f (m refl)
halved_step false h s t n f g m = le_trans (mul-le-mul_left (2 ^ h) g) f

-- classes split: of those that moved to a piece that is not kept, the class is at most half as large
pub budget_split : (n : ℕ) (size after f : ℕ → ℕ) (moved : ℕ → Bool) (before now due : ℕ) →
    ((x : ℕ) → x < n → after x ≤ size x) → ((x : ℕ) → x < n → moved x ≡ true → 2 * after x ≤ size x) → due ≤ weight f moved n →
    Budget n size f before now 0 → Budget n after f before now due
budget_split n size after f moved before now due shrinks halves l b = record {
  hits = hit moved b.hits;
  halved = λ x c. halved_step (moved x) (b.hits x) (size x) (after x) n (b.halved x c) (shrinks x c) (halves x c);
  paid = let p = b.paid in let s = sum_hits f b.hits moved n in omega (arith, p, s, l);
}

le_or_lt : (m n : ℕ) → (m ≤ n) ⊎ (n < m)
le_or_lt m n = grind arith

few_hits : (k h s n : ℕ) → n < 2 ^ (k + 1) → 2 ^ h * s ≤ n → 1 ≤ s → h ≤ k
few_hits k h s n b f g = ⊎_elim (λ (l : h ≤ k). l)
    (λ (l : k < h).
    let p : 2 ^ (k + 1) ≤ 2 ^ h = pow_mono (omega arith) in
    let q : 2 ^ h * 1 ≤ 2 ^ h * s = mul-le-mul_left (2 ^ h) g in
    absurd (omega (arith, p, q, b, f)))
    (le_or_lt h k)

pub budget_end : (S : Kripke) (size f : ℕ → ℕ) (before now due : ℕ) → ((x : ℕ) → x < S.worlds → 1 ≤ size x) → sum_below f S.worlds ≡ link_count S →
    Budget S.worlds size f before now due → FewSigned S before now
budget_end S size f before now due some links b k log =
    let s = sum_most f b.hits k S.worlds (λ x l. few_hits k (b.hits x) (size x) S.worlds log.1 (b.halved x l) (some x l)) in
    let p = b.paid in
    let e : 2 * k * link_count S ≡ 2 * (sum_below f S.worlds * k) = ap (λ l. 2 * k * l) (sym links) ∙ turned k (sum_below f S.worlds) in
    omega (arith, s, p, e)
  where
    turned : (k l : ℕ) → 2 * k * l ≡ 2 * (l * k)
    turned k l = mul_assoc 2 k l ∙ ap (λ z. 2 * z) (mul_comm k l)
