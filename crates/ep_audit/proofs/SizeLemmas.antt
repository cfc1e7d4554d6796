-- How large a product may be.
use Rattle.std.proofs.Common.{◌≡◌, ℕ, zero, suc, ◌+◌, ◌*◌, ◌≤◌, Bool, List, [], ◌∷◌, map, length, sum_by, ap, ◌∙◌, arith}
use Rattle.std.proofs.Math.Nat.{mul-le-mul_left, mul_comm}
use Rattle.std.proofs.lemmas.List.{length-append, length-map}
use Rattle.std.proofs.lemmas.List.Sums.{sum_by-append}
use Rattle.ep_logic.specs.Numbers.{numbers_where, pairs_within, table}
use Rattle.ep_theory.specs.Kripke.{Kripke}
use Rattle.ep_theory.specs.Events.{EventModel}
use Rattle.ep_theory.specs.Fits.{link_count}
use Rattle.ep_theory.specs.Product.{places, place_at, applies, links_both, product_of}
use Rattle.ep_update.proofs.CallerLemmas.{length-numbers_where}

one_more : (k n m x y : ℕ) → k ≤ m * n → x ≤ n → y ≡ k + x → y ≤ suc m * n
one_more k n m x y h le e = omega (arith, mul_comm m n, mul_comm (suc m) n)

pub length-pairs_within : (r : ℕ → ℕ → Bool) (n m : ℕ) → length (pairs_within r n m) ≤ m * n
length-pairs_within r n zero = omega arith
length-pairs_within r n (suc m) =
    one_more (length (pairs_within r n m)) n m (length (numbers_where (r m) n)) (length (pairs_within r n (suc m))) (length-pairs_within r n m) (length-numbers_where (r m) n)
    (length-append (pairs_within r n m) (map {A = ℕ} {B = ℕ × ℕ} (λ j. (m, j)) (numbers_where (r m) n)) ∙ ap (λ k. length (pairs_within r n m) + k) (length-map {A = ℕ} {B = ℕ × ℕ} (numbers_where (r m) n) (λ j. (m, j))))

pub sum_by-table : {A : Type 0} (f : ℕ → List A) (b : ℕ) → ((a : ℕ) → length (f a) ≤ b) → (n : ℕ) → sum_by length (table f n) ≤ n * b
sum_by-table f b h zero = omega arith
sum_by-table f b h (suc n) =
    one_more (sum_by length (table f n)) b n (length (f n)) (sum_by length (table f (suc n))) (sum_by-table f b h n) (h n)
    (sum_by-append length (table f n) (f n ∷ []) ∙ omega arith)

times : (a b c d : ℕ) → a ≤ c → b ≤ d → a * b ≤ c * d
times a b c d h k = omega (arith, mul-le-mul_left a k, mul-le-mul_left d h, mul_comm a d, mul_comm c d)

-- for a state of at most n worlds and an action of at most m events
pub product_worlds : (S : Kripke) (A : EventModel) (n m : ℕ) → S.worlds ≤ n → length A.events ≤ m → (product_of S A).worlds ≤ n * m
unfolding places
product_worlds S A n m h k =
    omega (arith, length-pairs_within (applies S A) (length A.events) S.worlds, times S.worlds (length A.events) n m h k)

-- for a product of at most n worlds among at most m agents
pub product_links : (S : Kripke) (A : EventModel) (n m : ℕ) → (product_of S A).worlds ≤ n → S.agents ≤ m → link_count (product_of S A) ≤ m * (n * n)
product_links S A n m h k = all (length (places S A)) h
  where
    all : (l : ℕ) → l ≤ n → sum_by length (table (λ a. pairs_within (λ i j. links_both S A a (place_at S A i) (place_at S A j)) l l) S.agents) ≤ m * (n * n)
    all l le =
        omega (
          arith,
          sum_by-table (λ a. pairs_within (λ i j. links_both S A a (place_at S A i) (place_at S A j)) l l) (l * l) (λ a. length-pairs_within (λ i j. links_both S A a (place_at S A i) (place_at S A j)) l l) S.agents,
          times S.agents (l * l) m (n * n) k (times l l n n le le),
        )
