-- A world is reached exactly if it is reached within as many links as there are worlds.
use Rattle.std.proofs.Common.{◌≡◌, ℕ, zero, suc, ◌<◌, ◌≤◌, Bool, true, ◌&&◌, ◌==◌, refl, subst, arith, ◌⊎◌, inl, inr, ⊎_elim, zero-le, List, IsTrue, get_or, [], ◌∷◌}
use Rattle.ep_theory.specs.Rising.{IsIn}
use Rattle.ep_theory.specs.Kripke.{Kripke, IsState, links_of}
use Rattle.ep_theory.specs.Canonical.{Reached, start, step}
use Rattle.std.specs.List.{list_any}
use Rattle.ep_theory.specs.Contraction.{reached_within, is_reached}
use Rattle.ep_theory.proofs.lists.Counting.{count, count-bound, count-tight}
use Rattle.ep_theory.proofs.lists.Lists.{equal_from_test, test_itself}
use Rattle.ep_theory.proofs.lists.Filters.{to_any, from_any}
use Rattle.ep_theory.proofs.lists.Bools.{and_parts, and_whole, or_left, or_right, or_parts}
use Rattle.ep_theory.proofs.states.Unique.{links_within}

-- ever larger sets of numbers below n are the same from step n on
module _ (n : ℕ) (p : ℕ → ℕ → Bool) (up : (k i : ℕ) → p k i ≡ true → p (suc k) i ≡ true)
    (stays : (k : ℕ) → ((i : ℕ) → i < n → p (suc k) i ≡ true → p k i ≡ true) → (i : ℕ) → i < n → p (suc (suc k)) i ≡ true → p (suc k) i ≡ true) where
  le_or_lt : (m l : ℕ) → (m ≤ l) ⊎ (l < m)
  le_or_lt m l = grind arith

  full_or_many : (k : ℕ) → ((i : ℕ) → i < n → p (suc k) i ≡ true → p k i ≡ true) ⊎ (k ≤ count (p k) n)
  full_or_many zero = inr zero-le
  full_or_many (suc k) = ⊎_elim
      (λ (f : (i : ℕ) → i < n → p (suc k) i ≡ true → p k i ≡ true). inl (stays k f))
      (λ (h : k ≤ count (p k) n). ⊎_elim
      (λ (g : count (p (suc k)) n ≤ count (p k) n). inl (stays k (count-tight (p k) (p (suc k)) n (λ i _ e. up k i e) g)))
      (λ (g : count (p k) n < count (p (suc k)) n). inr (omega arith))
      (le_or_lt (count (p (suc k)) n) (count (p k) n)))
      (full_or_many k)

  pub full : (i : ℕ) → i < n → p (suc n) i ≡ true → p n i ≡ true
  full = ⊎_elim
      (λ (f : (i : ℕ) → i < n → p (suc n) i ≡ true → p n i ≡ true). f)
      (λ (h : n ≤ count (p n) n).
      let b : count (p (suc n)) n ≤ n = count-bound (p (suc n)) n in
      count-tight (p n) (p (suc n)) n (λ i _ e. up n i e) (omega arith))
      (full_or_many n)

-- a list of the lists is the one of some agent
agent_of : {A : Type 0} (l : List A) (ls : List (List A)) → IsIn l ls → (a : ℕ) × (l ≡ get_or ls a [])
agent_of l [] i = absurd i
agent_of l (x ∷ xs) (inl q) = (0, q)
agent_of l (x ∷ xs) (inr i) = let r = agent_of l xs i in (suc r.0, r.1)

list_of : {A : Type 0} (x : A) (ls : List (List A)) (a : ℕ) → IsIn x (get_or ls a []) → IsIn (get_or ls a []) ls
list_of x [] a i = absurd i
list_of x (l ∷ ls) zero i = inl refl
list_of x (l ∷ ls) (suc a) i = inr (list_of x ls a i)

module _ (S : Kripke) (s : IsState S) where
  -- one more link
  abbrev linked_from : ℕ → ℕ → Bool
  linked_from k w = list_any (λ pairs. list_any (λ p. (p.1 == w) && reached_within S k p.0) pairs) S.links

  to_linked : (k a u w : ℕ) → IsIn (u, w) (links_of S a) → reached_within S k u ≡ true → linked_from k w ≡ true
  to_linked k a u w i h = to_any _ (links_of S a) S.links (list_of (u, w) S.links a i) (to_any {A = ℕ × ℕ} _ (u, w) (links_of S a) i (and_whole (w == w) (reached_within S k u) (test_itself w) h))

  from_linked : (k w : ℕ) → linked_from k w ≡ true → (a u : ℕ) × IsIn (u, w) (links_of S a) × (reached_within S k u ≡ true)
  from_linked k w h =
      let l = from_any (λ pairs. list_any (λ p. (p.1 == w) && reached_within S k p.0) pairs) S.links h in
      let p = from_any (λ p. (p.1 == w) && reached_within S k p.0) l.0 l.2 in
      let b = and_parts (p.0.1 == w) (reached_within S k p.0.0) p.2 in
      let a = agent_of l.0 S.links l.1 in
      let i : IsIn p.0 (links_of S a.0) = subst (λ t. IsIn p.0 t) a.1 p.1 in
      (a.0, p.0.0, subst (λ t. IsIn {A = ℕ × ℕ} (p.0.0, t) (links_of S a.0)) (equal_from_test p.0.1 w b.0) i, b.1)

  up : (k w : ℕ) → reached_within S k w ≡ true → reached_within S (suc k) w ≡ true
  up k w h = or_left (reached_within S k w) (linked_from k w) h

  stays : (k : ℕ) → ((i : ℕ) → i < S.worlds → reached_within S (suc k) i ≡ true → reached_within S k i ≡ true) → (i : ℕ) → i < S.worlds → reached_within S (suc (suc k)) i ≡ true → reached_within S (suc k) i ≡ true
  stays k f i b h = ⊎_elim
      (λ (g : reached_within S (suc k) i ≡ true). g)
      (λ (g : linked_from (suc k) i ≡ true).
      let r = from_linked (suc k) i g in
      or_right (reached_within S k i) (linked_from k i) (to_linked k r.0 r.1 i r.2 (f r.1 (links_within S s r.0 r.1 i r.2).0 r.3)))
      (or_parts (reached_within S (suc k) i) (linked_from (suc k) i) h)

  start_later : (k w : ℕ) → reached_within S 0 w ≡ true → reached_within S k w ≡ true
  start_later zero w h = h
  start_later (suc k) w h = up k w (start_later k w h)

  pub reached_from_test : (k w : ℕ) → reached_within S k w ≡ true → Reached S w
  reached_from_test zero w h =
      let r = from_any (λ d. d == w) S.designated h in
      start (subst (λ t. IsIn t S.designated) (equal_from_test r.0 w r.2) r.1)
  reached_from_test (suc k) w h = ⊎_elim
      (λ (g : reached_within S k w ≡ true). reached_from_test k w g)
      (λ (g : linked_from k w ≡ true). let r = from_linked k w g in step r.0 r.1 (reached_from_test k r.1 r.3) r.2)
      (or_parts (reached_within S k w) (linked_from k w) h)

  pub test_from_reached : (w : ℕ) → Reached S w → IsTrue (is_reached S w)
  test_from_reached w (start i) = start_later S.worlds w (to_any (λ d. d == w) w S.designated i (test_itself w))
  test_from_reached w (step a u r i) =
      full S.worlds (reached_within S) up stays w (links_within S s a u w i).1
      (or_right (reached_within S S.worlds w) (linked_from S.worlds w) (to_linked S.worlds a u w i (test_from_reached u r)))
