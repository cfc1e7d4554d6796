-- Slices of a list of worlds.
use Rattle.ep_refine.specs.Blocks.{AreOfOne}
use Rattle.ep_refine.specs.Groups.{IsWithin, AreDistinct}
use Rattle.std.proofs.Common.{◌⊎◌, ⊎_elim, ◌≡◌, ℕ, ◌<◌, ◌≤◌, ◌+◌, ◌-◌, List, length, get_or, drop, sym, ap, subst, ◌∙◌, arith, length-drop}
use Rattle.std.specs.List.{slice_range}
use Rattle.std.proofs.lemmas.List.{length-take-le, get_or_default, get_or-take, get_or-drop}
use Rattle.ep_theory.specs.Rising.{IsIn}
use Rattle.ep_theory.proofs.CallerLemmas.{IsIn-at, Contains-from_in}

module _ (ws : List ℕ) (i j : ℕ) (i_j : i ≤ j) (j_in : j ≤ length ws) where
  pub slice_len : length (slice_range ws i j) ≡ j - i
  slice_len = length-take-le (j - i) (drop i ws) (let e = length-drop i ws in omega (arith, e))

  pub slice_at : (k : ℕ) → k < j - i → get_or (slice_range ws i j) k 0 ≡ get_or ws (i + k) 0
  slice_at k l = get_or-take (j - i) (drop i ws) k 0 l ∙ get_or-drop i ws k 0

  pub in_slice : (k : ℕ) → i ≤ k → k < j → IsIn (get_or ws k 0) (slice_range ws i j)
  in_slice k f t =
      let e : i + (k - i) ≡ k = omega arith in
      let b : k - i < j - i = omega arith in
      subst (λ u. IsIn u (slice_range ws i j)) (slice_at (k - i) b ∙ ap (λ m. get_or ws m 0) e) (IsIn-at (slice_range ws i j) (k - i) 0 (let n = slice_len in omega (arith, n, b)))

  pub from_slice : (u : ℕ) → IsIn u (slice_range ws i j) → (k : ℕ) × (i ≤ k) × (k < j) × (get_or ws k 0 ≡ u)
  from_slice u x =
      let r = Contains-from_in u (slice_range ws i j) x in
      let b : r.0 < j - i = (let n = slice_len in let l = r.1 in omega (arith, n, l)) in
      (i + r.0, omega arith, omega (arith, b), sym (slice_at r.0 b) ∙ get_or_default (slice_range ws i j) r.0 0 u r.1 ∙ r.2)

  pub slice_of_one : (n : ℕ) (rank : ℕ → ℕ) (x : ℕ) → IsWithin n ws → AreDistinct ws → ((k : ℕ) → i ≤ k → k < j → rank (get_or ws k 0) ≡ x) → AreOfOne n rank (slice_range ws i j)
  slice_of_one n rank x within distinct one = record {
    within = λ k l. let b : k < j - i = (let e = slice_len in omega (arith, e, l)) in subst (λ u. u < n) (sym (slice_at k b)) (within (i + k) (omega (arith, b)));
    distinct = λ k m l b q.
        let c : m < j - i = (let e = slice_len in omega (arith, e, b)) in
        distinct (i + k) (i + m) (omega arith) (omega (arith, c)) (sym (slice_at k (omega (arith, c, l))) ∙ q ∙ slice_at m c);
    one = λ k l.
        let b : k < j - i = (let e = slice_len in omega (arith, e, l)) in
        ap rank (slice_at k b) ∙ one (i + k) (omega arith) (omega (arith, b)) ∙ sym (ap rank (slice_at 0 (omega (arith, b))) ∙ one (i + 0) (omega arith) (omega (arith, b)));
  }

  pub first_of_slice : i < j → get_or (slice_range ws i j) 0 0 ≡ get_or ws i 0
  first_of_slice l = slice_at 0 (omega arith) ∙ (let e : i + 0 ≡ i = omega arith in ap (λ k. get_or ws k 0) e)

  pub not_in_slice : AreDistinct ws → (x : ℕ) → x < length ws → (x < i) ⊎ (j ≤ x) → IsIn (get_or ws x 0) (slice_range ws i j) → ⊥
  not_in_slice distinct x b h m =
      let k = from_slice (get_or ws x 0) m in
      ⊎_elim (λ (l : x < i). distinct x k.0 (let f = k.1 in omega (arith, f, l)) (let t = k.2 in omega (arith, t)) (sym k.3))
      (λ (l : j ≤ x). distinct k.0 x (let t = k.2 in omega (arith, t, l)) b k.3) h
