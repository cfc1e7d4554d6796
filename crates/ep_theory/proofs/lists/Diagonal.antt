-- Two rising rows of values, and a relation that takes each value of either to an equal value of the other: it is the diagonal.
use Rattle.std.proofs.Common.{◌≡◌, ℕ, zero, suc, ◌<◌, Bool, sym, subst, ◌∙◌, Ordering, Less, arith, ◌⊎◌, inl, inr, IsTrue, lt_trans, lt_irrefl, lt-suc_self}
use Rattle.ep_theory.proofs.lists.Orders.{IsExact}
use Rattle.ep_theory.proofs.lists.Lists.{not_below_itself, not_both_below}

pub data Tri (m n : ℕ) : Type 0 where
  below : m < n → Tri m n
  level : m ≡ n → Tri m n
  above : n < m → Tri m n

tri_split : (m n : ℕ) → (m < n) ⊎ (m ≡ n) ⊎ (n < m)
tri_split m n = grind arith

pub tri : (m n : ℕ) → Tri m n
tri m n = elim (tri_split m n) [ inl h ↦ below h | inr s ↦ elim s [ inl q ↦ level q | inr h ↦ above h ] ]

module _ {X : Type 0} (R : X → X → Ordering) (e : IsExact R) (n m : ℕ) (c d : ℕ → X) (Z : ℕ → ℕ → Bool)
    (within : (w v : ℕ) → IsTrue (Z w v) → (w < n) × (v < m))
    (alike : (w v : ℕ) → IsTrue (Z w v) → c w ≡ d v)
    (rises_c : (w v : ℕ) → w < v → v < n → R (c w) (c v) ≡ Less)
    (rises_d : (w v : ℕ) → w < v → v < m → R (d w) (d v) ≡ Less)
    (forth : (w : ℕ) → w < n → (v : ℕ) × IsTrue (Z w v))
    (back : (v : ℕ) → v < m → (w : ℕ) × IsTrue (Z w v)) where
  apart_c : (w v : ℕ) → w < v → v < n → c w ≡ c v → ⊥
  apart_c w v l h q = not_below_itself R e (c v) (subst (λ x. R x (c v) ≡ Less) q (rises_c w v l h))

  apart_d : (w v : ℕ) → w < v → v < m → d w ≡ d v → ⊥
  apart_d w v l h q = not_below_itself R e (d v) (subst (λ x. R x (d v) ≡ Less) q (rises_d w v l h))

  meet : (i v w : ℕ) → IsTrue (Z i v) → IsTrue (Z w i) → ((j : ℕ) → j < i → (j < n → IsTrue (Z j j)) × (j < m → IsTrue (Z j j))) → IsTrue (Z i i)
  meet i v w z y ih = go (tri v i) (tri w i)
    where
      crossed : i < v → i < w → ⊥
      crossed a b = not_both_below R e (c i) (d i)
          (subst (λ x. R (c i) x ≡ Less) (alike w i y) (rises_c i w b (within w i y).0))
          (subst (λ x. R (d i) x ≡ Less) (sym (alike i v z)) (rises_d i v a (within i v z).1))

      go : Tri v i → Tri w i → IsTrue (Z i i)
      go (below l) t =
          let same : IsTrue (Z v v) = (ih v l).1 (within i v z).1 in
          absurd (apart_c v i l (within i v z).0 (alike v v same ∙ sym (alike i v z)))
      go (level q) t = subst (λ x. IsTrue (Z i x)) q z
      go (above g) (below l) =
          let same : IsTrue (Z w w) = (ih w l).0 (within w i y).0 in
          absurd (apart_d w i l (within w i y).1 (sym (alike w w same) ∙ alike w i y))
      go (above g) (level q) = subst (λ x. IsTrue (Z x i)) q y
      go (above g) (above g') = absurd (crossed g g')

  forward : (i : ℕ) → ((j : ℕ) → j < i → (j < n → IsTrue (Z j j)) × (j < m → IsTrue (Z j j))) → i < n → IsTrue (Z i i)
  forward i ih h = go (forth i h).0 (forth i h).1 (tri (forth i h).0 i)
    where
      go : (v : ℕ) → IsTrue (Z i v) → Tri v i → IsTrue (Z i i)
      go v z (below l) =
          let same : IsTrue (Z v v) = (ih v l).1 (within i v z).1 in
          absurd (apart_c v i l (within i v z).0 (alike v v same ∙ sym (alike i v z)))
      go v z (level q) = subst (λ x. IsTrue (Z i x)) q z
      go v z (above g) =
          let in' : i < m = lt_trans g (within i v z).1 in
          meet i v (back i in').0 z (back i in').1 ih

  backward : (i : ℕ) → ((j : ℕ) → j < i → (j < n → IsTrue (Z j j)) × (j < m → IsTrue (Z j j))) → i < m → IsTrue (Z i i)
  backward i ih h = go (back i h).0 (back i h).1 (tri (back i h).0 i)
    where
      go : (w : ℕ) → IsTrue (Z w i) → Tri w i → IsTrue (Z i i)
      go w z (below l) =
          let same : IsTrue (Z w w) = (ih w l).0 (within w i z).0 in
          absurd (apart_d w i l (within w i z).1 (sym (alike w w same) ∙ alike w i z))
      go w z (level q) = subst (λ x. IsTrue (Z x i)) q z
      go w z (above g) =
          let in' : i < n = lt_trans g (within w i z).0 in
          meet i (forth i in').0 w (forth i in').1 z ih

  met_below : (N i : ℕ) → i < N → (i < n → IsTrue (Z i i)) × (i < m → IsTrue (Z i i))
  met_below zero i h = absurd (omega arith)
  met_below (suc N) i h =
      let ih : (j : ℕ) → j < i → (j < n → IsTrue (Z j j)) × (j < m → IsTrue (Z j j)) = λ j l. met_below N j (omega arith) in
      (forward i ih, backward i ih)

  pub diagonal : (i : ℕ) → i < n → IsTrue (Z i i)
  diagonal i h = (met_below (suc i) i (lt-suc_self i)).0 h

  pub same_count : n ≡ m
  same_count = go (tri n m)
    where
      go : Tri n m → n ≡ m
      go (below l) = absurd (lt_irrefl n (within n n ((met_below (suc n) n (lt-suc_self n)).1 l)).0)
      go (level q) = q
      go (above g) = absurd (lt_irrefl m (within m m ((met_below (suc m) m (lt-suc_self m)).0 g)).1)

  pub only_diagonal : (w v : ℕ) → IsTrue (Z w v) → w ≡ v
  only_diagonal w v z = go (tri w v)
    where
      equal : d w ≡ d v
      equal = sym (alike w w (diagonal w (within w v z).0)) ∙ alike w v z

      go : Tri w v → w ≡ v
      go (below l) = absurd (apart_d w v l (within w v z).1 equal)
      go (level q) = q
      go (above g) = absurd (apart_d v w g (subst (λ x. w < x) same_count (within w v z).0) (sym equal))
