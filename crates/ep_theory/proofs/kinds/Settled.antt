-- Ever finer equivalences on the numbers below n are the same from level n on.
use Rattle.std.proofs.Common.{◌≡◌, ℕ, zero, suc, ◌<◌, ◌≤◌, Bool, true, false, refl, sym, subst, arith, ◌⊎◌, inl, inr, ⊎_elim, le_of_suc-le-suc, lt_of_le_of_lt, zero-le}
use Rattle.ep_theory.proofs.lists.Counting.{count, none_below, none_at, none-from_each, First, first_of_passing, count-bound, count-tight}
use Rattle.ep_theory.proofs.lists.Diagonal.{Tri, below, level, above, tri}

not_true : (b : Bool) → (b ≡ true → ⊥) → b ≡ false
not_true true f = absurd (f refl)
not_true false f = refl

le_or_lt : (m n : ℕ) → (m ≤ n) ⊎ (n < m)
le_or_lt m n = grind arith

-- the first of its class
abbrev leads : (ℕ → ℕ → Bool) → ℕ → Bool
leads E i = none_below (λ j. E j i) i

module _ (n : ℕ) (E : ℕ → ℕ → ℕ → Bool)
    (itself : (k i : ℕ) → E k i i ≡ true)
    (turned : (k i j : ℕ) → E k i j ≡ true → E k j i ≡ true)
    (chained : (k i j l : ℕ) → E k i j ≡ true → E k j l ≡ true → E k i l ≡ true)
    (older : (k i j : ℕ) → E (suc k) i j ≡ true → E k i j ≡ true)
    (stays : (k : ℕ) → ((i j : ℕ) → i < n → j < n → E k i j ≡ true → E (suc k) i j ≡ true) → (i j : ℕ) → i < n → j < n → E (suc k) i j ≡ true → E (suc (suc k)) i j ≡ true)
  where
    leads_on : (k i : ℕ) → leads (E k) i ≡ true → leads (E (suc k)) i ≡ true
    leads_on k i h = none-from_each (λ j. E (suc k) j i) i
        (λ j l. not_true (E (suc k) j i) (λ e. clash (E k j i) (older k j i e) (none_at (λ j. E k j i) i j h l)))
      where
        clash : (b : Bool) → b ≡ true → b ≡ false → ⊥
        clash b g g' = cc

    -- each number has a leader
    leader : (k i : ℕ) → (l : ℕ) × (l ≤ i) × (E k l i ≡ true) × (leads (E k) l ≡ true)
    leader k i = (
      f.at,
      le_of_suc-le-suc f.below,
      f.passes,
      none-from_each (λ j. E k j f.at) f.at (λ j l. not_true (E k j f.at) (λ e. clash (E k j i) (chained k j f.at i e f.passes) (none_at (λ j. E k j i) f.at j f.none l))),
    )
      where
        f : First (λ j. E k j i) (suc i)
        f = first_of_passing (λ j. E k j i) i (itself k i)

        clash : (b : Bool) → b ≡ true → b ≡ false → ⊥
        clash b g g' = cc

    -- two leaders that are level are one
    one_leader : (k l m : ℕ) → leads (E k) l ≡ true → leads (E k) m ≡ true → E k l m ≡ true → l ≡ m
    one_leader k l m g h e = go (tri l m)
      where
        clash : (b : Bool) → b ≡ true → b ≡ false → ⊥
        clash b p q = cc

        go : Tri l m → l ≡ m
        go (below a) = absurd (clash (E k l m) e (none_at (λ j. E k j m) m l h a))
        go (level q) = q
        go (above a) = absurd (clash (E k m l) (turned k l m e) (none_at (λ j. E k j l) l m g a))

    same_leaders : (k : ℕ) → ((i : ℕ) → i < n → leads (E (suc k)) i ≡ true → leads (E k) i ≡ true) → (i j : ℕ) → i < n → j < n → E k i j ≡ true → E (suc k) i j ≡ true
    same_leaders k f i j a b e =
        let l = leader (suc k) i in
        let m = leader (suc k) j in
        let x : E k l.0 j ≡ true = chained k l.0 i j (older k l.0 i l.2) e in
        let y : E k l.0 m.0 ≡ true = chained k l.0 j m.0 x (turned k m.0 j (older k m.0 j m.2)) in
        let q : l.0 ≡ m.0 = one_leader k l.0 m.0 (f l.0 (lt_of_le_of_lt l.1 a) l.3) (f m.0 (lt_of_le_of_lt m.1 b) m.3) y in
        chained (suc k) i l.0 j (turned (suc k) l.0 i l.2) (subst (λ t. E (suc k) t j ≡ true) (sym q) m.2)

    -- the classes are the same at the next level
    abbrev IsSettled : ℕ → Type 0
    IsSettled k = (i j : ℕ) → i < n → j < n → E k i j ≡ true → E (suc k) i j ≡ true

    settled_from_count : (k : ℕ) → count (leads (E (suc k))) n ≤ count (leads (E k)) n → IsSettled k
    settled_from_count k h = same_leaders k (count-tight (leads (E k)) (leads (E (suc k))) n (λ i _ e. leads_on k i e) h)

    settled_or_many : (k : ℕ) → IsSettled k ⊎ (k ≤ count (leads (E k)) n)
    settled_or_many zero = inr (zero-le)
    settled_or_many (suc k) =
        ⊎_elim
        (λ (s : IsSettled k). inl (stays k s))
        (λ (h : k ≤ count (leads (E k)) n).
        ⊎_elim
        (λ (g : count (leads (E (suc k))) n ≤ count (leads (E k)) n). inl (stays k (settled_from_count k g)))
        (λ (g : count (leads (E k)) n < count (leads (E (suc k))) n). inr (omega arith))
        (le_or_lt (count (leads (E (suc k))) n) (count (leads (E k)) n)))
        (settled_or_many k)

    pub settled : (i j : ℕ) → i < n → j < n → E n i j ≡ true → E (suc n) i j ≡ true
    settled =
        ⊎_elim
        (λ (s : IsSettled n). s)
        (λ (h : n ≤ count (leads (E n)) n).
        let b : count (leads (E (suc n))) n ≤ n = count-bound (leads (E (suc n))) n in
        settled_from_count n (omega arith))
        (settled_or_many n)
