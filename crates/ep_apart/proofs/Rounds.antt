-- The kinds of n worlds tell apart at level n - 1 what they ever tell apart.
use Rattle.std.proofs.Common.{◌≡◌, ℕ, zero, suc, ◌<◌, ◌≤◌, Bool, true, false, cond, refl, sym, ap, subst, ◌∙◌, arith, ◌⊎◌, inl, inr, ⊎_elim, le_of_suc-le-suc, lt_of_le_of_lt, map}
use Rattle.ep_theory.specs.Rising.{IsIn}
use Rattle.ep_theory.specs.Kripke.{Kripke, IsState, links_of, successors}
use Rattle.ep_theory.specs.Kind.{Kind, kind, kind_cmp}
use Rattle.ep_theory.specs.Bisimulation.{BisimilarWorlds}
use Rattle.ep_theory.proofs.CallerLemmas.{IsIn-map, IsIn-successors, from_map, from_successors}
use Rattle.ep_apart.proofs.TheoryLemmas.{First, IsSettledAt, Tri, above, below, count, count-bound, count-tight, equal_later, first_of_passing, from_same_kind, kinds, level, none-from_each, none_at, none_below, one_state_decides, rising_alike, row, rows_alike, same_kind, same_kind-itself, settled_next, to_same_kind, tri}

not_true : (b : Bool) → (b ≡ true → ⊥) → b ≡ false
not_true true f = absurd (f refl)
not_true false f = refl

clash : (b : Bool) → b ≡ true → b ≡ false → ⊥
clash b g g' = cc

le_or_lt : (m n : ℕ) → (m ≤ n) ⊎ (n < m)
le_or_lt m n = grind arith

-- the first of its class
abbrev leads : (ℕ → ℕ → Bool) → ℕ → Bool
leads E i = none_below (λ j. E j i) i

at_least_step : (b : Bool) (m : ℕ) → 1 ≤ m → 1 ≤ cond b (suc m) m
at_least_step true m h = omega arith
at_least_step false m h = h

-- zero leads its class
some_leader : (E : ℕ → ℕ → Bool) (n : ℕ) → 0 < n → 1 ≤ count (leads E) n
some_leader E zero h = absurd (omega arith)
some_leader E (suc zero) h = omega arith
some_leader E (suc (suc n)) h = at_least_step (leads E (suc n)) (count (leads E) (suc n)) (some_leader E (suc n) (omega arith))

module _ (n : ℕ) (E : ℕ → ℕ → ℕ → Bool)
    (itself : (k i : ℕ) → E k i i ≡ true)
    (turned : (k i j : ℕ) → E k i j ≡ true → E k j i ≡ true)
    (chained : (k i j l : ℕ) → E k i j ≡ true → E k j l ≡ true → E k i l ≡ true)
    (older : (k i j : ℕ) → E (suc k) i j ≡ true → E k i j ≡ true)
    (stays : (k : ℕ) → ((i j : ℕ) → i < n → j < n → E k i j ≡ true → E (suc k) i j ≡ true) → (i j : ℕ) → i < n → j < n → E (suc k) i j ≡ true → E (suc (suc k)) i j ≡ true)
  where
    leads_on : (k i : ℕ) → leads (E k) i ≡ true → leads (E (suc k)) i ≡ true
    leads_on k i h = none-from_each (λ j. E (suc k) j i) i
        (λ j l. not_true (E (suc k) j i) (λ e. clash (E k j i) (older k j i e) (none_at (λ j. E k j i) i j h l)))

    -- each number has a leader
    leader : (k i : ℕ) → (l : ℕ) × (l ≤ i) × (E k l i ≡ true) × (leads (E k) l ≡ true)
    leader k i = (
      f.at,
      le_of_suc-le-suc f.below,
      f.passes,
      none-from_each (λ j. E k j f.at) f.at (λ j l. not_true (E k j f.at) (λ e. clash (E k j i) (chained k j f.at i e f.passes) (none_at (λ j. E k j i) f.at j f.none l))),
    )
      where
        f : First (λ j. E k j i) (suc i)
        f = first_of_passing (λ j. E k j i) i (itself k i)

    -- two leaders that are level are one
    one_leader : (k l m : ℕ) → leads (E k) l ≡ true → leads (E k) m ≡ true → E k l m ≡ true → l ≡ m
    one_leader k l m g h e = go (tri l m)
      where
        go : Tri l m → l ≡ m
        go (below a) = absurd (clash (E k l m) e (none_at (λ j. E k j m) m l h a))
        go (level q) = q
        go (above a) = absurd (clash (E k m l) (turned k l m e) (none_at (λ j. E k j l) l m g a))

    same_leaders : (k : ℕ) → ((i : ℕ) → i < n → leads (E (suc k)) i ≡ true → leads (E k) i ≡ true) → (i j : ℕ) → i < n → j < n → E k i j ≡ true → E (suc k) i j ≡ true
    same_leaders k f i j a b e =
        let l = leader (suc k) i in
        let m = leader (suc k) j in
        let x : E k l.0 j ≡ true = chained k l.0 i j (older k l.0 i l.2) e in
        let y : E k l.0 m.0 ≡ true = chained k l.0 j m.0 x (turned k m.0 j (older k m.0 j m.2)) in
        let q : l.0 ≡ m.0 = one_leader k l.0 m.0 (f l.0 (lt_of_le_of_lt l.1 a) l.3) (f m.0 (lt_of_le_of_lt m.1 b) m.3) y in
        chained (suc k) i l.0 j (turned (suc k) l.0 i l.2) (subst (λ t. E (suc k) t j ≡ true) (sym q) m.2)

    -- the classes are the same at the next level
    abbrev IsSettled : ℕ → Type 0
    IsSettled k = (i j : ℕ) → i < n → j < n → E k i j ≡ true → E (suc k) i j ≡ true

    settled_from_count : (k : ℕ) → count (leads (E (suc k))) n ≤ count (leads (E k)) n → IsSettled k
    settled_from_count k h = same_leaders k (count-tight (leads (E k)) (leads (E (suc k))) n (λ i _ e. leads_on k i e) h)

    settled_or_many : (k : ℕ) → 0 < n → IsSettled k ⊎ (suc k ≤ count (leads (E k)) n)
    settled_or_many zero l = inr (some_leader (E 0) n l)
    settled_or_many (suc k) l =
        ⊎_elim
        (λ (s : IsSettled k). inl (stays k s))
        (λ (h : suc k ≤ count (leads (E k)) n).
        ⊎_elim
        (λ (g : count (leads (E (suc k))) n ≤ count (leads (E k)) n). inl (stays k (settled_from_count k g)))
        (λ (g : count (leads (E k)) n < count (leads (E (suc k))) n). inr (omega arith))
        (le_or_lt (count (leads (E (suc k))) n) (count (leads (E k)) n)))
        (settled_or_many k l)

    pub settled_before : (m : ℕ) → suc m ≡ n → (i j : ℕ) → i < n → j < n → E m i j ≡ true → E (suc m) i j ≡ true
    settled_before m q =
        ⊎_elim
        (λ (s : IsSettled m). s)
        (λ (h : suc m ≤ count (leads (E m)) n).
        let b : count (leads (E (suc m))) n ≤ n = count-bound (leads (E (suc m))) n in
        settled_from_count m (omega arith))
        (settled_or_many m (omega arith))

module _ (S : Kripke) (s : IsState S) where
  abbrev level_with : ℕ → ℕ → ℕ → Bool
  level_with k i j = same_kind k (kind S k i) (kind S k j)

  pub last_level : (m : ℕ) → suc m ≡ S.worlds → IsSettledAt S m
  last_level m q w v a b e = from_same_kind (suc m) (kind S (suc m) w) (kind S (suc m) v)
      (settled_before S.worlds level_with
      (λ k i. same_kind-itself k (kind S k i))
      (λ k i j h. to_same_kind k _ _ (sym (from_same_kind k _ _ h)))
      (λ k i j l g h. to_same_kind k _ _ (from_same_kind k _ _ g ∙ from_same_kind k _ _ h))
      (λ k i j h. to_same_kind k _ _ (ap (λ z. z.older) (from_same_kind (suc k) (kind S (suc k) i) (kind S (suc k) j) h)))
      (λ k f i j a b h. to_same_kind (suc (suc k)) _ _
      (settled_next S s k (λ p q c d g. from_same_kind (suc k) (kind S (suc k) p) (kind S (suc k) q) (f p q c d (to_same_kind k _ _ g)))
      i j a b (from_same_kind (suc k) (kind S (suc k) i) (kind S (suc k) j) h)))
      m q w v a b (to_same_kind m _ _ e))

  -- worlds of equal kinds at that level are bisimilar
  pub last_level_decides : (m w v : ℕ) → suc m ≡ S.worlds → w < S.worlds → v < S.worlds → kind S m w ≡ kind S m v → BisimilarWorlds S w S v
  last_level_decides m w v q a b e =
      (one_state_decides S s w v a b).0 (equal_later S s m S.worlds (omega arith) (last_level m q) w v a b e)

  row_within : (k c d a : ℕ) → ((x : ℕ) → IsIn (c, x) (links_of S a) → (y : ℕ) × IsIn (d, y) (links_of S a) × (kind S k x ≡ kind S k y)) →
      (z : Kind k) → IsIn z (map (kind S k) (successors (links_of S a) c)) → IsIn z (map (kind S k) (successors (links_of S a) d))
  row_within k c d a f z i =
      let x = from_map (kind S k) z (successors (links_of S a) c) i in
      let y = f x.0 (from_successors c x.0 (links_of S a) x.1) in
      subst (λ t. IsIn t (map (kind S k) (successors (links_of S a) d))) (sym (x.2 ∙ y.2))
      (IsIn-map (kind S k) y.0 (successors (links_of S a) d) (IsIn-successors d y.0 (links_of S a) y.1))

  -- worlds of equal kinds that answer each other's links have equal kinds one level up
  pub alike_next : (k c d : ℕ) → kind S k c ≡ kind S k d →
      ((a x : ℕ) → IsIn (c, x) (links_of S a) → (y : ℕ) × IsIn (d, y) (links_of S a) × (kind S k x ≡ kind S k y)) →
      ((a y : ℕ) → IsIn (d, y) (links_of S a) → (x : ℕ) × IsIn (c, x) (links_of S a) × (kind S k y ≡ kind S k x)) →
      kind S (suc k) c ≡ kind S (suc k) d
  alike_next k c d e f g =
      let q : map (row S k c) S.links ≡ map (row S k d) S.links =
      rows_alike (row S k c) (row S k d) S.links S.links refl
      (λ a. rising_alike (kind_cmp k) (kinds k) (map (kind S k) (successors (links_of S a) c)) (map (kind S k) (successors (links_of S a) d))
      (row_within k c d a (f a)) (row_within k d c a (g a))) in
      λ i. record { older = e i; rows = q i }
