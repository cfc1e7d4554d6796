-- Once no class splits, the order of the kinds stays as it is.
use Rattle.std.proofs.Common.{◌≡◌, ℕ, zero, suc, ◌<◌, ◌≤◌, refl, sym, ap, subst, ◌∙◌, arith, Ordering, Less, Equal, Greater, ◌⊎◌, ⊎_elim, eq-or-lt_of_le, le_of_suc-le-suc}
use Rattle.std.specs.Ordering.{ordering_reverse}
use Rattle.std.proofs.lemmas.Cmp.{tied_itself}
use Rattle.ep_theory.specs.Kripke.{Kripke, IsState}
use Rattle.ep_theory.specs.Kind.{kind_cmp, kind}
use Rattle.ep_theory.proofs.lists.Orders.{kinds}
use Rattle.ep_theory.proofs.kinds.Levels.{compared, less_later}
use Rattle.ep_theory.proofs.kinds.Points.{climb}
use Rattle.ep_theory.proofs.kinds.FromKinds.{one_settled}

-- the next level tells no more worlds apart
abbrev pub IsSettledAt : Kripke → ℕ → Type 0
IsSettledAt S k = (w v : ℕ) → w < S.worlds → v < S.worlds → kind S k w ≡ kind S k v → kind S (suc k) w ≡ kind S (suc k) v

pub settled_next : (S : Kripke) → IsState S → (k : ℕ) → IsSettledAt S k → IsSettledAt S (suc k)
settled_next S s k f w v a b e = climb S S s s refl k w v f f e

pub settled_later : (S : Kripke) → IsState S → (k m : ℕ) → k ≤ m → IsSettledAt S k → IsSettledAt S m
settled_later S s k zero h f = let q : k ≡ 0 = omega arith in subst (IsSettledAt S) q f
settled_later S s k (suc m) h f =
    ⊎_elim (λ (q : k ≡ suc m). subst (IsSettledAt S) q f)
    (λ (l : k < suc m). settled_next S s m (settled_later S s k m (le_of_suc-le-suc l) f))
    (eq-or-lt_of_le h)

pub equal_later : (S : Kripke) → IsState S → (k m : ℕ) → k ≤ m → IsSettledAt S k → (w v : ℕ) → w < S.worlds → v < S.worlds → kind S k w ≡ kind S k v → kind S m w ≡ kind S m v
equal_later S s k zero h f w v a b e = let q : k ≡ 0 = omega arith in subst (λ n. kind S n w ≡ kind S n v) q e
equal_later S s k (suc m) h f w v a b e =
    ⊎_elim (λ (q : k ≡ suc m). subst (λ n. kind S n w ≡ kind S n v) q e)
    (λ (l : k < suc m). settled_later S s k m (le_of_suc-le-suc l) f w v a b (equal_later S s k m (le_of_suc-le-suc l) f w v a b e))
    (eq-or-lt_of_le h)

pub order_later : (S : Kripke) → IsState S → (k m : ℕ) → k ≤ m → IsSettledAt S k → (w v : ℕ) → w < S.worlds → v < S.worlds → compared k S w S v ≡ compared m S w S v
order_later S s k m h f w v a b = go (compared k S w S v) refl
  where
    go : (o : Ordering) → compared k S w S v ≡ o → o ≡ compared m S w S v
    go Less e = sym (less_later S S k m w v h e)
    go Equal e =
        let q : kind S m w ≡ kind S m v = equal_later S s k m h f w v a b ((kinds k).same (kind S k w) (kind S k v) e) in
        sym (subst (λ t. kind_cmp m (kind S m w) t ≡ Equal) q (tied_itself (kinds m).total (kind S m w)))
    go Greater e =
        let l : compared k S v S w ≡ Less = (kinds k).total.antisymm (kind S k v) (kind S k w) ∙ ap ordering_reverse e in
        let l' : compared m S v S w ≡ Less = less_later S S k m v w h l in
        sym ((kinds m).total.antisymm (kind S m w) (kind S m v) ∙ ap ordering_reverse l')

-- an order at some level m that tells all worlds apart is the order at the level of the number of worlds
pub order_at_worlds : (S : Kripke) → IsState S → (m w v : ℕ) → w < S.worlds → v < S.worlds → compared m S w S v ≡ Less → compared S.worlds S w S v ≡ Less
order_at_worlds S s m w v a b e = ⊎_elim
    (λ (h : m ≤ S.worlds). less_later S S m S.worlds w v h e)
    (λ (h : S.worlds < m). order_later S s S.worlds m (omega arith) (one_settled S s) w v a b ∙ e)
    (le_or_lt m S.worlds)
  where
    le_or_lt : (m n : ℕ) → (m ≤ n) ⊎ (n < m)
    le_or_lt m n = grind arith
