-- The kinds of n worlds, of one state or of several, tell apart at level n what they ever tell apart.
use Rattle.std.proofs.Common.{◌≡◌, ℕ, suc, ◌<◌, Bool, true, refl, sym, ap, ap₂, subst, ◌∙◌, Ordering, Less, Equal, Greater, is_eq, length, map}
use Rattle.std.proofs.lemmas.Cmp.{tied_itself}
use Rattle.ep_theory.specs.Rising.{IsIn}
use Rattle.ep_theory.specs.Kripke.{Kripke, IsState, links_of, successors}
use Rattle.ep_theory.specs.Kind.{Kind, kind_cmp, kind}
use Rattle.ep_theory.proofs.lists.Orders.{kinds}
use Rattle.ep_theory.proofs.lists.Lists.{IsIn-map, from_map, rising_alike, from_successors, IsIn-successors}
use Rattle.ep_theory.proofs.kinds.Alike.{row, rows_alike, answered}
use Rattle.ep_theory.proofs.states.Unique.{links_within}
use Rattle.ep_theory.proofs.kinds.Settled.{settled}

pub equal_from_test : (o : Ordering) → is_eq o ≡ true → o ≡ Equal
equal_from_test Less h = cc
equal_from_test Equal h = refl
equal_from_test Greater h = cc

-- the test of two kinds of a level
abbrev pub same_kind : (k : ℕ) → Kind k → Kind k → Bool
same_kind k x y = is_eq (kind_cmp k x y)

pub from_same_kind : (k : ℕ) (x y : Kind k) → same_kind k x y ≡ true → x ≡ y
from_same_kind k x y h = (kinds k).same x y (equal_from_test (kind_cmp k x y) h)

pub same_kind-itself : (k : ℕ) (x : Kind k) → same_kind k x x ≡ true
same_kind-itself k x = ap is_eq (tied_itself (kinds k).total x)

pub to_same_kind : (k : ℕ) (x y : Kind k) → x ≡ y → same_kind k x y ≡ true
to_same_kind k x y h = subst (λ z. same_kind k x z ≡ true) h (same_kind-itself k x)

-- every kind of the first row stands in the second
row_within : (S R : Kripke) → IsState S → IsState R → (k w v : ℕ) →
    ((u x : ℕ) → u < S.worlds → x < R.worlds → kind S k u ≡ kind R k x → kind S (suc k) u ≡ kind R (suc k) x) →
    kind S (suc k) w ≡ kind R (suc k) v → (a : ℕ) (y : Kind (suc k)) →
    IsIn y (map (kind S (suc k)) (successors (links_of S a) w)) → IsIn y (map (kind R (suc k)) (successors (links_of R a) v))
row_within S R s r k w v f e a y i =
    let u = from_map (kind S (suc k)) y (successors (links_of S a) w) i in
    let l : IsIn (w, u.0) (links_of S a) = from_successors w u.0 (links_of S a) u.1 in
    let x = answered S R k w v e a u.0 l in
    let q : kind S (suc k) u.0 ≡ kind R (suc k) x.0 = f u.0 x.0 (links_within S s a w u.0 l).1 (links_within R r a v x.0 x.1).1 x.2 in
    subst (λ t. IsIn t (map (kind R (suc k)) (successors (links_of R a) v))) (sym (u.2 ∙ q))
    (IsIn-map (kind R (suc k)) x.0 (successors (links_of R a) v) (IsIn-successors v x.0 (links_of R a) x.1))

-- where a level tells apart all that the next one does, so does the next one
pub climb : (S R : Kripke) → IsState S → IsState R → length S.links ≡ length R.links → (k w v : ℕ) →
    ((u x : ℕ) → u < S.worlds → x < R.worlds → kind S k u ≡ kind R k x → kind S (suc k) u ≡ kind R (suc k) x) →
    ((x u : ℕ) → x < R.worlds → u < S.worlds → kind R k x ≡ kind S k u → kind R (suc k) x ≡ kind S (suc k) u) →
    kind S (suc k) w ≡ kind R (suc k) v → kind S (suc (suc k)) w ≡ kind R (suc (suc k)) v
climb S R s r n k w v f g e =
    let q : map (row S (suc k) w) S.links ≡ map (row R (suc k) v) R.links =
    rows_alike (row S (suc k) w) (row R (suc k) v) S.links R.links n
    (λ a. rising_alike (kind_cmp (suc k)) (kinds (suc k)) (map (kind S (suc k)) (successors (links_of S a) w)) (map (kind R (suc k)) (successors (links_of R a) v))
    (row_within S R s r k w v f e a) (row_within R S r s k v w g (sym e) a)) in
    λ i. record { older = e i; rows = q i }

pub moved : (k : ℕ) {S R : Kripke} {w v : ℕ} → S ≡ R → w ≡ v → kind S k w ≡ kind R k v
moved k p q = ap₂ (λ T u. kind T k u) p q

module _ (n : ℕ) (state : ℕ → Kripke) (world : ℕ → ℕ)
    (states : (i : ℕ) → IsState (state i))
    (agents : (i j : ℕ) → length (state i).links ≡ length (state j).links)
    (point : (i : ℕ) → i < n → (u : ℕ) → u < (state i).worlds → (p : ℕ) × (p < n) × (state p ≡ state i) × (world p ≡ u)) where
  abbrev level_with : ℕ → ℕ → ℕ → Bool
  level_with k i j = same_kind k (kind (state i) k (world i)) (kind (state j) k (world j))

  abbrev Equals : ℕ → ℕ → ℕ → Type 0
  Equals k i j = kind (state i) k (world i) ≡ kind (state j) k (world j)

  to_worlds : (k i j : ℕ) → i < n → j < n → ((p q : ℕ) → p < n → q < n → Equals k p q → Equals (suc k) p q) →
      (u x : ℕ) → u < (state i).worlds → x < (state j).worlds → kind (state i) k u ≡ kind (state j) k x → kind (state i) (suc k) u ≡ kind (state j) (suc k) x
  to_worlds k i j a b f u x c d e =
      let p = point i a u c in
      let q = point j b x d in
      moved (suc k) (sym p.2) (sym p.3) ∙ f p.0 q.0 p.1 q.1 (moved k p.2 p.3 ∙ e ∙ moved k (sym q.2) (sym q.3)) ∙ moved (suc k) q.2 q.3

  stays : (k : ℕ) → ((i j : ℕ) → i < n → j < n → Equals k i j → Equals (suc k) i j) → (i j : ℕ) → i < n → j < n → Equals (suc k) i j → Equals (suc (suc k)) i j
  stays k f i j a b e = climb (state i) (state j) (states i) (states j) (agents i j) k (world i) (world j) (to_worlds k i j a b f) (to_worlds k j i b a f) e

  pub points_settled : (i j : ℕ) → i < n → j < n → Equals n i j → Equals (suc n) i j
  points_settled i j a b e = from_same_kind (suc n) (kind (state i) (suc n) (world i)) (kind (state j) (suc n) (world j))
      (settled n level_with
      (λ k i. same_kind-itself k (kind (state i) k (world i)))
      (λ k i j h. to_same_kind k _ _ (sym (from_same_kind k _ _ h)))
      (λ k i j l g h. to_same_kind k _ _ (from_same_kind k _ _ g ∙ from_same_kind k _ _ h))
      (λ k i j h. to_same_kind k _ _ (ap (λ z. z.older) (from_same_kind (suc k) (kind (state i) (suc k) (world i)) (kind (state j) (suc k) (world j)) h)))
      (λ k f i j a b h. to_same_kind (suc (suc k)) _ _ (stays k (λ p q c d g. from_same_kind (suc k) (kind (state p) (suc k) (world p)) (kind (state q) (suc k) (world q)) (f p q c d (to_same_kind k _ _ g))) i j a b (from_same_kind (suc k) (kind (state i) (suc k) (world i)) (kind (state j) (suc k) (world j)) h)))
      i j a b (to_same_kind n _ _ e))
