-- Ranks that order the worlds as their kinds do, and the signatures made of them, which order the worlds as the kinds of the next level do.
use Rattle.std.proofs.Common.{◌≡◌, ℕ, suc, ◌<◌, List, [], ◌∷◌, refl, sym, ap, ap₂, ◌∙◌, Ordering, Less, Equal, Greater, map}
use Rattle.std.specs.Ordering.{nat_cmp, ordering_then}
use Rattle.std.specs.List.{AllByRecursion}
use Rattle.std.specs.Cmp.Lexicographic.{slice_cmp}
use Rattle.ep_theory.specs.Rising.{by_order, placed, rising}
use Rattle.ep_theory.specs.Kripke.{Kripke, IsState, successors}
use Rattle.ep_theory.specs.Kind.{kind_cmp, node_cmp, kind}
use Rattle.ep_theory.specs.Ranks.{RanksAt, signature}
use Rattle.ep_theory.proofs.lists.Lists.{All-from_each, at_All, from_successors}

-- sorting values is sorting what they are values of
map-by_order : {A B : Type 0} (f : A → B) (o : Ordering) (xs ys zs : List A) → map f (by_order o xs ys zs) ≡ by_order o (map f xs) (map f ys) (map f zs)
map-by_order f Less xs ys zs = refl
map-by_order f Equal xs ys zs = refl
map-by_order f Greater xs ys zs = refl

module _ {A X : Type 0} (R : X → X → Ordering) (f : A → X) where
  placed-map : (x : A) (ys : List A) → placed R (f x) (map f ys) ≡ map f (placed (λ a b. R (f a) (f b)) x ys)
  placed-map x [] = refl
  placed-map x (y ∷ ys) =
      ap (λ l. by_order (R (f x) (f y)) (f x ∷ f y ∷ map f ys) (f y ∷ map f ys) (f y ∷ l)) (placed-map x ys)
      ∙ sym (map-by_order f (R (f x) (f y)) (x ∷ y ∷ ys) (y ∷ ys) (y ∷ placed (λ a b. R (f a) (f b)) x ys))

  pub rising-map : (xs : List A) → rising R (map f xs) ≡ map f (rising (λ a b. R (f a) (f b)) xs)
  rising-map [] = refl
  rising-map (x ∷ xs) = ap (placed R (f x)) (rising-map xs) ∙ placed-map x (rising (λ a b. R (f a) (f b)) xs)

-- two orders that agree on some values
module _ {A : Type 0} (P : A → Type 0) (R Q : A → A → Ordering) (agree : (x y : A) → P x → P y → R x y ≡ Q x y) where
  All-placed : (x : A) (ys : List A) → P x → AllByRecursion P ys → AllByRecursion P (placed R x ys)
  All-placed x [] p a = (p, tt)
  All-placed x (y ∷ ys) p a = go (R x y) (All-placed x ys p a.1)
    where
      go : (o : Ordering) → AllByRecursion P (placed R x ys) → AllByRecursion P (by_order o (x ∷ y ∷ ys) (y ∷ ys) (y ∷ placed R x ys))
      go Less ih = (p, a)
      go Equal ih = a
      go Greater ih = (a.0, ih)

  pub All-rising : (xs : List A) → AllByRecursion P xs → AllByRecursion P (rising R xs)
  All-rising [] a = tt
  All-rising (x ∷ xs) a = All-placed x (rising R xs) a.0 (All-rising xs a.1)

  placed-agree : (x : A) (ys : List A) → P x → AllByRecursion P ys → placed R x ys ≡ placed Q x ys
  placed-agree x [] p a = refl
  placed-agree x (y ∷ ys) p a =
      ap₂ (λ o l. by_order o (x ∷ y ∷ ys) (y ∷ ys) (y ∷ l)) (agree x y p a.0) (placed-agree x ys p a.1)

  pub rising-agree : (xs : List A) → AllByRecursion P xs → rising R xs ≡ rising Q xs
  rising-agree [] a = refl
  rising-agree (x ∷ xs) a =
      placed-agree x (rising R xs) a.0 (All-rising xs a.1) ∙ ap (placed Q x) (rising-agree xs a.1)

  pub slice_cmp-agree : (xs ys : List A) → AllByRecursion P xs → AllByRecursion P ys → slice_cmp R xs ys ≡ slice_cmp Q xs ys
  slice_cmp-agree [] [] a b = refl
  slice_cmp-agree [] (y ∷ ys) a b = refl
  slice_cmp-agree (x ∷ xs) [] a b = refl
  slice_cmp-agree (x ∷ xs) (y ∷ ys) a b = ap₂ ordering_then (agree x y a.0 b.0) (slice_cmp-agree xs ys a.1 b.1)

pub slice_cmp-map : {A X : Type 0} (R : X → X → Ordering) (f : A → X) (xs ys : List A) → slice_cmp R (map f xs) (map f ys) ≡ slice_cmp (λ a b. R (f a) (f b)) xs ys
slice_cmp-map R f [] [] = refl
slice_cmp-map R f [] (y ∷ ys) = refl
slice_cmp-map R f (x ∷ xs) [] = refl
slice_cmp-map R f (x ∷ xs) (y ∷ ys) = ap (ordering_then (R (f x) (f y))) (slice_cmp-map R f xs ys)

-- values of two types that are ordered alike: so are the distinct ones of two lists
module _ {A X Y : Type 0} (P : A → Type 0) (R : X → X → Ordering) (Q : Y → Y → Ordering) (f : A → X) (g : A → Y)
    (agree : (x y : A) → P x → P y → R (f x) (f y) ≡ Q (g x) (g y)) where
  pub rows_order : (xs ys : List A) → AllByRecursion P xs → AllByRecursion P ys →
      slice_cmp R (rising R (map f xs)) (rising R (map f ys)) ≡ slice_cmp Q (rising Q (map g xs)) (rising Q (map g ys))
  rows_order xs ys a b =
      ap₂ (slice_cmp R) (rising-map R f xs) (rising-map R f ys)
      ∙ slice_cmp-map R f (rising (λ x y. R (f x) (f y)) xs) (rising (λ x y. R (f x) (f y)) ys)
      ∙ slice_cmp-agree P (λ x y. R (f x) (f y)) (λ x y. Q (g x) (g y)) agree _ _ (All-rising P (λ x y. R (f x) (f y)) (λ x y. Q (g x) (g y)) agree xs a) (All-rising P (λ x y. R (f x) (f y)) (λ x y. Q (g x) (g y)) agree ys b)
      ∙ ap₂ (slice_cmp (λ x y. Q (g x) (g y))) (rising-agree P (λ x y. R (f x) (f y)) (λ x y. Q (g x) (g y)) agree xs a) (rising-agree P (λ x y. R (f x) (f y)) (λ x y. Q (g x) (g y)) agree ys b)
      ∙ sym (slice_cmp-map Q g (rising (λ x y. Q (g x) (g y)) xs) (rising (λ x y. Q (g x) (g y)) ys))
      ∙ sym (ap₂ (slice_cmp Q) (rising-map Q g xs) (rising-map Q g ys))

-- the signatures order the worlds as the kinds of the next level
module _ (S : Kripke) (s : IsState S) (k : ℕ) (rank : ℕ → ℕ) (ranks : RanksAt S k rank) where
  agent_rows : (w v : ℕ) (ls : List (List (ℕ × ℕ))) → w < S.worlds → v < S.worlds → AllByRecursion (λ pairs. AllByRecursion (λ p. (p.0 < S.worlds) × (p.1 < S.worlds)) pairs) ls →
      slice_cmp (slice_cmp nat_cmp) (map (λ pairs. rising nat_cmp (map rank (successors pairs w))) ls) (map (λ pairs. rising nat_cmp (map rank (successors pairs v))) ls)
      ≡ slice_cmp (slice_cmp (kind_cmp k)) (map (λ pairs. rising (kind_cmp k) (map (kind S k) (successors pairs w))) ls) (map (λ pairs. rising (kind_cmp k) (map (kind S k) (successors pairs v))) ls)
  agent_rows w v [] a b h = refl
  agent_rows w v (l ∷ ls) a b h =
      ap₂ ordering_then
      (rows_order (λ u. u < S.worlds) nat_cmp (kind_cmp k) rank (kind S k) ranks (successors l w) (successors l v) (within w l h.0) (within v l h.0))
      (agent_rows w v ls a b h.1)
    where
      within : (u : ℕ) (l : List (ℕ × ℕ)) → AllByRecursion (λ p. (p.0 < S.worlds) × (p.1 < S.worlds)) l → AllByRecursion (λ u. u < S.worlds) (successors l u)
      within u l h = All-from_each (λ x. x < S.worlds) (successors l u) (λ x i. (at_All (λ p. (p.0 < S.worlds) × (p.1 < S.worlds)) (u, x) l h (from_successors u x l i)).1)

  pub signatures : (w v : ℕ) → w < S.worlds → v < S.worlds → node_cmp nat_cmp (signature S rank w) (signature S rank v) ≡ kind_cmp (suc k) (kind S (suc k) w) (kind S (suc k) v)
  signatures w v a b = ap₂ ordering_then (ranks w v a b) (agent_rows w v S.links a b s.within)
