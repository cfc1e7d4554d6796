use Rattle.std.proofs.Common.{◌≡◌, ℕ, List, [], ◌∷◌, Bool, true, false, refl, sym, ap, ap₂, subst, ◌∙◌, Ordering, Less, Equal, Greater, arith, ◌⊎◌, inl, inr, map, filter, cond, ◌==◌}
use Rattle.std.specs.Ordering.{ordering_reverse}
use Rattle.std.specs.List.{AllByRecursion}
use Rattle.std.proofs.lemmas.Cmp.{tied_itself}
use Rattle.std.proofs.lemmas.Bool.Decides.{nat_tests}
use Rattle.ep_theory.specs.Rising.{IsIn, IsRising, by_order, placed, rising}
use Rattle.ep_theory.specs.Kripke.{successors}
use Rattle.ep_theory.proofs.lists.Orders.{IsExact}

pub IsIn-map : {A B : Type 0} (f : A → B) (x : A) (xs : List A) → IsIn x xs → IsIn (f x) (map f xs)
IsIn-map f x [] h = absurd h
IsIn-map f x (y ∷ ys) (inl e) = inl (ap f e)
IsIn-map f x (y ∷ ys) (inr h) = inr (IsIn-map f x ys h)

pub from_map : {A B : Type 0} (f : A → B) (y : B) (xs : List A) → IsIn y (map f xs) → (x : A) × IsIn x xs × (y ≡ f x)
from_map f y [] h = absurd h
from_map f y (x ∷ xs) (inl e) = (x, inl refl, e)
from_map f y (x ∷ xs) (inr h) =
    let r = from_map f y xs h in
    (r.0, inr r.1, r.2)

pub at_All : {A : Type 0} (P : A → Type 0) (x : A) (xs : List A) → AllByRecursion P xs → IsIn x xs → P x
at_All P x [] a h = absurd h
at_All P x (y ∷ ys) a (inl e) = subst P (sym e) a.0
at_All P x (y ∷ ys) a (inr h) = at_All P x ys a.1 h

pub All-from_each : {A : Type 0} (P : A → Type 0) (xs : List A) → ((x : A) → IsIn x xs → P x) → AllByRecursion P xs
All-from_each P [] f = tt
All-from_each P (x ∷ xs) f = (f x (inl refl), All-from_each P xs (λ y h. f y (inr h)))

by_cases : {A : Type 0} (P : A → Type 0) (o : Ordering) (x y z : A) → (o ≡ Less → P x) → (o ≡ Equal → P y) → (o ≡ Greater → P z) → P (by_order o x y z)
by_cases P Less x y z f g h = f refl
by_cases P Equal x y z f g h = g refl
by_cases P Greater x y z f g h = h refl

later : {A : Type 0} (z x y : A) (ys : List A) → (z ≡ x) ⊎ IsIn z ys → (z ≡ x) ⊎ IsIn z (y ∷ ys)
later z x y ys (inl q) = inl q
later z x y ys (inr i) = inr (inr i)

after_placed : {A : Type 0} (z x : A) (zs xs : List A) → (z ≡ x) ⊎ IsIn z zs → (IsIn z zs → IsIn z xs) → IsIn z (x ∷ xs)
after_placed z x zs xs (inl q) f = inl q
after_placed z x zs xs (inr i) f = inr (f i)

module _ {A : Type 0} (R : A → A → Ordering) (e : IsExact R) where
  pub not_below_itself : (x : A) → R x x ≡ Less → ⊥
  not_below_itself x h = let t = tied_itself e.total x in cc

  pub not_both_below : (x y : A) → R x y ≡ Less → R y x ≡ Less → ⊥
  not_both_below x y h g = not_below_itself x (e.total.trans x y x h g)

  pub below_from_above : (x y : A) → R x y ≡ Greater → R y x ≡ Less
  below_from_above x y h = e.total.antisymm y x ∙ ap ordering_reverse h

  -- membership
  pub IsIn-placed_here : (x : A) (ys : List A) → IsIn x (placed R x ys)
  IsIn-placed_here x [] = inl refl
  IsIn-placed_here x (y ∷ ys) =
      by_cases (λ zs. IsIn x zs) (R x y) _ _ _ (λ h. inl refl) (λ h. inl (e.same x y h)) (λ h. inr (IsIn-placed_here x ys))

  pub IsIn-placed_later : (z x : A) (ys : List A) → IsIn z ys → IsIn z (placed R x ys)
  IsIn-placed_later z x [] h = absurd h
  IsIn-placed_later z x (y ∷ ys) (inl q) = by_cases (λ zs. IsIn z zs) (R x y) _ _ _ (λ h. inr (inl q)) (λ h. inl q) (λ h. inl q)
  IsIn-placed_later z x (y ∷ ys) (inr i) = by_cases (λ zs. IsIn z zs) (R x y) _ _ _ (λ h. inr (inr i)) (λ h. inr i) (λ h. inr (IsIn-placed_later z x ys i))

  pub from_placed : (z x : A) (ys : List A) → IsIn z (placed R x ys) → (z ≡ x) ⊎ IsIn z ys
  from_placed z x [] (inl q) = inl q
  from_placed z x [] (inr i) = absurd i
  from_placed z x (y ∷ ys) h =
      by_cases (λ zs. IsIn z zs → (z ≡ x) ⊎ IsIn z (y ∷ ys)) (R x y) _ _ _
      (λ h i. i)
      (λ h i. inr i)
      (λ _. elim [ inl q ↦ inr (inl q) | inr i ↦ later z x y ys (from_placed z x ys i) ])
      h

  pub IsIn-rising : (z : A) (xs : List A) → IsIn z xs → IsIn z (rising R xs)
  IsIn-rising z [] h = h
  IsIn-rising z (x ∷ xs) (inl q) = subst (λ v. IsIn v (placed R x (rising R xs))) (sym q) (IsIn-placed_here x (rising R xs))
  IsIn-rising z (x ∷ xs) (inr i) = IsIn-placed_later z x (rising R xs) (IsIn-rising z xs i)

  pub from_rising : (z : A) (xs : List A) → IsIn z (rising R xs) → IsIn z xs
  from_rising z [] h = h
  from_rising z (x ∷ xs) h = after_placed z x (rising R xs) xs (from_placed z x (rising R xs) h) (from_rising z xs)

  -- order
  above_all : (x y : A) (ys : List A) → R x y ≡ Less → AllByRecursion (λ z. R y z ≡ Less) ys → AllByRecursion (λ z. R x z ≡ Less) ys
  above_all x y [] h a = tt
  above_all x y (z ∷ zs) h a = (e.total.trans x y z h a.0, above_all x y zs h a.1)

  above_placed : (y x : A) (ys : List A) → R y x ≡ Less → AllByRecursion (λ z. R y z ≡ Less) ys → AllByRecursion (λ z. R y z ≡ Less) (placed R x ys)
  above_placed y x [] h a = (h, tt)
  above_placed y x (z ∷ zs) h a =
      by_cases (λ l. AllByRecursion (λ z. R y z ≡ Less) l) (R x z) _ _ _ (λ _. (h, a)) (λ _. a) (λ _. (a.0, above_placed y x zs h a.1))

  pub IsRising-placed : (x : A) (ys : List A) → IsRising R ys → IsRising R (placed R x ys)
  IsRising-placed x [] h = (tt, tt)
  IsRising-placed x (y ∷ ys) h =
      by_cases (λ l. IsRising R l) (R x y) _ _ _
      (λ l. ((l, above_all x y ys l h.0), h))
      (λ _. h)
      (λ g. (above_placed y x ys (below_from_above x y g) h.0, IsRising-placed x ys h.1))

  pub IsRising-rising : (xs : List A) → IsRising R (rising R xs)
  IsRising-rising [] = tt
  IsRising-rising (x ∷ xs) = IsRising-placed x (rising R xs) (IsRising-rising xs)

  -- two strictly rising lists with the same elements are equal
  heads : (x y : A) (xs ys : List A) → IsRising R (x ∷ xs) → IsRising R (y ∷ ys) → IsIn x (y ∷ ys) → IsIn y (x ∷ xs) → x ≡ y
  heads x y xs ys g h (inl q) j = q
  heads x y xs ys g h (inr i) (inl q) = sym q
  heads x y xs ys g h (inr i) (inr j) = absurd (not_both_below x y (at_All _ y xs g.0 j) (at_All _ x ys h.0 i))

  tails : (x y : A) (xs ys : List A) → x ≡ y → IsRising R (x ∷ xs) → ((z : A) → IsIn z (x ∷ xs) → IsIn z (y ∷ ys)) → (z : A) → IsIn z xs → IsIn z ys
  tails x y xs ys q g sub z i = go (sub z (inr i))
    where
      go : (z ≡ y) ⊎ IsIn z ys → IsIn z ys
      go (inl p) = let below : R x z ≡ Less = at_All (λ z. R x z ≡ Less) z xs g.0 i in absurd (not_below_itself x (ap (R x) (q ∙ sym p) ∙ below))
      go (inr j) = j

  pub same_rising : (xs ys : List A) → IsRising R xs → IsRising R ys → ((z : A) → IsIn z xs → IsIn z ys) → ((z : A) → IsIn z ys → IsIn z xs) → xs ≡ ys
  same_rising [] [] g h f b = refl
  same_rising [] (y ∷ ys) g h f b = absurd (b y (inl refl))
  same_rising (x ∷ xs) [] g h f b = absurd (f x (inl refl))
  same_rising (x ∷ xs) (y ∷ ys) g h f b =
      let q = heads x y xs ys g h (f x (inl refl)) (b y (inl refl)) in
      ap₂ (λ a as'. a ∷ as') q (same_rising xs ys g.1 h.1 (tails x y xs ys q g f) (tails y x ys xs (sym q) h b))

  pub rising_alike : (xs ys : List A) → ((z : A) → IsIn z xs → IsIn z ys) → ((z : A) → IsIn z ys → IsIn z xs) → rising R xs ≡ rising R ys
  rising_alike xs ys f b = same_rising (rising R xs) (rising R ys) (IsRising-rising xs) (IsRising-rising ys)
      (λ z i. IsIn-rising z ys (f z (from_rising z xs i)))
      (λ z i. IsIn-rising z xs (b z (from_rising z ys i)))

-- the successors of w are what w is paired with
pub equal_from_test : (m n : ℕ) → (m == n) ≡ true → m ≡ n
equal_from_test m n h = grind (arith, nat_tests)

pub test_itself : (n : ℕ) → (n == n) ≡ true
test_itself n = grind (arith, nat_tests)

from_kept : (w v : ℕ) (p : ℕ × ℕ) (ps qs : List (ℕ × ℕ)) (b : Bool) → (p.0 == w) ≡ b → (IsIn v (map (λ x. x.1) qs) → IsIn {A = ℕ × ℕ} (w, v) ps) → IsIn v (map {A = ℕ × ℕ} (λ x. x.1) (cond b (p ∷ qs) qs)) → IsIn {A = ℕ × ℕ} (w, v) (p ∷ ps)
from_kept w v p ps qs true q f (inl e) = inl (λ i. (sym (equal_from_test p.0 w q) i, e i))
from_kept w v p ps qs true q f (inr i) = inr (f i)
from_kept w v p ps qs false q f i = inr (f i)

pub from_successors : (w v : ℕ) (pairs : List (ℕ × ℕ)) → IsIn v (successors pairs w) → IsIn (w, v) pairs
from_successors w v [] h = absurd h
from_successors w v (p ∷ ps) h = from_kept w v p ps (filter (λ x. x.0 == w) ps) (p.0 == w) refl (from_successors w v ps) h

more_kept : (v : ℕ) (p : ℕ × ℕ) (qs : List (ℕ × ℕ)) (b : Bool) → IsIn v (map (λ x. x.1) qs) → IsIn v (map {A = ℕ × ℕ} (λ x. x.1) (cond b (p ∷ qs) qs))
more_kept v p qs true i = inr i
more_kept v p qs false i = i

pub IsIn-successors : (w v : ℕ) (pairs : List (ℕ × ℕ)) → IsIn (w, v) pairs → IsIn v (successors pairs w)
IsIn-successors w v [] h = absurd h
IsIn-successors w v (p ∷ ps) (inl q) =
    let t : (p.0 == w) ≡ true = ap (λ x. x == w) (sym (ap {A = ℕ × ℕ} (λ x. x.0) q)) ∙ test_itself w in
    let P : Bool → Type 0 = λ b. IsIn v (map {A = ℕ × ℕ} (λ x. x.1) (cond b (p ∷ filter (λ x. x.0 == w) ps) (filter (λ x. x.0 == w) ps))) in
    subst P (sym t) (inl (ap {A = ℕ × ℕ} (λ x. x.1) q))
IsIn-successors w v (p ∷ ps) (inr i) = more_kept v p (filter (λ x. x.0 == w) ps) (p.0 == w) (IsIn-successors w v ps i)
