use Rattle.std.proofs.Common.{◌≡◌, ℕ, zero, suc, ◌<◌, List, [], ◌∷◌, Bool, true, false, cond, refl, sym, ap, ◌∙◌, arith, inl, inr, ⊎_elim, map, filter, length, get_or}
use Rattle.ep_theory.specs.Rising.{IsIn}
use Rattle.ep_theory.proofs.lists.Bools.{or_left, or_right, or_parts}
use Rattle.std.specs.List.{AllByRecursion, list_any}

kept_step : {A : Type 0} (x y : A) (ys : List A) (b : Bool) → (IsIn x ys → IsIn x (cond b (y ∷ ys) ys)) × (b ≡ true → x ≡ y → IsIn x (cond b (y ∷ ys) ys))
kept_step x y ys true = (λ i. inr i, λ _ q. inl q)
kept_step x y ys false = (λ i. i, λ h _. cc)

pub IsIn-filter : {A : Type 0} (p : A → Bool) (x : A) (xs : List A) → IsIn x xs → p x ≡ true → IsIn x (filter p xs)
IsIn-filter p x [] i h = absurd i
IsIn-filter p x (y ∷ ys) (inl q) h = (kept_step x y (filter p ys) (p y)).1 (ap p (sym q) ∙ h) q
IsIn-filter p x (y ∷ ys) (inr i) h = (kept_step x y (filter p ys) (p y)).0 (IsIn-filter p x ys i h)

from_step : {A : Type 0} (p : A → Bool) (x y : A) (ys zs : List A) (b : Bool) → p y ≡ b → (IsIn x zs → IsIn x ys × (p x ≡ true)) → IsIn x (cond b (y ∷ zs) zs) → IsIn x (y ∷ ys) × (p x ≡ true)
from_step p x y ys zs true e f (inl q) = (inl q, ap p q ∙ e)
from_step p x y ys zs true e f (inr i) = let r = f i in (inr r.0, r.1)
from_step p x y ys zs false e f i = let r = f i in (inr r.0, r.1)

pub from_filter : {A : Type 0} (p : A → Bool) (x : A) (xs : List A) → IsIn x (filter p xs) → IsIn x xs × (p x ≡ true)
from_filter p x [] i = absurd i
from_filter p x (y ∷ ys) i = from_step p x y ys (filter p ys) (p y) refl (from_filter p x ys) i

pub to_any : {A : Type 0} (p : A → Bool) (x : A) (xs : List A) → IsIn x xs → p x ≡ true → list_any p xs ≡ true
to_any p x [] i h = absurd i
to_any p x (y ∷ ys) (inl q) h = or_left (p y) (list_any p ys) (ap p (sym q) ∙ h)
to_any p x (y ∷ ys) (inr i) h = or_right (p y) (list_any p ys) (to_any p x ys i h)

pub from_any : {A : Type 0} (p : A → Bool) (xs : List A) → list_any p xs ≡ true → (x : A) × IsIn x xs × (p x ≡ true)
from_any p [] h = absurd (cc)
from_any p (y ∷ ys) h = ⊎_elim (λ (g : p y ≡ true). (y, inl refl, g))
    (λ (g : list_any p ys ≡ true). let r = from_any p ys g in (r.0, inr r.1, r.2)) (or_parts (p y) (list_any p ys) h)

pub All-map : {A B : Type 0} (P : B → Type 0) (f : A → B) (xs : List A) → ((x : A) → IsIn x xs → P (f x)) → AllByRecursion P (map f xs)
All-map P f [] h = tt
All-map P f (x ∷ xs) h = (h x (inl refl), All-map P f xs (λ y i. h y (inr i)))

pub All-at : {A : Type 0} (P : A → Type 0) (xs : List A) (i : ℕ) (d : A) → i < length xs → AllByRecursion P xs → P (get_or xs i d)
All-at P [] i d h a = absurd (omega arith)
All-at P (x ∷ xs) zero d h a = a.0
All-at P (x ∷ xs) (suc i) d h a = All-at P xs i d (omega arith) a.1

pub IsIn-at : {A : Type 0} (xs : List A) (i : ℕ) (d : A) → i < length xs → IsIn (get_or xs i d) xs
IsIn-at [] i d h = absurd (omega arith)
IsIn-at (x ∷ xs) zero d h = inl refl
IsIn-at (x ∷ xs) (suc i) d h = inr (IsIn-at xs i d (omega arith))
