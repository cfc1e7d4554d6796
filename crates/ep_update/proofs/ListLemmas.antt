-- Loops over lists: what holds of the front, and the first element that passes.
use Rattle.std.proofs.Common.{◌≡◌, ℕ, zero, suc, ◌+◌, ◌<◌, ◌≤◌, Bool, true, false, cond, List, [], ◌∷◌, ◌++◌, map, length, get_or, take, find, Option, Some, None, refl, sym, ◌∙◌, ap, arith, add-one}
use Rattle.std.proofs.lemmas.Option.{none-some}
use Rattle.std.proofs.lemmas.List.{take_more, map-append}
use Rattle.std.proofs.lemmas.List.Folds.{list_any-append}
use Rattle.std.specs.List.{AllByRecursion, list_any}

all_next : {X : Type 0} (P : X → Type 0) (xs : List X) (i : ℕ) (d : X) → i < length xs → AllByRecursion P (take i xs) → P (get_or xs i d) → AllByRecursion P (take (suc i) xs)
all_next P [] i d l a h = absurd (omega arith)
all_next P (x ∷ xs) zero d l a h = (h, tt)
all_next P (x ∷ xs) (suc i) d l a h = (a.0, all_next P xs i d (omega arith) a.1 h)

-- one element more
pub all_more : {X : Type 0} (P : X → Type 0) (xs : List X) (i : ℕ) (d : X) → i < length xs → AllByRecursion P (take i xs) → P (get_or xs i d) → AllByRecursion P (take (i + 1) xs)
all_more P xs i d l a h = rw add-one (all_next P xs i d l a h)

pub map_more : {X Y : Type 0} (f : X → Y) (xs : List X) (i : ℕ) (d : X) → i < length xs → map f (take (i + 1) xs) ≡ map f (take i xs) ++ f (get_or xs i d) ∷ []
map_more f xs i d l = ap (map f) (take_more xs i d l) ∙ map-append f (take i xs) (get_or xs i d ∷ [])

pub any_more : {X : Type 0} (p : X → Bool) (xs : List X) (i : ℕ) (d : X) → i < length xs → list_any p (take i xs) ≡ false → p (get_or xs i d) ≡ false → list_any p (take (i + 1) xs) ≡ false
any_more p xs i d l n h = ap (list_any p) (take_more xs i d l) ∙ list_any-append p (take i xs) (get_or xs i d ∷ []) ∙ rw (n, h) refl

split_none : {X : Type 0} (b : Bool) (x : X) (o : Option X) → cond b (Some x) o ≡ None → (b ≡ false) × (o ≡ None)
split_none true x o n = absurd (none-some x (sym n))
split_none false x o n = (refl, n)

module _ {X : Type 0} (q : X → Bool) (d : X) where
  none_next : (xs : List X) (i : ℕ) → i < length xs → find q (take i xs) ≡ None → q (get_or xs i d) ≡ false → find q (take (suc i) xs) ≡ None
  none_next [] i l n h = absurd (omega arith)
  none_next (x ∷ xs) zero l n h = rw h refl
  none_next (x ∷ xs) (suc i) l n h =
      let p = split_none (q x) x (find q (take i xs)) n in
      rw p.0 (none_next xs i (omega arith) p.1 h)

  pub find_none_more : (xs : List X) (i : ℕ) → i < length xs → find q (take i xs) ≡ None → q (get_or xs i d) ≡ false → find q (take (i + 1) xs) ≡ None
  find_none_more xs i l n h = rw add-one (none_next xs i l n h)

  pub find_at : (xs : List X) (i : ℕ) → i < length xs → find q (take i xs) ≡ None → q (get_or xs i d) ≡ true → find q xs ≡ Some (get_or xs i d)
  find_at [] i l n h = absurd (omega arith)
  find_at (x ∷ xs) zero l n h = rw h refl
  find_at (x ∷ xs) (suc i) l n h =
      let p = split_none (q x) x (find q (take i xs)) n in
      rw p.0 (find_at xs i (omega arith) p.1 h)

pub take_past : {X : Type 0} (xs : List X) (i : ℕ) → length xs ≤ i → take i xs ≡ xs
take_past [] zero l = refl
take_past [] (suc i) l = refl
take_past (x ∷ xs) zero l = absurd (omega arith)
take_past (x ∷ xs) (suc i) l = ap (λ l. x ∷ l) (take_past xs i (omega arith))

pub map_push : {X Y : Type 0} (f : X → Y) (xs : List X) (i : ℕ) (d : X) (old new : List Y) (y : Y) → i < length xs → old ≡ map f (take i xs) → y ≡ f (get_or xs i d) → new ≡ old ++ y ∷ [] → new ≡ map f (take (i + 1) xs)
map_push f xs i d old new y l o h n = n ∙ ap (λ ys. ys ++ y ∷ []) o ∙ ap (λ z. map f (take i xs) ++ z ∷ []) h ∙ sym (map_more f xs i d l)
