-- Lists of marks and of tokens.
use Rattle.std.proofs.Common.{◌≡◌, ℕ, zero, suc, ◌+◌, ◌-◌, ◌≤◌, ◌<◌, List, [], ◌∷◌, ◌++◌, length, map, Some, None, IfSome, refl, sym, ap, ◌∙◌, subst, arith}
use Rattle.ep_tree.specs.Marks.{Mark, texts, PlacedFrom, IsShallow, nesting_at}
use Rattle.ep_reader.specs.Reading.{Token}
use Rattle.ep_tree.proofs.CallerLemmas.{length-texts}

-- ---- tokens

-- The first n tokens are the same, where the end of a list counts as one more token.
abbrev pub Agree : ℕ → List Token → List Token → Type 0
Agree zero xs ys = Unit {0}
Agree (suc n) [] [] = Unit {0}
Agree (suc n) [] (y ∷ ys) = ⊥
Agree (suc n) (x ∷ xs) [] = ⊥
Agree (suc n) (x ∷ xs) (y ∷ ys) = (x ≡ y) × Agree n xs ys

Agree-fewer : (m n : ℕ) (xs ys : List Token) → Agree (m + n) xs ys → Agree m xs ys
Agree-fewer zero n xs ys a = tt
Agree-fewer (suc m) n [] [] a = tt
Agree-fewer (suc m) n [] (y ∷ ys) a = let h : suc m + n ≡ suc (m + n) = omega arith in rw h at a
Agree-fewer (suc m) n (x ∷ xs) [] a = let h : suc m + n ≡ suc (m + n) = omega arith in rw h at a
Agree-fewer (suc m) n (x ∷ xs) (y ∷ ys) a =
    let h : suc m + n ≡ suc (m + n) = omega arith in
    let b : Agree (suc (m + n)) (x ∷ xs) (y ∷ ys) = subst (λ k. Agree k (x ∷ xs) (y ∷ ys)) h a in
    (b.0, Agree-fewer m n xs ys b.1)

pub Agree-less : (m n : ℕ) (xs ys : List Token) → m ≤ n → Agree n xs ys → Agree m xs ys
Agree-less m n xs ys l a = let h : n ≡ m + (n - m) = omega arith in Agree-fewer m (n - m) xs ys (subst (λ k. Agree k xs ys) h a)

-- behind a common front
pub Agree-behind : (front : List Token) (n : ℕ) (xs ys : List Token) → Agree (length front + n) (front ++ xs) (front ++ ys) → Agree n xs ys
Agree-behind [] n xs ys a = let h : 0 + n ≡ n = omega arith in subst (λ k. Agree k xs ys) h a
Agree-behind (t ∷ front) n xs ys a =
    let h : suc (length front) + n ≡ suc (length front + n) = omega arith in
    let b : Agree (suc (length front + n)) (t ∷ (front ++ xs)) (t ∷ (front ++ ys)) = subst (λ k. Agree k (t ∷ (front ++ xs)) (t ∷ (front ++ ys))) h a in
    Agree-behind front n xs ys b.1

pub Agree-same : (n : ℕ) (xs : List Token) → Agree n xs xs
Agree-same zero xs = tt
Agree-same (suc n) [] = tt
Agree-same (suc n) (x ∷ xs) = (refl, Agree-same n xs)

-- ---- numbers and places

pub PlacedFrom-append : (n : ℕ) (xs ys : List Mark) → PlacedFrom n xs → PlacedFrom (n + length xs) ys → PlacedFrom n (xs ++ ys)
PlacedFrom-append n [] ys p q = let h : n + 0 ≡ n = omega arith in subst (λ k. PlacedFrom k ys) h q
PlacedFrom-append n (x ∷ xs) ys p q =
    let h : n + suc (length xs) ≡ n + 1 + length xs = omega arith in
    (p.0, PlacedFrom-append (n + 1) xs ys p.1 (subst (λ k. PlacedFrom k ys) h q))

abbrev pub unnumbered : Mark → Mark
unnumbered m = record { number = None; text = m.text; nesting = m.nesting }

-- the marks without their numbers
abbrev pub outline : List Mark → List Mark
outline marks = map unnumbered marks

pub outline-append : (xs ys : List Mark) → outline (xs ++ ys) ≡ outline xs ++ outline ys
outline-append [] ys = refl
outline-append (x ∷ xs) ys = ap (λ ms. unnumbered x ∷ ms) (outline-append xs ys)

texts-outline : (xs : List Mark) → texts (outline xs) ≡ texts xs
texts-outline [] = refl
texts-outline (x ∷ xs) = ap (λ z. x.text ∷ z) (texts-outline xs)

pub texts-same : (xs ys : List Mark) → outline xs ≡ outline ys → texts xs ≡ texts ys
texts-same xs ys e = sym (texts-outline xs) ∙ ap texts e ∙ texts-outline ys

pub length-same : (xs ys : List Mark) → outline xs ≡ outline ys → length xs ≡ length ys
length-same xs ys e = sym (length-texts xs) ∙ ap length (texts-same xs ys e) ∙ length-texts ys

-- ---- nesting

to_outline : (xs : List Mark) → IsShallow xs → IsShallow (outline xs)
to_outline [] s = tt
to_outline (x ∷ xs) s = (s.0, to_outline xs s.1)

from_outline : (xs : List Mark) → IsShallow (outline xs) → IsShallow xs
from_outline [] s = tt
from_outline (x ∷ xs) s = (s.0, from_outline xs s.1)

pub IsShallow-same : (xs ys : List Mark) → outline xs ≡ outline ys → IsShallow xs → IsShallow ys
IsShallow-same xs ys e s = from_outline ys (subst IsShallow e (to_outline xs s))

pub IsShallow-append : (xs ys : List Mark) → IsShallow xs → IsShallow ys → IsShallow (xs ++ ys)
IsShallow-append [] ys s t = t
IsShallow-append (x ∷ xs) ys s t = (s.0, IsShallow-append xs ys s.1 t)

-- no formula with a nesting above 64 begins with the first n tokens
abbrev pub IsShallowTo : ℕ → List Mark → Type 0
IsShallowTo zero ms = Unit {0}
IsShallowTo (suc n) [] = Unit {0}
IsShallowTo (suc n) (m ∷ ms) = IfSome m.nesting (λ nesting. nesting ≤ 64) × IsShallowTo n ms

pub IsShallowTo-behind : (xs : List Mark) (n : ℕ) (ys : List Mark) → IsShallow xs → IsShallowTo n ys → IsShallowTo (length xs + n) (xs ++ ys)
IsShallowTo-behind [] n ys s t = let h : n ≡ 0 + n = omega arith in subst (λ k. IsShallowTo k ys) h t
IsShallowTo-behind (x ∷ xs) n ys s t =
    let h : suc (length xs + n) ≡ suc (length xs) + n = omega arith in
    subst (λ k. IsShallowTo k (x ∷ (xs ++ ys))) h (s.0, IsShallowTo-behind xs n ys s.1 t)

pub IsShallowTo-more : (n : ℕ) (xs ys : List Mark) → n ≤ length xs → IsShallowTo n xs → IsShallowTo n (xs ++ ys)
IsShallowTo-more zero xs ys l s = tt
IsShallowTo-more (suc n) [] ys l s = absurd (omega arith)
IsShallowTo-more (suc n) (x ∷ xs) ys l s = (s.0, IsShallowTo-more n xs ys (omega arith) s.1)

-- a formula of nesting 65 begins with token i
abbrev pub Opens : ℕ → List Mark → Type 0
Opens i ms = nesting_at ms i ≡ Some 65

pub Opens-behind : (xs : List Mark) (i : ℕ) (ys : List Mark) → Opens i ys → Opens (length xs + i) (xs ++ ys)
Opens-behind [] i ys o = let h : i ≡ 0 + i = omega arith in subst (λ k. Opens k ys) h o
Opens-behind (x ∷ xs) i ys o =
    let h : suc (length xs + i) ≡ suc (length xs) + i = omega arith in
    subst (λ k. Opens k (x ∷ (xs ++ ys))) h (Opens-behind xs i ys o)

pub Opens-more : (i : ℕ) (xs ys : List Mark) → Opens i xs → Opens i (xs ++ ys)
Opens-more i [] ys o = absurd (cc)
Opens-more zero (x ∷ xs) ys o = o
Opens-more (suc i) (x ∷ xs) ys o = Opens-more i xs ys o

pub Opens-within : (i : ℕ) (xs : List Mark) → Opens i xs → i < length xs
Opens-within i [] o = absurd (cc)
Opens-within zero (x ∷ xs) o = omega arith
Opens-within (suc i) (x ∷ xs) o = let l = Opens-within i xs o in omega (arith, l)

pub shallow_opens : (n i : ℕ) (xs : List Mark) → i < n → IsShallowTo n xs → Opens i xs → ⊥
shallow_opens n i [] l s o = cc
shallow_opens zero i (x ∷ xs) l s o = omega arith
shallow_opens (suc n) zero (x ∷ xs) l s o = let h : 65 ≤ 64 = subst (λ z. IfSome z (λ nesting. nesting ≤ 64)) o s.0 in omega (arith, h)
shallow_opens (suc n) (suc i) (x ∷ xs) l s o = shallow_opens n i xs (omega arith) s.1 o

pub shallow_to : (n : ℕ) (xs : List Mark) → IsShallow xs → IsShallowTo n xs
shallow_to zero xs s = tt
shallow_to (suc n) [] s = tt
shallow_to (suc n) (x ∷ xs) s = (s.0, shallow_to n xs s.1)

-- ---- no formula begins

abbrev pub Flat : List Mark → Type 0
Flat [] = Unit {0}
Flat (m ∷ ms) = (m.nesting ≡ None) × Flat ms

pub flat_append : (xs ys : List Mark) → Flat xs → Flat ys → Flat (xs ++ ys)
flat_append [] ys f g = g
flat_append (x ∷ xs) ys f g = (f.0, flat_append xs ys f.1 g)

pub flat_shallow : (ms : List Mark) → Flat ms → IsShallow ms
flat_shallow [] f = tt
flat_shallow (m ∷ ms) f = (rw f.0 tt, flat_shallow ms f.1)

pub flat_none : (ms : List Mark) (i : ℕ) → Flat ms → nesting_at ms i ≡ None
flat_none [] i f = refl
flat_none (m ∷ ms) zero f = f.0
flat_none (m ∷ ms) (suc i) f = flat_none ms i f.1
