-- Sums over lists and over all bindings, and how many objects a set and a binding share.
use Rattle.std.proofs.Common.{◌≡◌, ℕ, ◌+◌, ◌*◌, Bool, true, false, ◌&&◌, not, cond, List, [], ◌∷◌, length, map, filter, refl, ap, ◌∙◌, sym, arith}
use Rattle.std.specs.Prelude.{◌==◌, ◌||◌}
use Rattle.std.specs.List.{flat_map, sum_by}
use Rattle.std.proofs.lemmas.List.Sums.{sum_by-cons, sum_by-append}
use Rattle.std.proofs.lemmas.Bool.Decides.{Decides-eqb}
use Rattle.std.proofs.Math.Nat.{mul_comm}
use Rattle.ep_binding.specs.Bindings.{bindings, distinct_bindings, all_different, contains, with_first}

abbrev pub one : Bool → ℕ
one b = cond b 1 0

module _ {X : Type 0} where
  -- sums
  pub sum-zero : (xs : List X) → sum_by (λ x. 0) xs ≡ 0
  sum-zero [] = refl
  sum-zero (x ∷ xs) = let h = sum-zero xs in let e = sum_by-cons (λ x. 0) x xs in omega arith

  pub sum-plus : (f g : X → ℕ) (xs : List X) → sum_by (λ x. f x + g x) xs ≡ sum_by f xs + sum_by g xs
  sum-plus f g [] = omega arith
  sum-plus f g (x ∷ xs) =
      let h = sum-plus f g xs in
      let e = sum_by-cons (λ x. f x + g x) x xs in
      let p = sum_by-cons f x xs in
      let q = sum_by-cons g x xs in
      omega arith

  pub sum-times : (f : X → ℕ) (n : ℕ) (xs : List X) → sum_by (λ x. n * f x) xs ≡ n * sum_by f xs
  sum-times f n [] = omega arith
  sum-times f n (x ∷ xs) =
      let h = sum-times f n xs in
      sum_by-cons (λ x. n * f x) x xs ∙ ap (λ k. n * f x + k) h ∙ (let d : n * f x + n * sum_by f xs ≡ n * (f x + sum_by f xs) = omega arith in d) ∙ ap (λ k. n * k) (sym (sum_by-cons f x xs))

  pub sum-same : (f g : X → ℕ) (xs : List X) → ((x : X) → f x ≡ g x) → sum_by f xs ≡ sum_by g xs
  sum-same f g xs h = λ i. sum_by (λ x. h x i) xs

  pub sum-map : {Y : Type 0} (f : X → ℕ) (g : Y → X) (ys : List Y) → sum_by f (map g ys) ≡ sum_by (λ y. f (g y)) ys
  sum-map f g [] = refl
  sum-map f g (y ∷ ys) = sum_by-cons f (g y) (map g ys) ∙ ap (λ k. f (g y) + k) (sum-map f g ys) ∙ sym (sum_by-cons (λ y. f (g y)) y ys)

  filter_step : (p : X → Bool) (f : X → ℕ) (x : X) (xs : List X) (b : Bool) → sum_by f (cond b (x ∷ filter p xs) (filter p xs)) ≡ one b * f x + sum_by f (filter p xs)
  filter_step p f x xs true = let e = sum_by-cons f x (filter p xs) in omega arith
  filter_step p f x xs false = omega arith

  pub sum-filter : (p : X → Bool) (f : X → ℕ) (xs : List X) → sum_by f (filter p xs) ≡ sum_by (λ x. one (p x) * f x) xs
  sum-filter p f [] = refl
  sum-filter p f (x ∷ xs) =
      filter_step p f x xs (p x) ∙ ap (λ k. one (p x) * f x + k) (sum-filter p f xs) ∙ sym (sum_by-cons (λ x. one (p x) * f x) x xs)

  pub length-sum : (xs : List X) → length xs ≡ sum_by (λ x. 1) xs
  length-sum [] = refl
  length-sum (x ∷ xs) = let h = length-sum xs in let e = sum_by-cons (λ x. 1) x xs in omega arith

pub sum-swap : {X Y : Type 0} (f : X → Y → ℕ) (xs : List X) (ys : List Y) → sum_by (λ x. sum_by (f x) ys) xs ≡ sum_by (λ y. sum_by (λ x. f x y) xs) ys
sum-swap f [] ys = sym (sum-zero ys)
sum-swap f (x ∷ xs) ys =
    sum_by-cons (λ x. sum_by (f x) ys) x xs
    ∙ ap (λ k. sum_by (f x) ys + k) (sum-swap f xs ys)
    ∙ sym (sum-plus (f x) (λ y. sum_by (λ x. f x y) xs) ys)
    ∙ sum-same (λ y. f x y + sum_by (λ x. f x y) xs) (λ y. sum_by (λ x. f x y) (x ∷ xs)) ys (λ y. sym (sum_by-cons (λ x. f x y) x xs))

-- a sum over all bindings, by the first object
sum-extended : (f : List ℕ → ℕ) (bs : List (List ℕ)) (c : List ℕ) →
    sum_by f (flat_map (with_first bs) c) ≡ sum_by (λ o. sum_by (λ b. f (o ∷ b)) bs) c
sum-extended f bs [] = refl
sum-extended f bs (o ∷ c) =
    sum_by-append f (with_first bs o) (flat_map (with_first bs) c)
    ∙ (λ i. sum-map f (λ (b : List ℕ). o ∷ b) bs i + sum-extended f bs c i)
    ∙ sym (sum_by-cons (λ o. sum_by (λ b. f (o ∷ b)) bs) o c)

pub sum-bindings : (f : List ℕ → ℕ) (c : List ℕ) (cs : List (List ℕ)) → sum_by f (bindings (c ∷ cs)) ≡ sum_by (λ o. sum_by (λ b. f (o ∷ b)) (bindings cs)) c
sum-bindings f c cs = sum-extended f (bindings cs) c

mul-one-right : (n : ℕ) → n * 1 ≡ n
mul-one-right n = omega arith

pub add-mul-right : (a b c : ℕ) → (a + b) * c ≡ a * c + b * c
add-mul-right a b c = omega arith

-- ---- tests
pub and-left : (p q : Bool) → (p && q) ≡ true → p ≡ true
and-left true q h = refl
and-left false q h = h

pub and-right : (p q : Bool) → (p && q) ≡ true → q ≡ true
and-right true q h = h
and-right false q h = cc

not-true : (p : Bool) → not p ≡ true → p ≡ false
not-true true h = cc
not-true false h = refl

one-or : (p q : Bool) → (p ≡ true → q ≡ false) → one (p || q) ≡ one p + one q
one-or true q h = let e = ap one (h refl) in omega arith
one-or false q h = omega arith

pub test_comm : (x y : ℕ) (p q : Bool) → (x == y) ≡ p → (y == x) ≡ q → p ≡ q
test_comm x y true true h k = refl
test_comm x y false false h k = refl
test_comm x y true false h k = sym ((Decides-eqb y x).1 (sym ((Decides-eqb x y).0 h))) ∙ k
test_comm x y false true h k = sym h ∙ (Decides-eqb x y).1 (sym ((Decides-eqb y x).0 k))

-- a list without repeats contains an object once at most
one-contains : (a : ℕ) (xs : List ℕ) → all_different xs ≡ true → one (contains xs a) ≡ sum_by (λ y. one (y == a)) xs
one-contains a [] h = refl
one-contains a (x ∷ xs) h =
    let apart = not-true (contains xs x) (and-left (not (contains xs x)) (all_different xs) h) in
    one-or (x == a) (contains xs a) (λ e. ap (contains xs) (sym ((Decides-eqb x a).0 e)) ∙ apart)
    ∙ ap (λ k. one (x == a) + k) (one-contains a xs (and-right (not (contains xs x)) (all_different xs) h))
    ∙ sym (sum_by-cons (λ y. one (y == a)) x xs)

-- how many objects of a binding stand in a list
abbrev pub shared : List ℕ → List ℕ → ℕ
shared a b = sum_by (λ y. one (contains a y)) b

-- counted from either list
pub shared_comm : (a b : List ℕ) → all_different a ≡ true → all_different b ≡ true → shared b a ≡ shared a b
shared_comm a b h k =
    sum-same (λ x. one (contains b x)) (λ x. sum_by (λ y. one (y == x)) b) a (λ x. one-contains x b k)
    ∙ sum-swap (λ x y. one (y == x)) a b
    ∙ sum-same (λ y. sum_by (λ x. one (y == x)) a) (λ y. one (contains a y)) b (λ y.
    sum-same (λ x. one (y == x)) (λ x. one (x == y)) a (λ x. ap one (test_comm y x (y == x) (x == y) refl refl)) ∙ sym (one-contains y a h))

complement : (p d : Bool) → one (not p && d) + one d * one p ≡ one d
complement true true = refl
complement true false = refl
complement false true = refl
complement false false = refl

weighed : (a b : List ℕ) → all_different a ≡ true → (d : Bool) → all_different b ≡ d → one d * shared b a ≡ one d * shared a b
weighed a b h true k = ap (λ n. 1 * n) (shared_comm a b h k)
weighed a b h false k = omega arith

-- the objects of a list before one binding
pub before-one : (a b : List ℕ) → all_different a ≡ true →
    sum_by (λ x. one (all_different (x ∷ b))) a + one (all_different b) * shared a b ≡ length a * one (all_different b)
before-one a b h =
    ap (λ n. sum_by (λ x. one (all_different (x ∷ b))) a + n) (sym (weighed a b h (all_different b) refl) ∙ sym (sum-times (λ x. one (contains b x)) (one (all_different b)) a))
    ∙ sym (sum-plus (λ x. one (all_different (x ∷ b))) (λ x. one (all_different b) * one (contains b x)) a)
    ∙ sum-same (λ x. one (all_different (x ∷ b)) + one (all_different b) * one (contains b x)) (λ x. one (all_different b) * 1) a (λ x. complement (contains b x) (all_different b) ∙ sym (mul-one-right (one (all_different b))))
    ∙ sum-times (λ x. 1) (one (all_different b)) a
    ∙ ap (λ n. one (all_different b) * n) (sym (length-sum a))
    ∙ mul_comm (one (all_different b)) (length a)

pub distinct-sum : (cs : List (List ℕ)) → length (distinct_bindings cs) ≡ sum_by (λ b. one (all_different b)) (bindings cs)
distinct-sum cs =
    length-sum (distinct_bindings cs) ∙ sum-filter all_different (λ b. 1) (bindings cs)
    ∙ sum-same (λ b. one (all_different b) * 1) (λ b. one (all_different b)) (bindings cs) (λ b. mul-one-right (one (all_different b)))
