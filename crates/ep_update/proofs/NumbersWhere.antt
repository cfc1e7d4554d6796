-- Laws of the numbers below a bound that pass a test, by place.
use Rattle.std.proofs.Common.{◌≡◌, ℕ, zero, suc, ◌+◌, ◌-◌, ◌<◌, ◌≤◌, Bool, true, false, cond, ◌&&◌, List, [], ◌∷◌, ◌++◌, map, length, get_or, leb, refl, sym, ◌∙◌, ap, subst, arith, append-nil, append_assoc, add-zero, add-suc, add-one, inl, inr}
use Rattle.std.proofs.lemmas.Bool.{cases_lt, lt-leb, le-leb}
use Rattle.std.proofs.lemmas.List.{length-append, get_or_append_left, ext_get_or, length-map, get_or-append_right, get_or-map, map-append}
use Rattle.ep_logic.specs.Numbers.{numbers_where, pairs_within, table}
use Rattle.ep_logic.proofs.CallerLemmas.{length-snoc, length-table, get_or-table}

-- tests that agree below n choose the same numbers
pub numbers_where-same : (p q : ℕ → Bool) (n : ℕ) → ((i : ℕ) → i < n → p i ≡ q i) → numbers_where p n ≡ numbers_where q n
numbers_where-same p q zero h = refl
numbers_where-same p q (suc n) h =
    let here : p n ≡ q n = h n (omega arith) in
    rw (here, numbers_where-same p q n (λ i l. h i (omega arith))) refl

-- numbers that fail add nothing
skip : (p : ℕ → Bool) (a k : ℕ) → ((i : ℕ) → a ≤ i → i < a + k → p i ≡ false) → numbers_where p (a + k) ≡ numbers_where p a
skip p a zero h = rw add-zero refl
skip p a (suc k) h =
    let last : p (a + k) ≡ false = h (a + k) (omega arith) (omega arith) in
    rw (add-suc, last, append-nil) (skip p a k (λ i l m. h i l (omega arith)))

pub numbers_where-skip : (p : ℕ → Bool) (a b : ℕ) → a ≤ b → ((i : ℕ) → a ≤ i → i < b → p i ≡ false) → numbers_where p b ≡ numbers_where p a
numbers_where-skip p a b le h =
    let e : a + (b - a) ≡ b = omega arith in
    subst (λ x. numbers_where p x ≡ numbers_where p a) e (skip p a (b - a) (λ i l m. h i l (omega arith)))

pub numbers_where-none : (p : ℕ → Bool) (n : ℕ) → ((i : ℕ) → i < n → p i ≡ false) → numbers_where p n ≡ []
numbers_where-none p n h = numbers_where-skip p 0 n (omega arith) (λ i l m. h i m)

-- the numbers below b are those below a and those from a on
pub numbers_where-split : (p : ℕ → Bool) (a b : ℕ) → a ≤ b → numbers_where p b ≡ numbers_where p a ++ numbers_where (λ j. leb a j && p j) b
numbers_where-split p a zero h = let e : a ≡ 0 = omega arith in rw e refl
numbers_where-split p a (suc b) h = elim (cases_lt b a) [
  | inl l ↦ let e : a ≡ suc b = omega arith in
      sym (ap (λ ys. numbers_where p a ++ ys) (numbers_where-none (λ j. leb a j && p j) (suc b) (λ i m. rw (lt-leb a i (omega arith)) refl)) ∙ append-nil (numbers_where p a) ∙ ap (numbers_where p) e)
  | inr g ↦ rw (numbers_where-split p a b g, le-leb a b g) (append_assoc (numbers_where p a) (numbers_where (λ j. leb a j && p j) b) (cond (p b) (b ∷ []) []))
]

pub length-numbers_where : (p : ℕ → Bool) (n : ℕ) → length (numbers_where p n) ≤ n
length-numbers_where p zero = omega arith
length-numbers_where p (suc n) = rw length-append (elim (p n) as (λ b. length (numbers_where p n) + length (cond b (n ∷ []) []) ≤ suc n) [
  | true ↦ omega (arith, length-numbers_where p n)
  | false ↦ omega (arith, length-numbers_where p n)
])

pub pairs_within-same : (r q : ℕ → ℕ → Bool) (n m : ℕ) → ((i j : ℕ) → i < m → j < n → r i j ≡ q i j) → pairs_within r n m ≡ pairs_within q n m
pairs_within-same r q n zero h = refl
pairs_within-same r q n (suc m) h =
    rw (pairs_within-same r q n m (λ i j a b. h i j (omega arith) b), numbers_where-same (r m) (q m) n (λ j l. h m j (omega arith) l)) refl

-- tables
pub table_is : {X : Type 0} (f : ℕ → X) (n : ℕ) (xs : List X) (d : X) → length xs ≡ n → ((i : ℕ) → i < n → get_or xs i d ≡ f i) → xs ≡ table f n
table_is f n xs d len h = ext_get_or d xs (table f n) (omega (arith, len, length-table f n)) (λ i l. h i (omega arith) ∙ sym (get_or-table f n i d (omega arith)))

pub map-table : {X Y : Type 0} (f : X → Y) (g : ℕ → X) (n : ℕ) → map f (table g n) ≡ table (λ i. f (g i)) n
map-table f g zero = refl
map-table f g (suc n) = map-append f (table g n) (g n ∷ []) ∙ ap (λ ys. ys ++ f (g n) ∷ []) (map-table f g n)

pub table-same : {X : Type 0} (f g : ℕ → X) (n : ℕ) → ((i : ℕ) → i < n → f i ≡ g i) → table f n ≡ table g n
table-same f g zero h = refl
table-same f g (suc n) h = rw (table-same f g n (λ i l. h i (omega arith)), h n (omega arith)) refl

module _ (r : ℕ → ℕ → Bool) (n : ℕ) where
  -- where the pairs with a given first number begin
  pub first-suc : (w : ℕ) → length (pairs_within r n (suc w)) ≡ length (pairs_within r n w) + length (numbers_where (r w) n)
  first-suc w = length-append (pairs_within r n w) (map (λ j. (w, j)) (numbers_where (r w) n)) ∙ ap (λ k. length (pairs_within r n w) + k) (length-map (numbers_where (r w) n) (λ j. (w, j)))

  pub first-up : (w m : ℕ) → w ≤ m → length (pairs_within r n w) ≤ length (pairs_within r n m)
  first-up w zero h = let e : w ≡ 0 = omega arith in rw e (omega arith)
  first-up w (suc m) h = elim (cases_lt m w) [
    | inl l ↦ let e : w ≡ suc m = omega arith in rw e (omega arith)
    | inr g ↦ omega (arith, first-up w m g, first-suc m)
  ]

  -- the first number of the pair at a place
  pub pair_at : (m w i : ℕ) → w < m → length (pairs_within r n w) ≤ i → i < length (pairs_within r n (suc w)) → (get_or (pairs_within r n m) i (0, 0)).0 ≡ w
  pair_at zero w i h a b = absurd (omega arith)
  pair_at (suc m) w i h a b = elim (cases_lt w m) [
    | inl l ↦ rw (get_or_append_left (pairs_within r n m) (map (λ j. (m, j)) (numbers_where (r m) n)) (0, 0) i (omega (arith, first-up (suc w) m l))) (pair_at m w i l a b)
    | inr g ↦ let e : w ≡ m = omega arith in
        let past : length (pairs_within r n m) ≤ i = omega (arith, a, ap (λ k. length (pairs_within r n k)) e) in
        let within : i - length (pairs_within r n m) < length (numbers_where (r m) n) = omega (arith, b, past, ap (λ k. length (pairs_within r n (suc k))) e, first-suc m) in
        rw (get_or-append_right (pairs_within r n m) (map (λ j. (m, j)) (numbers_where (r m) n)) (length (pairs_within r n m)) i (0, 0) refl past)
        (ap (λ (p : ℕ × ℕ). p.0) (get_or-map (λ j. (m, j)) (numbers_where (r m) n) (i - length (pairs_within r n m)) 0 (0, 0) within) ∙ sym e)
  ]

-- in a loop that counts up
pub numbers_push : (p : ℕ → Bool) (n : ℕ) (xs ys : List ℕ) → xs ≡ numbers_where p n → p n ≡ true → ys ≡ xs ++ n ∷ [] → ys ≡ numbers_where p (n + 1)
numbers_push p n xs ys e h g = rw (add-one, h) (g ∙ ap (λ l. l ++ n ∷ []) e)

pub numbers_keep : (p : ℕ → Bool) (n : ℕ) (xs : List ℕ) → xs ≡ numbers_where p n → p n ≡ false → xs ≡ numbers_where p (n + 1)
numbers_keep p n xs e h = rw (add-one, h, append-nil) e

pub table_push : {X : Type 0} (f : ℕ → X) (n : ℕ) (xs ys : List X) (x : X) → xs ≡ table f n → x ≡ f n → ys ≡ xs ++ x ∷ [] → ys ≡ table f (n + 1)
table_push f n xs ys x e h g = rw add-one (g ∙ ap (λ l. l ++ x ∷ []) e ∙ ap (λ y. table f n ++ y ∷ []) h)

-- how many pass, in a loop that counts up
pub count_push : (p : ℕ → Bool) (n count new : ℕ) → count ≡ length (numbers_where p n) → p n ≡ true → new ≡ count + 1 → new ≡ length (numbers_where p (n + 1))
count_push p n count new e h g = rw (add-one, h) (omega (arith, g, e, length-snoc (numbers_where p n) n))

pub count_keep : (p : ℕ → Bool) (n count new : ℕ) → count ≡ length (numbers_where p n) → p n ≡ false → new ≡ count → new ≡ length (numbers_where p (n + 1))
count_keep p n count new e h g = rw (add-one, h, append-nil) (g ∙ e)

-- the places of one world, event by event
pub places_push : (p : ℕ → Bool) (w n : ℕ) (old list new : List (ℕ × ℕ)) → list ≡ old ++ map (λ j. (w, j)) (numbers_where p n) → p n ≡ true → new ≡ list ++ (w, n) ∷ [] → new ≡ old ++ map (λ j. (w, j)) (numbers_where p (n + 1))
places_push p w n old list new e h g =
    rw (add-one, h) (g ∙ ap (λ l. l ++ (w, n) ∷ []) e ∙ append_assoc old (map (λ j. (w, j)) (numbers_where p n)) ((w, n) ∷ [])
    ∙ ap (λ l. old ++ l) (sym (map-append {B = ℕ × ℕ} (λ j. (w, j)) (numbers_where p n) (n ∷ []))))

pub places_keep : (p : ℕ → Bool) (w n : ℕ) (old list : List (ℕ × ℕ)) → list ≡ old ++ map (λ j. (w, j)) (numbers_where p n) → p n ≡ false → list ≡ old ++ map (λ j. (w, j)) (numbers_where p (n + 1))
places_keep p w n old list e h = rw (add-one, h, append-nil) e
