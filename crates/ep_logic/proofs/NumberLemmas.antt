-- Numbers that pass a test, and tables.
use Rattle.std.proofs.Common.{◌≡◌, ℕ, zero, suc, ◌+◌, ◌-◌, ◌<◌, ◌≤◌, Bool, true, false, cond, List, [], ◌∷◌, ◌++◌, map, length, get_or, set, replicate, ◌==◌, refl, ap, ap₂, ◌∙◌, sym, subst, arith, inl, inr, eq-eqb, append-nil, append_assoc, add-zero, add-suc}
use Rattle.std.proofs.lemmas.Bool.{cases_eq, ne_eqb}
use Rattle.std.proofs.lemmas.List.{same_lists, map-append, get_or_default, length-replicate, get_or-replicate, length-set, get_or-set_same, get_or-set_other}
use Rattle.ep_logic.specs.Numbers.{numbers_where, table}
use Rattle.ep_logic.specs.Rows.{value_at, true_places}

-- tests that agree below n choose the same numbers
pub numbers_where-same : (p q : ℕ → Bool) (n : ℕ) → ((i : ℕ) → i < n → p i ≡ q i) → numbers_where p n ≡ numbers_where q n
numbers_where-same p q zero h = refl
numbers_where-same p q (suc n) h =
    let here : p n ≡ q n = h n (omega arith) in
    rw (here, numbers_where-same p q n (λ i l. h i (omega arith))) refl

skip : (p : ℕ → Bool) (a k : ℕ) → ((i : ℕ) → a ≤ i → i < a + k → p i ≡ false) → numbers_where p (a + k) ≡ numbers_where p a
skip p a zero h = rw add-zero refl
skip p a (suc k) h =
    let last : p (a + k) ≡ false = h (a + k) (omega arith) (omega arith) in
    rw (add-suc, last, append-nil) (skip p a k (λ i l m. h i l (omega arith)))

pub numbers_where-skip : (p : ℕ → Bool) (a b : ℕ) → a ≤ b → ((i : ℕ) → a ≤ i → i < b → p i ≡ false) → numbers_where p b ≡ numbers_where p a
numbers_where-skip p a b le h =
    let e : a + (b - a) ≡ b = omega arith in
    subst (λ x. numbers_where p x ≡ numbers_where p a) e (skip p a (b - a) (λ i l m. h i l (omega arith)))

-- the next number that passes
pub numbers_where-next : (p : ℕ → Bool) (a b : ℕ) → a < b → p a ≡ true → ((i : ℕ) → a < i → i < b → p i ≡ false) → numbers_where p b ≡ numbers_where p a ++ a ∷ []
numbers_where-next p a b l h f =
    numbers_where-skip p (suc a) b (omega arith) (λ i m n. f i (omega arith) n) ∙ rw h refl

shift_last : (a n : ℕ) (b : Bool) → cond b ((a + n) ∷ []) [] ≡ map {A = ℕ} {B = ℕ} (λ j. a + j) (cond b (n ∷ []) [])
shift_last a n true = refl
shift_last a n false = refl

-- the numbers from a on, counted from a
pub numbers_where-from : (p : ℕ → Bool) (a n : ℕ) → numbers_where p (a + n) ≡ numbers_where p a ++ map (λ j. a + j) (numbers_where (λ j. p (a + j)) n)
numbers_where-from p a zero = rw (add-zero, append-nil) refl
numbers_where-from p a (suc n) =
    rw add-suc (
    ap₂ (λ x y. x ++ y) (numbers_where-from p a n) (shift_last a n (p (a + n)))
    ∙ append_assoc (numbers_where p a) (map (λ j. a + j) (numbers_where (λ j. p (a + j)) n)) (map (λ j. a + j) (cond (p (a + n)) (n ∷ []) []))
    ∙ ap (λ x. numbers_where p a ++ x) (sym (map-append (λ j. a + j) (numbers_where (λ j. p (a + j)) n) (cond (p (a + n)) (n ∷ []) []))))

-- tables
pub length-snoc : {A : Type 0} (xs : List A) (x : A) → length (xs ++ x ∷ []) ≡ suc (length xs)
length-snoc [] x = refl
length-snoc (y ∷ ys) x = ap suc (length-snoc ys x)

pub length-table : {A : Type 0} (f : ℕ → A) (n : ℕ) → length (table f n) ≡ n
length-table f zero = refl
length-table f (suc n) = length-snoc (table f n) (f n) ∙ ap suc (length-table f n)

pub get_or-left : {A : Type 0} (xs ys : List A) (i : ℕ) (d : A) → i < length xs → get_or (xs ++ ys) i d ≡ get_or xs i d
get_or-left [] ys i d l = absurd (omega arith)
get_or-left (x ∷ xs) ys zero d l = refl
get_or-left (x ∷ xs) ys (suc i) d l = get_or-left xs ys i d (omega arith)

pub get_or-last : {A : Type 0} (xs : List A) (x : A) (d : A) → get_or (xs ++ x ∷ []) (length xs) d ≡ x
get_or-last [] x d = refl
get_or-last (y ∷ ys) x d = get_or-last ys x d

pub get_or-table : {A : Type 0} (f : ℕ → A) (n i : ℕ) (d : A) → i < n → get_or (table f n) i d ≡ f i
get_or-table f zero i d l = absurd (omega arith)
get_or-table f (suc n) i d l = elim (cases_eq i n) [
  | inl e ↦ ap (λ k. get_or (table f n ++ f n ∷ []) k d) (e ∙ sym (length-table f n)) ∙ get_or-last (table f n) (f n) d ∙ ap f (sym e)
  | inr ne ↦ let b : i < n = omega (arith, l, ne) in
      get_or-left (table f n) (f n ∷ []) i d (omega (arith, b, length-table f n)) ∙ get_or-table f n i d b
]

pub table-same : {X : Type 0} (f g : ℕ → X) (n : ℕ) → ((i : ℕ) → i < n → f i ≡ g i) → table f n ≡ table g n
table-same f g zero h = refl
table-same f g (suc n) h = rw (table-same f g n (λ i l. h i (omega arith)), h n (omega arith)) refl

pub map-table : {X Y : Type 0} (f : X → Y) (g : ℕ → X) (n : ℕ) → map f (table g n) ≡ table (λ i. f (g i)) n
map-table f g zero = refl
map-table f g (suc n) = map-append f (table g n) (g n ∷ []) ∙ ap (λ ys. ys ++ f (g n) ∷ []) (map-table f g n)

-- a row with the values of a test is its table
pub row_is_table : (f : ℕ → Bool) (n : ℕ) (row : List Bool) → length row ≡ n → ((i : ℕ) → i < n → get_or row i false ≡ f i) → row ≡ table f n
row_is_table f n row long each =
    same_lists row (table f n) (long ∙ sym (length-table f n)) (λ i d l.
    let m : i < n = omega (arith, l, long) in
    sym (get_or_default row i false d l) ∙ each i m ∙ sym (get_or-table f n i d m))

pub replicate-table : {A : Type 0} (n : ℕ) (x : A) → replicate n x ≡ table (λ _. x) n
replicate-table n x = same_lists (replicate n x) (table (λ _. x) n) (length-replicate n x ∙ sym (length-table (λ _. x) n)) (λ i d l.
    let m : i < n = omega (arith, l, length-replicate n x) in
    get_or-replicate n i x d m ∙ sym (get_or-table (λ _. x) n i d m))

pub set-table : {A : Type 0} (f : ℕ → A) (n i : ℕ) (v : A) → i < n → set (table f n) i v ≡ table (λ k. cond (k == i) v (f k)) n
set-table f n i v h = same_lists (set (table f n) i v) (table (λ k. cond (k == i) v (f k)) n)
    (length-set (table f n) i v ∙ length-table f n ∙ sym (length-table (λ k. cond (k == i) v (f k)) n))
    (λ k d l.
    let m : k < n = omega (arith, l, length-set (table f n) i v, length-table f n) in
    elim (cases_eq k i) [
      | inl e ↦ rw (e, get_or-set_same (table f n) i v d (omega (arith, h, length-table f n)), get_or-table (λ k. cond (k == i) v (f k)) n i d h, eq-eqb i i refl) refl
      | inr ne ↦ rw (get_or-set_other (table f n) i k v d ne, get_or-table f n k d m, get_or-table (λ k. cond (k == i) v (f k)) n k d m, ne_eqb k i ne) refl
    ])

-- the true places of a table of truth values
pub true_places-table : (p : ℕ → Bool) (n : ℕ) → true_places (table p n) ≡ numbers_where p n
true_places-table p n =
    ap (numbers_where (value_at (table p n))) (length-table p n) ∙ numbers_where-same (value_at (table p n)) p n (λ i l. get_or-table p n i false l)
