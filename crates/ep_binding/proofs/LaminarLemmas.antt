-- Distinct bindings of a laminar family are counted by a product: the parameters choose from the smallest set up.
use Rattle.std.proofs.Common.{◌≡◌, ℕ, zero, suc, ◌+◌, ◌*◌, ◌-◌, ◌<◌, ◌≤◌, Bool, true, false, ◌&&◌, inl, inr, List, [], ◌∷◌, ◌++◌, length, nat_lt, nat_le, All, refl, ap, ◌∙◌, sym, subst, arith, append_assoc, append-nil}
use Rattle.std.specs.Prelude.{Contains, count_by}
use Rattle.std.specs.List.{sum_by, slice_index_or}
use Rattle.std.proofs.lemmas.Bool.{cases_lt, cases_order}
use Rattle.std.proofs.lemmas.Bool.Decides.{nat_tests}
use Rattle.std.proofs.lemmas.List.{get_or_default, length-append}
use Rattle.std.proofs.lemmas.List.Sums.{sum_by-cons, sum_by-append}
use Rattle.std.proofs.lemmas.List.Elements.{All-nil, All-cons, All-head, All-tail, All-weaker, All-append, All-contains, All-contains_itself, Contains-append_left, Contains-append_right, Contains-append_cases}
use Rattle.std.proofs.Math.Nat.{mul_comm}
use Rattle.ep_binding.specs.Bindings.{bindings, distinct_bindings, all_different, contains, IsApart, IsObjects}
use Rattle.ep_binding.specs.Counts.{meets, takes_before, takes_behind, objects_left, choices}
use Rattle.ep_binding.specs.Laminar.{LiesIn, AreNested, IsLaminar}
use Rattle.ep_binding.proofs.ApartLemmas.{different-from}
use Rattle.ep_binding.proofs.NestedLemmas.{contains-from, lacks-from}
use Rattle.ep_binding.proofs.SharedLemmas.{one, shared, sum-plus, sum-times, sum-same, sum-swap, sum-bindings, add-mul-right, before-one, shared_comm, distinct-sum}
use Rattle.ep_binding.proofs.SymmetryLemmas.{total, to-front, different-swapped}

-- ---- a set that chooses last

sum-same-on : {X : Type 0} (f g : X → ℕ) (xs : List X) → All (λ x. f x ≡ g x) xs → sum_by f xs ≡ sum_by g xs
sum-same-on f g [] h = refl
sum-same-on f g (x ∷ xs) h =
    sum_by-cons f x xs
    ∙ (λ i. All-head (λ x. f x ≡ g x) x xs h i + sum-same-on f g xs (All-tail (λ x. f x ≡ g x) x xs h) i)
    ∙ sym (sum_by-cons g x xs)

-- all objects of a set are in another, or none is, as the first tells
abbrev IsUniform : List ℕ → List ℕ → Type 0
IsUniform a d = All (λ o. contains a o ≡ meets d a) d

-- how many sets lie in one
abbrev met : List ℕ → List (List ℕ) → ℕ
met a cs = count_by (λ d. meets d a) cs

-- each binding has an object of a set for each set that lies in it
shared-total : (a : List ℕ) (g : List ℕ → ℕ) (cs : List (List ℕ)) → All (IsUniform a) cs → total (λ b. shared a b * g b) cs ≡ met a cs * total g cs
shared-total a g [] h = omega arith
shared-total a g (d ∷ cs) h =
    let k = met a cs in
    let one-first : (o : ℕ) → total (λ b. shared a (o ∷ b) * g (o ∷ b)) cs ≡ (one (contains a o) + k) * total (λ b. g (o ∷ b)) cs =
    λ o.
    sum-same (λ b. shared a (o ∷ b) * g (o ∷ b)) (λ b. one (contains a o) * g (o ∷ b) + shared a b * g (o ∷ b)) (bindings cs)
    (λ b. ap (λ n. n * g (o ∷ b)) (sum_by-cons (λ y. one (contains a y)) o b) ∙ add-mul-right (one (contains a o)) (shared a b) (g (o ∷ b)))
    ∙ sum-plus (λ b. one (contains a o) * g (o ∷ b)) (λ b. shared a b * g (o ∷ b)) (bindings cs)
    ∙ (λ i. sum-times (λ b. g (o ∷ b)) (one (contains a o)) (bindings cs) i
    + shared-total a (λ b. g (o ∷ b)) cs (All-tail (IsUniform a) d cs h) i)
    ∙ sym (add-mul-right (one (contains a o)) k (total (λ b. g (o ∷ b)) cs))
    in
    sum-bindings (λ b. shared a b * g b) d cs
    ∙ sum-same (λ o. total (λ b. shared a (o ∷ b) * g (o ∷ b)) cs) (λ o. (one (contains a o) + k) * total (λ b. g (o ∷ b)) cs) d one-first
    ∙ sum-same-on (λ o. (one (contains a o) + k) * total (λ b. g (o ∷ b)) cs) (λ o. (one (meets d a) + k) * total (λ b. g (o ∷ b)) cs) d
    (All-weaker (λ o. contains a o ≡ meets d a) (λ o. (one (contains a o) + k) * total (λ b. g (o ∷ b)) cs ≡ (one (meets d a) + k) * total (λ b. g (o ∷ b)) cs)
    (λ o e. ap (λ t. (one t + k) * total (λ b. g (o ∷ b)) cs) e) d (All-head (IsUniform a) d cs h))
    ∙ sum-times (λ o. total (λ b. g (o ∷ b)) cs) (one (meets d a) + k) d
    ∙ ap (λ n. (one (meets d a) + k) * n) (sym (sum-bindings g d cs))
    ∙ ap (λ n. n * total g (d ∷ cs)) (sym (sum_by-cons (λ d. one (meets d a)) d cs))

times-left : (j k n : ℕ) → (j + k) * n ≡ j * n + k * n
times-left j k n = omega arith

minus-times : (x k l n : ℕ) → x + k * n ≡ l * n → x ≡ (l - k) * n
minus-times x k l n h = elim (cases_lt l k) [
  | inr le ↦
      let whole : (l - k) + k ≡ l = omega arith in
      let parts : l * n ≡ (l - k) * n + k * n = ap (λ m. m * n) (sym whole) ∙ times-left (l - k) k n in
      omega (arith, parts)
  | inl lt ↦
      let whole : (k - l) + l ≡ k = omega arith in
      let parts : k * n ≡ (k - l) * n + l * n = ap (λ m. m * n) (sym whole) ∙ times-left (k - l) l n in
      let none : l - k ≡ 0 = omega arith in
      let zero-left : (l - k) * n ≡ 0 = ap (λ m. m * n) none ∙ omega arith in
      omega (arith, parts, zero-left)
]

-- it has one object less for each set that lies in it
largest-first : (a : List ℕ) (cs : List (List ℕ)) → all_different a ≡ true → All (IsUniform a) cs →
    length (distinct_bindings (a ∷ cs)) ≡ (length a - met a cs) * length (distinct_bindings cs)
largest-first a cs h u =
    let f : List ℕ → ℕ = λ b. one (all_different b) in
    let here : length (distinct_bindings (a ∷ cs)) ≡ sum_by (λ b. sum_by (λ o. f (o ∷ b)) a) (bindings cs) = distinct-sum (a ∷ cs) ∙ sum-bindings f a cs ∙ sum-swap (λ o b. f (o ∷ b)) a (bindings cs) in
    let taken : total (λ b. f b * shared a b) cs ≡ met a cs * total f cs =
    sum-same (λ b. f b * shared a b) (λ b. shared a b * f b) (bindings cs) (λ b. mul_comm (f b) (shared a b)) ∙ shared-total a f cs u in
    let all : sum_by (λ b. sum_by (λ o. f (o ∷ b)) a) (bindings cs) + total (λ b. f b * shared a b) cs ≡ length a * total f cs =
    sym (sum-plus (λ b. sum_by (λ o. f (o ∷ b)) a) (λ b. f b * shared a b) (bindings cs))
    ∙ sum-same (λ b. sum_by (λ o. f (o ∷ b)) a + f b * shared a b) (λ b. length a * f b) (bindings cs) (λ b. before-one a b h)
    ∙ sum-times f (length a) (bindings cs)
    in
    minus-times (length (distinct_bindings (a ∷ cs))) (met a cs) (length a) (length (distinct_bindings cs))
    ((λ i. here i + (ap (λ n. met a cs * n) (distinct-sum cs) ∙ sym taken) i) ∙ all ∙ ap (λ n. length a * n) (sym (distinct-sum cs)))

-- ---- nested sets

uniform : (a d : List ℕ) (b : Bool) → All (λ o. contains a o ≡ b) d → IsUniform a d
uniform a [] b h = All-nil (λ o. contains a o ≡ meets [] a)
uniform a (e ∷ d) b h =
    All-weaker (λ o. contains a o ≡ b) (λ o. contains a o ≡ contains a e) (λ o k. k ∙ sym (All-head (λ o. contains a o ≡ b) e d h)) (e ∷ d) h

one-most : (b : Bool) → one b ≤ 1
one-most true = omega arith
one-most false = omega arith

ones-most : (p : ℕ → Bool) (xs : List ℕ) → sum_by (λ x. one (p x)) xs ≤ length xs
ones-most p [] = omega arith
ones-most p (x ∷ xs) = omega (arith, sum_by-cons (λ x. one (p x)) x xs, one-most (p x), ones-most p xs)

one-full : (b : Bool) → 1 ≤ one b → b ≡ true
one-full true h = refl
one-full false h = absurd (omega arith)

-- where as many pass as there are, all do
all-pass : (p : ℕ → Bool) (xs : List ℕ) → length xs ≤ sum_by (λ x. one (p x)) xs → All (λ x. p x ≡ true) xs
all-pass p [] h = All-nil (λ x. p x ≡ true)
all-pass p (x ∷ xs) h =
    let step = sum_by-cons (λ x. one (p x)) x xs in
    let here = one-most (p x) in
    let rest = ones-most p xs in
    All-cons (λ x. p x ≡ true) x xs (one-full (p x) (omega arith)) (all-pass p xs (omega arith))

ones-all : (p : ℕ → Bool) (xs : List ℕ) → All (λ x. p x ≡ true) xs → sum_by (λ x. one (p x)) xs ≡ length xs
ones-all p [] h = refl
ones-all p (x ∷ xs) h =
    let here = ap one (All-head (λ x. p x ≡ true) x xs h) in
    let rest = ones-all p xs (All-tail (λ x. p x ≡ true) x xs h) in
    omega (arith, sum_by-cons (λ x. one (p x)) x xs, here, rest)

-- a set that lies in one that is no larger is that one
lies-back : (a d : List ℕ) → IsApart a → IsApart d → length d ≤ length a → LiesIn a d → All (λ o. contains a o ≡ true) d
lies-back a d h k l within =
    let full = ones-all (contains d) a (All-weaker (λ o. Contains a o) (λ o. contains d o ≡ true) (λ o m. contains-from d o (within o m)) a (All-contains_itself a)) in
    let both = shared_comm a d (different-from a h) (different-from d k) in
    all-pass (contains a) d (omega (arith, full, both))

nested-uniform : (a d : List ℕ) → IsApart a → IsApart d → length d ≤ length a → AreNested a d → IsUniform a d
nested-uniform a d h k l (inl apart) =
    uniform a d false (All-weaker (λ o. Contains d o) (λ o. contains a o ≡ false) (λ o m. lacks-from a o (λ n. apart o n m)) d (All-contains_itself d))
nested-uniform a d h k l (inr (inl within)) = uniform a d true (lies-back a d h k l within)
nested-uniform a d h k l (inr (inr within)) =
    uniform a d true (All-weaker (λ o. Contains d o) (λ o. contains a o ≡ true) (λ o m. contains-from a o (within o m)) d (All-contains_itself d))

-- ---- the product

le-test : (m n : ℕ) → m ≤ n → nat_le m n ≡ true
le-test m n h = grind (arith, nat_tests)

lt-test : (m n : ℕ) → m < n → nat_lt m n ≡ true
lt-test m n h = grind (arith, nat_tests)

le-fails : (m n : ℕ) → n < m → nat_le m n ≡ false
le-fails m n h = grind (arith, nat_tests)

lt-fails : (m n : ℕ) → n ≤ m → nat_lt m n ≡ false
lt-fails m n h = grind (arith, nat_tests)

count-without : (p : List ℕ → Bool) (xs : List (List ℕ)) (c : List ℕ) (ys : List (List ℕ)) → p c ≡ false → count_by p (xs ++ c ∷ ys) ≡ count_by p (xs ++ ys)
count-without p xs c ys h =
    let none = ap one h in
    omega (arith, sum_by-append (λ d. one (p d)) xs (c ∷ ys), sum_by-cons (λ d. one (p d)) c ys, sum_by-append (λ d. one (p d)) xs ys, none)

module _ (c : List ℕ) where
  -- a larger set takes nothing from those that stand behind it
  choices-behind : (before e ys : List (List ℕ)) → All (λ y. length y < length c) ys → choices (before ++ c ∷ e) ys ≡ choices (before ++ e) ys
  choices-behind before e [] h = refl
  choices-behind before e (y ∷ ys) h =
      let small : length y < length c = All-head (λ y. length y < length c) y ys h in
      let none : takes_before y c ≡ false = ap (λ b. b && meets c y) (le-fails (length c) (length y) small) in
      let left : objects_left (before ++ c ∷ e) y ys ≡ objects_left (before ++ e) y ys = ap (λ n. length y - (n + count_by (takes_behind y) ys)) (count-without (takes_before y) before c e none) in
      let more : choices ((before ++ c ∷ e) ++ y ∷ []) ys ≡ choices ((before ++ e) ++ y ∷ []) ys =
      ap (λ z. choices z ys) (append_assoc before (c ∷ e) (y ∷ []))
      ∙ choices-behind before (e ++ y ∷ []) ys (All-tail (λ y. length y < length c) y ys h)
      ∙ ap (λ z. choices z ys) (sym (append_assoc before e (y ∷ [])))
      in
      λ i. left i * more i

  -- the largest set chooses last
  choices-last : (before xs ys : List (List ℕ)) → All (λ x. length x ≤ length c) xs → All (λ y. length y < length c) ys →
      choices before (xs ++ c ∷ ys) ≡ objects_left (before ++ xs) c ys * choices before (xs ++ ys)
  choices-last before [] ys h k = λ i. objects_left (sym (append-nil before) i) c ys * (choices-behind before [] ys k ∙ ap (λ z. choices z ys) (append-nil before)) i
  choices-last before (x ∷ xs) ys h k =
      let small : length x ≤ length c = All-head (λ x. length x ≤ length c) x xs h in
      let none : takes_behind x c ≡ false = ap (λ b. b && meets c x) (lt-fails (length c) (length x) small) in
      let left : objects_left before x (xs ++ c ∷ ys) ≡ objects_left before x (xs ++ ys) = ap (λ n. length x - (count_by (takes_before x) before + n)) (count-without (takes_behind x) xs c ys none) in
      let rest : choices (before ++ x ∷ []) (xs ++ c ∷ ys) ≡ objects_left (before ++ x ∷ xs) c ys * choices (before ++ x ∷ []) (xs ++ ys) =
      choices-last (before ++ x ∷ []) xs ys (All-tail (λ x. length x ≤ length c) x xs h) k
      ∙ ap (λ z. objects_left z c ys * choices (before ++ x ∷ []) (xs ++ ys)) (append_assoc before (x ∷ []) xs)
      in
      (λ i. left i * rest i) ∙ turned (objects_left before x (xs ++ ys)) (objects_left (before ++ x ∷ xs) c ys) (choices (before ++ x ∷ []) (xs ++ ys))
    where
      turned : (a b d : ℕ) → a * (b * d) ≡ b * (a * d)
      turned a b d = omega arith

  left-last : (xs ys : List (List ℕ)) → All (λ x. length x ≤ length c) xs → All (λ y. length y < length c) ys → objects_left xs c ys ≡ length c - met c (xs ++ ys)
  left-last xs ys h k =
      let here : count_by (takes_before c) xs ≡ met c xs =
      sum-same-on (λ d. one (takes_before c d)) (λ d. one (meets d c)) xs
      (All-weaker (λ x. length x ≤ length c) (λ d. one (takes_before c d) ≡ one (meets d c)) (λ d l. ap (λ b. one (b && meets d c)) (le-test (length d) (length c) l)) xs h) in
      let later : count_by (takes_behind c) ys ≡ met c ys =
      sum-same-on (λ d. one (takes_behind c d)) (λ d. one (meets d c)) ys
      (All-weaker (λ y. length y < length c) (λ d. one (takes_behind c d) ≡ one (meets d c)) (λ d l. ap (λ b. one (b && meets d c)) (lt-test (length d) (length c) l)) ys k) in
      ap (λ n. length c - n) ((λ i. here i + later i) ∙ sym (sum_by-append (λ d. one (meets d c)) xs ys))

-- ---- the largest set, the last of them

record Largest (cs : List (List ℕ)) : Type 0 where
  before : List (List ℕ)
  set : List ℕ
  behind : List (List ℕ)
  is : cs ≡ before ++ set ∷ behind
  none_larger : All (λ x. length x ≤ length set) before
  smaller : All (λ y. length y < length set) behind

largest : (c : List ℕ) (cs : List (List ℕ)) → Largest (c ∷ cs)
largest c [] = record { before = []; set = c; behind = []; is = refl; none_larger = All-nil (λ x. length x ≤ length c); smaller = All-nil (λ y. length y < length c) }
largest c (d ∷ ds) = by (largest d ds)
  where
    by : Largest (d ∷ ds) → Largest (c ∷ d ∷ ds)
    by r = elim (cases_lt (length r.set) (length c)) [
      | inr le ↦ record {
        before = c ∷ r.before;
        set = r.set;
        behind = r.behind;
        is = ap (λ z. c ∷ z) r.is;
        none_larger = All-cons (λ x. length x ≤ length r.set) c r.before le r.none_larger;
        smaller = r.smaller;
      }
      | inl lt ↦ record {
        before = [];
        set = c;
        behind = d ∷ ds;
        is = refl;
        none_larger = All-nil (λ x. length x ≤ length c);
        smaller = subst (λ z. All (λ y. length y < length c) z) (sym r.is)
            (All-append (λ y. length y < length c) r.before (r.set ∷ r.behind)
            (All-weaker (λ x. length x ≤ length r.set) (λ y. length y < length c) (λ x h. omega (arith, h, lt)) r.before r.none_larger)
            (All-cons (λ y. length y < length c) r.set r.behind (omega (arith, lt))
            (All-weaker (λ y. length y < length r.set) (λ y. length y < length c) (λ y h. omega (arith, h, lt)) r.behind r.smaller)));
      }
    ]

-- ---- families

-- each set has its objects once, and any two are nested
record IsFamily (cs : List (List ℕ)) : Type 0 where
  apart : (x : List ℕ) → Contains cs x → IsApart x
  nested : (x y : List ℕ) → Contains cs x → Contains cs y → AreNested x y

nested-flips : (x y : List ℕ) → AreNested x y → AreNested y x
nested-flips x y (inl h) = inl (λ o m n. h o n m)
nested-flips x y (inr (inl h)) = inr (inr h)
nested-flips x y (inr (inr h)) = inr (inl h)

nested-at : (cs : List (List ℕ)) (x y : List ℕ) (i j : ℕ) → IsLaminar cs → i < j → j < length cs → slice_index_or cs i x ≡ x → slice_index_or cs j y ≡ y → AreNested x y
nested-at cs x y i j h l m e f =
    let first : slice_index_or cs i [] ≡ x = get_or_default cs i [] x (omega arith) ∙ e in
    let second : slice_index_or cs j [] ≡ y = get_or_default cs j [] y m ∙ f in
    subst (λ z. AreNested z y) first (subst (λ z. AreNested (slice_index_or cs i []) z) second (h i j [] l m))

family-of : (cs : List (List ℕ)) → All IsObjects cs → IsLaminar cs → IsFamily cs
family-of cs h k = record {
  apart = λ x m. (All-contains IsObjects cs x h m).apart;
  nested = λ x y (i, l, e) (j, m, f). elim (cases_order i j) [
    | inl same ↦ inr (inl (λ o n. subst (λ z. Contains z o) (sym e ∙ get_or_default cs i x y l ∙ ap (λ n. slice_index_or cs n y) same ∙ f) n))
    | inr (inl lt) ↦ nested-at cs x y i j k lt m e f
    | inr (inr gt) ↦ nested-flips y x (nested-at cs y x j i k gt l f e)
  ];
}

contains-more : (xs : List (List ℕ)) (c : List ℕ) (ys : List (List ℕ)) (x : List ℕ) → Contains (xs ++ ys) x → Contains (xs ++ c ∷ ys) x
contains-more xs c ys x m = elim (Contains-append_cases xs ys x m) [
  | inl h ↦ Contains-append_left xs (c ∷ ys) x h
  | inr (k, l, e) ↦ Contains-append_right xs (c ∷ ys) x (suc k, omega arith, e)
]

contains-middle : (xs : List (List ℕ)) (c : List ℕ) (ys : List (List ℕ)) → Contains (xs ++ c ∷ ys) c
contains-middle xs c ys = Contains-append_right xs (c ∷ ys) c (0, omega arith, refl)

family-without : (xs : List (List ℕ)) (c : List ℕ) (ys : List (List ℕ)) → IsFamily (xs ++ c ∷ ys) → IsFamily (xs ++ ys)
family-without xs c ys h = record {
  apart = λ x m. h.apart x (contains-more xs c ys x m);
  nested = λ x y m n. h.nested x y (contains-more xs c ys x m) (contains-more xs c ys y n);
}

-- ---- the number

count-family : (n : ℕ) (cs : List (List ℕ)) → length cs ≤ n → IsFamily cs → choices [] cs ≡ length (distinct_bindings cs)
count-family n [] l h = refl
count-family zero (c ∷ cs) l h = absurd (omega arith)
count-family (suc n) (c ∷ cs) l h = by (largest c cs) (count-family n)
  where
    by : Largest (c ∷ cs) → ((ds : List (List ℕ)) → length ds ≤ n → IsFamily ds → choices [] ds ≡ length (distinct_bindings ds)) → choices [] (c ∷ cs) ≡ length (distinct_bindings (c ∷ cs))
    by r fewer =
        let xs = r.before in
        let a = r.set in
        let ys = r.behind in
        let family : IsFamily (xs ++ a ∷ ys) = subst IsFamily r.is h in
        let apart : IsApart a = family.apart a (contains-middle xs a ys) in
        let long = ap length r.is in
        let shorter : length (xs ++ ys) ≤ n = omega (arith, long, length-append xs (a ∷ ys), length-append xs ys) in
        let small : All (λ d. length d ≤ length a) (xs ++ ys) =
        All-append (λ d. length d ≤ length a) xs ys r.none_larger (All-weaker (λ d. length d < length a) (λ d. length d ≤ length a) (λ d k. omega arith) ys r.smaller) in
        let uniform_all : All (IsUniform a) (xs ++ ys) =
        λ k d m. nested-uniform a (slice_index_or (xs ++ ys) k d) apart
        (family.apart (slice_index_or (xs ++ ys) k d) (contains-more xs a ys (slice_index_or (xs ++ ys) k d) (All-contains_itself (xs ++ ys) k d m)))
        (small k d m)
        (family.nested a (slice_index_or (xs ++ ys) k d) (contains-middle xs a ys) (contains-more xs a ys (slice_index_or (xs ++ ys) k d) (All-contains_itself (xs ++ ys) k d m)))
        in
        ap (choices []) r.is
        ∙ choices-last a [] xs ys r.none_larger r.smaller
        ∙ (λ i. left-last a xs ys r.none_larger r.smaller i * fewer (xs ++ ys) shorter (family-without xs a ys family) i)
        ∙ sym (largest-first a (xs ++ ys) (different-from a apart) uniform_all)
        ∙ distinct-sum (a ∷ (xs ++ ys))
        ∙ sym (to-front (λ b. one (all_different b)) (λ front o p rest. ap one (different-swapped front o p rest)) xs a ys)
        ∙ sym (distinct-sum (xs ++ a ∷ ys))
        ∙ ap (λ z. length (distinct_bindings z)) (sym r.is)

pub choices-count : (cs : List (List ℕ)) → All IsObjects cs → IsLaminar cs → choices [] cs ≡ length (distinct_bindings cs)
choices-count cs h k = count-family (length cs) cs (omega arith) (family-of cs h k)
