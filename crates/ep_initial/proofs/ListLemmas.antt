-- Lists one item more at a time, tables, and numbers that pass a test.
use Rattle.std.proofs.Common.{◌≡◌, ℕ, zero, suc, ◌+◌, ◌<◌, ◌≤◌, Bool, true, false, cond, List, [], ◌∷◌, ◌++◌, length, get_or, map, filter, take, refl, ap, sym, ◌∙◌, arith, append-nil}
use Rattle.std.proofs.lemmas.List.{take_more, map-append, length-append}
use Rattle.ep_logic.specs.Numbers.{numbers_where, table}

-- an item more of a list that is mapped
pub map_more : {Y Z : Type 0} (f : Y → Z) (ys : List Y) (i : ℕ) (y : Y) → i < length ys → y ≡ get_or ys i y → map f (take (i + 1) ys) ≡ map f (take i ys) ++ f y ∷ []
map_more f ys i y l here = ap (map f) (take_more ys i y l) ∙ map-append f (take i ys) (get_or ys i y ∷ []) ∙ ap (λ z. map f (take i ys) ++ f z ∷ []) (sym here)

pub filter-push : {X : Type 0} (p : X → Bool) (xs : List X) (x : X) → filter p (xs ++ x ∷ []) ≡ filter p xs ++ cond (p x) (x ∷ []) []
filter-push p [] x = refl
filter-push p (y ∷ ys) x = ap (λ zs. cond (p y) (y ∷ zs) zs) (filter-push p ys x) ∙ by (p y)
  where
    by : (b : Bool) → cond b (y ∷ (filter p ys ++ cond (p x) (x ∷ []) [])) (filter p ys ++ cond (p x) (x ∷ []) []) ≡ cond b (y ∷ filter p ys) (filter p ys) ++ cond (p x) (x ∷ []) []
    by true = refl
    by false = refl

pub numbers-none : (n : ℕ) → numbers_where (λ _. false) n ≡ []
numbers-none zero = refl
numbers-none (suc n) = append-nil (numbers_where (λ _. false) n) ∙ numbers-none n

pub few_numbers : (p : ℕ → Bool) (n : ℕ) → length (numbers_where p n) ≤ n
few_numbers p zero = omega arith
few_numbers p (suc n) =
    let long = length-append (numbers_where p n) (cond (p n) (n ∷ []) []) in
    let rest = few_numbers p n in
    let one = one_more (p n) n in
    omega (arith, long, rest, one)
  where
    one_more : (b : Bool) (n : ℕ) → length (cond b (n ∷ []) []) ≤ 1
    one_more true n = omega arith
    one_more false n = omega arith
