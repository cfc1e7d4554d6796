-- Bounds on the numbers of bindings and of choices, one parameter more.
use Rattle.std.proofs.Common.{◌≡◌, ℕ, suc, ◌+◌, ◌*◌, ◌^◌, ◌<◌, ◌≤◌, List, [], ◌∷◌, ◌++◌, length, take, drop, get_or, All, ap, sym, ◌∙◌, arith}
use Rattle.std.proofs.lemmas.List.{take_more, length-take, drop_more, drop_all}
use Rattle.std.proofs.lemmas.List.Elements.{All-head, All-tail, All-get_or, All-take}
use Rattle.std.proofs.Math.Nat.{mul-le-mul, pow-le-pow_right}
use Rattle.ep_binding.specs.Bindings.{binding_count, IsObjects}
use Rattle.ep_binding.specs.Counts.{objects_left, choices}

pub count-within : (cs : List (List ℕ)) → All (λ c. length c ≤ 64) cs → binding_count cs ≤ 64 ^ length cs
count-within [] h = omega arith
count-within (c ∷ cs) h =
    let p : length c * binding_count cs ≤ 64 * 64 ^ length cs = mul-le-mul (All-head (λ c. length c ≤ 64) c cs h) (count-within cs (All-tail (λ c. length c ≤ 64) c cs h)) in
    let e : 64 ^ suc (length cs) ≡ 64 * 64 ^ length cs = omega arith in
    omega arith

power-six : (n : ℕ) → n ≤ 6 → 64 ^ n ≤ 68719476736
power-six n h = let p : 64 ^ n ≤ 64 ^ 6 = pow-le-pow_right (omega arith) h in omega arith

pub count-most : (cs : List (List ℕ)) → length cs ≤ 6 → All (λ c. length c ≤ 64) cs → binding_count cs ≤ 68719476736
count-most cs h k = let a = count-within cs k in let b = power-six (length cs) h in omega arith

pub count-take_most : (cs : List (List ℕ)) (i : ℕ) → length cs ≤ 6 → All (λ c. length c ≤ 64) cs → binding_count (take i cs) ≤ 68719476736
count-take_most cs i h k =
    count-most (take i cs) (let l = length-take i cs in omega arith) (All-take (λ c. length c ≤ 64) i cs k)

count-push : (cs : List (List ℕ)) (c : List ℕ) → binding_count (cs ++ c ∷ []) ≡ binding_count cs * length c
count-push [] c = omega arith
count-push (b ∷ cs) c = ap (λ k. length b * k) (count-push cs c) ∙ omega arith

pub count-more : (cs : List (List ℕ)) (i : ℕ) (d : List ℕ) → i < length cs → binding_count (take (i + 1) cs) ≡ binding_count (take i cs) * length (get_or cs i d)
count-more cs i d h = ap binding_count (take_more cs i d h) ∙ count-push (take i cs) (get_or cs i d)

-- the choices of one parameter, and of those behind it
pub choices-more : (cs : List (List ℕ)) (i : ℕ) (d : List ℕ) → i < length cs →
    choices (take i cs) (drop i cs) ≡ objects_left (take i cs) (get_or cs i d) (drop (i + 1) cs) * choices (take (i + 1) cs) (drop (i + 1) cs)
choices-more cs i d h =
    ap (choices (take i cs)) (drop_more cs i d h)
    ∙ ap (λ z. objects_left (take i cs) (get_or cs i d) (drop (i + 1) cs) * choices z (drop (i + 1) cs)) (sym (take_more cs i d h))

-- so many choices so far, of at most as many objects each
pub power-more : (count left i : ℕ) → count ≤ 64 ^ i → left ≤ 64 → count * left ≤ 64 ^ (i + 1)
power-more count left i h k =
    let p : count * left ≤ 64 ^ i * 64 = mul-le-mul h k in
    let one_more : i + 1 ≡ suc i = omega arith in
    let e : 64 ^ (i + 1) ≡ 64 * 64 ^ i = ap (λ n. 64 ^ n) one_more ∙ (let f : 64 ^ suc i ≡ 64 * 64 ^ i = omega arith in f) in
    omega arith

pub power-few : (n i : ℕ) → n ≤ 64 ^ i → i ≤ 6 → n ≤ 68719476736
power-few n i h k = let p = power-six i k in omega arith

-- a parameter has few objects left
pub left-few : (cs : List (List ℕ)) (i : ℕ) → i < length cs → All IsObjects cs → objects_left (take i cs) (get_or cs i []) (drop (i + 1) cs) ≤ 64
left-few cs i h k =
    let few = (All-get_or IsObjects cs i [] h k).few in
    omega arith

-- at the end no parameter is left
pub choices-end : (cs : List (List ℕ)) (i : ℕ) → length cs ≤ i → choices (take i cs) (drop i cs) ≡ 1
choices-end cs i h = ap (choices (take i cs)) (drop_all i cs h)
