-- One parameter, one object and one binding more, and how many bindings there are.
use Rattle.std.proofs.Common.{◌≡◌, ℕ, ◌+◌, ◌*◌, ◌<◌, ◌≤◌, All, List, [], ◌∷◌, ◌++◌, length, take, drop, get_or, refl, ap, ◌∙◌, sym, inl, inr, arith}
use Rattle.std.specs.List.{flat_map}
use Rattle.std.proofs.lemmas.List.{length-append, length-map, take_more, drop_more, flat_map_more, map-append, nil_from_length}
use Rattle.std.proofs.lemmas.Bool.{cases_eq}
use Rattle.std.proofs.lemmas.List.Elements.{All-nil, All-cons, All-head, All-tail}
use Rattle.std.proofs.Math.Nat.{mul-le-mul}
use Rattle.ep_binding.specs.Bindings.{bindings, binding_count, with_first}

length-extended : (bs : List (List ℕ)) (c : List ℕ) → length (flat_map (with_first bs) c) ≡ length c * length bs
length-extended bs [] = omega arith
length-extended bs (o ∷ c) =
    length-append (with_first bs o) (flat_map (with_first bs) c)
    ∙ ap (λ n. length (with_first bs o) + n) (length-extended bs c)
    ∙ ap (λ n. n + length c * length bs) (length-map bs (λ b. o ∷ b))
    ∙ omega arith

pub length-bindings : (cs : List (List ℕ)) → length (bindings cs) ≡ binding_count cs
length-bindings [] = refl
length-bindings (c ∷ cs) = length-extended (bindings cs) c ∙ ap (λ n. length c * n) (length-bindings cs)

pub extended-more : (bs : List (List ℕ)) (os : List ℕ) (i : ℕ) (d : ℕ) → i < length os →
    flat_map (with_first bs) (take (i + 1) os) ≡ flat_map (with_first bs) (take i os) ++ with_first bs (get_or os i d)
extended-more bs os i d h =
    ap (flat_map (with_first bs)) (take_more os i d h) ∙ sym (flat_map_more (with_first bs) [] (take i os) (get_or os i d))

pub bindings-drop : (cs : List (List ℕ)) (i : ℕ) (d : List ℕ) → i < length cs →
    bindings (drop i cs) ≡ flat_map (with_first (bindings (drop (i + 1) cs))) (get_or cs i d)
bindings-drop cs i d h = ap bindings (drop_more cs i d h)

pub with_first-more : (bs : List (List ℕ)) (o : ℕ) (i : ℕ) (d : List ℕ) → i < length bs →
    with_first (take (i + 1) bs) o ≡ with_first (take i bs) o ++ (o ∷ get_or bs i d) ∷ []
with_first-more bs o i d h = ap (λ bs. with_first bs o) (take_more bs i d h) ∙ map-append (λ b. o ∷ b) (take i bs) (get_or bs i d ∷ [])

pub ruleset listing_steps = (extended-more, bindings-drop, with_first-more)

-- there is a binding where each parameter has an object
pub count-positive : (cs : List (List ℕ)) → All (λ c. 0 < length c) cs → 0 < binding_count cs
count-positive [] h = omega arith
count-positive (c ∷ cs) h =
    let p : 1 * 1 ≤ length c * binding_count cs =
    mul-le-mul (All-head (λ c. 0 < length c) c cs h) (count-positive cs (All-tail (λ c. 0 < length c) c cs h)) in
    omega arith

pub positive-count : (cs : List (List ℕ)) → 0 < binding_count cs → All (λ c. 0 < length c) cs
positive-count [] h = All-nil (λ c. 0 < length c)
positive-count ([] ∷ cs) h = absurd (omega arith)
positive-count ((o ∷ c) ∷ cs) h =
    All-cons (λ c. 0 < length c) (o ∷ c) cs (omega arith)
    (positive-count cs (elim (cases_eq (binding_count cs) 0) [
      | inl e ↦ absurd (let f : length (o ∷ c) * binding_count cs ≡ length (o ∷ c) * 0 = ap (λ n. length (o ∷ c) * n) e in omega arith)
      | inr n ↦ omega arith
    ]))

pub none-bound : (cs : List (List ℕ)) → (0 < length (bindings cs) → ⊥) → bindings cs ≡ []
none-bound cs h = nil_from_length (bindings cs) (omega arith)
