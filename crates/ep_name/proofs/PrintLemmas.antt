-- A name and its objects so far, with no parenthesis at the end.
use Rattle.std.proofs.Common.{◌≡◌, ℕ, zero, suc, ◌+◌, ◌<◌, List, [], ◌∷◌, ◌++◌, length, map, take, get_or, refl, ap, ◌∙◌, sym, arith}
use Rattle.std.specs.List.{join_with_byte}
use Rattle.std.proofs.lemmas.List.{append_assoc, map-append, take_more, length-map, length-take-le}
use Rattle.ep_name.specs.Names.{printed, mark_before}

abbrev pub opened : List ℕ → List (List ℕ) → List ℕ
opened name [] = name
opened name (o ∷ os) = name ++ 40 ∷ join_with_byte 44 (o ∷ os)

join-push : (o : List ℕ) (os : List (List ℕ)) (p : List ℕ) →
    join_with_byte 44 (o ∷ os ++ p ∷ []) ≡ join_with_byte 44 (o ∷ os) ++ 44 ∷ p
join-push o [] p = refl
join-push o (q ∷ os) p =
    ap (λ t. o ++ 44 ∷ t) (join-push q os p) ∙ sym (append_assoc o (44 ∷ join_with_byte 44 (q ∷ os)) (44 ∷ p))

opened-push : (name : List ℕ) (os : List (List ℕ)) (p : List ℕ) → opened name (os ++ p ∷ []) ≡ opened name os ++ mark_before (length os) ∷ p
opened-push name [] p = refl
opened-push name (o ∷ os) p =
    ap (λ t. name ++ 40 ∷ t) (join-push o os p) ∙ sym (append_assoc name (40 ∷ join_with_byte 44 (o ∷ os)) (44 ∷ p))

-- one object more
pub opened-more : (name : List ℕ) (f : ℕ → List ℕ) (os : List ℕ) (i : ℕ) (d : ℕ) → i < length os →
    opened name (map f (take (i + 1) os)) ≡ (opened name (map f (take i os)) ++ mark_before i ∷ []) ++ f (get_or os i d)
opened-more name f os i d h =
    let long : length (map f (take i os)) ≡ i = length-map (take i os) f ∙ length-take-le i os (omega arith) in
    ap (λ ts. opened name (map f ts)) (take_more os i d h)
    ∙ ap (opened name) (map-append f (take i os) (get_or os i d ∷ []))
    ∙ opened-push name (map f (take i os)) (f (get_or os i d))
    ∙ ap (λ n. opened name (map f (take i os)) ++ mark_before n ∷ f (get_or os i d)) long
    ∙ sym (append_assoc (opened name (map f (take i os))) (mark_before i ∷ []) (f (get_or os i d)))

pub opened-none : (name : List ℕ) (os : List (List ℕ)) → length os ≡ 0 → opened name os ≡ printed name os
opened-none name [] h = refl
opened-none name (o ∷ os) h = absurd (omega arith)

pub opened-some : (name : List ℕ) (os : List (List ℕ)) → 0 < length os → opened name os ++ 41 ∷ [] ≡ printed name os
opened-some name [] h = absurd (omega arith)
opened-some name (o ∷ os) h = refl

pub mark-ascii : (i : ℕ) → mark_before i < 128
mark-ascii zero = omega arith
mark-ascii (suc i) = omega arith
