-- A name and its objects so far, one object on.
use Rattle.std.proofs.Common.{◌≡◌, ℕ, ◌+◌, ◌<◌, List, [], ◌∷◌, ◌++◌, length, map, take, get_or, refl, ap, ◌∙◌, sym, arith}
use Rattle.std.specs.List.{join_with_byte}
use Rattle.std.proofs.lemmas.List.{append_assoc, map-append, take_more, length-map, length-take-le}
use Rattle.ep_name.specs.Names.{mark_before}
use Rattle.ep_name.proofs.CallerLemmas.{opened}
use Rattle.ep_tree.specs.declared.tree.Name.{Name}

join-push : (o : List ℕ) (os : List (List ℕ)) (p : List ℕ) → join_with_byte 44 (o ∷ os ++ p ∷ []) ≡ join_with_byte 44 (o ∷ os) ++ 44 ∷ p
join-push o [] p = refl
join-push o (q ∷ os) p = ap (λ t. o ++ 44 ∷ t) (join-push q os p) ∙ sym (append_assoc o (44 ∷ join_with_byte 44 (q ∷ os)) (44 ∷ p))

opened-push : (name : List ℕ) (os : List (List ℕ)) (p : List ℕ) → opened name (os ++ p ∷ []) ≡ opened name os ++ mark_before (length os) ∷ p
opened-push name [] p = refl
opened-push name (o ∷ os) p = ap (λ t. name ++ 40 ∷ t) (join-push o os p) ∙ sym (append_assoc name (40 ∷ join_with_byte 44 (o ∷ os)) (44 ∷ p))

pub opened-name : (name : List ℕ) (ns : List Name) (i : ℕ) (n : Name) → i < length ns → n ≡ get_or ns i n →
    opened name (map (λ (n : Name). n.text) (take (i + 1) ns)) ≡ (opened name (map (λ (n : Name). n.text) (take i ns)) ++ mark_before i ∷ []) ++ n.text
opened-name name ns i n h here =
    let f = λ (n : Name). n.text in
    let long : length (map f (take i ns)) ≡ i = length-map (take i ns) f ∙ length-take-le i ns (omega arith) in
    ap (λ ts. opened name (map f ts)) (take_more ns i n h ∙ ap (λ z. take i ns ++ z ∷ []) (sym here))
    ∙ ap (opened name) (map-append f (take i ns) (n ∷ []))
    ∙ opened-push name (map f (take i ns)) n.text
    ∙ ap (λ k. opened name (map f (take i ns)) ++ mark_before k ∷ n.text) long
    ∙ sym (append_assoc (opened name (map f (take i ns))) (mark_before i ∷ []) n.text)
