-- One parameter, one object and one distinct binding more.
use Rattle.std.proofs.Common.{◌≡◌, ℕ, ◌+◌, ◌<◌, Bool, true, false, ◌&&◌, not, cond, List, [], ◌∷◌, ◌++◌, length, filter, take, drop, get_or, refl, ap, ◌∙◌, sym}
use Rattle.std.specs.List.{flat_map}
use Rattle.std.proofs.lemmas.List.{take_more, drop_more, flat_map_more, map-append}
use Rattle.std.proofs.lemmas.List.Elements.{filter-append, filter_more}
use Rattle.ep_binding.specs.Bindings.{bindings, distinct_bindings, all_different, contains, with_first, with_first_apart, lacking}

kept_both : (o : ℕ) (b : List ℕ) (l g : List (List ℕ)) (p : Bool) → l ≡ with_first g o →
    cond (p && true) ((o ∷ b) ∷ l) l ≡ with_first (cond p (b ∷ g) g) o
kept_both o b l g true h = ap (λ bs. (o ∷ b) ∷ bs) h
kept_both o b l g false h = h

kept_none : (o : ℕ) (b : List ℕ) (l g : List (List ℕ)) (p : Bool) → l ≡ g → cond (p && false) ((o ∷ b) ∷ l) l ≡ g
kept_none o b l g true h = h
kept_none o b l g false h = h

kept_step : (o : ℕ) (b : List ℕ) (l f : List (List ℕ)) (q : Bool) → l ≡ with_first_apart f o →
    cond (not (contains b o) && q) ((o ∷ b) ∷ l) l ≡ with_first_apart (cond q (b ∷ f) f) o
kept_step o b l f true h = kept_both o b l (lacking f o) (not (contains b o)) h
kept_step o b l f false h = kept_none o b l (with_first_apart f o) (not (contains b o)) h

filter-with_first : (o : ℕ) (bs : List (List ℕ)) → filter all_different (with_first bs o) ≡ with_first_apart (filter all_different bs) o
filter-with_first o [] = refl
filter-with_first o (b ∷ bs) =
    kept_step o b (filter all_different (with_first bs o)) (filter all_different bs) (all_different b) (filter-with_first o bs)

filter-extended : (bs : List (List ℕ)) (c : List ℕ) →
    filter all_different (flat_map (with_first bs) c) ≡ flat_map (with_first_apart (filter all_different bs)) c
filter-extended bs [] = refl
filter-extended bs (o ∷ c) =
    filter-append all_different (with_first bs o) (flat_map (with_first bs) c)
    ∙ (λ i. filter-with_first o bs i ++ filter-extended bs c i)

pub distinct-drop : (cs : List (List ℕ)) (i : ℕ) (d : List ℕ) → i < length cs →
    distinct_bindings (drop i cs) ≡ flat_map (with_first_apart (distinct_bindings (drop (i + 1) cs))) (get_or cs i d)
distinct-drop cs i d h = ap distinct_bindings (drop_more cs i d h) ∙ filter-extended (bindings (drop (i + 1) cs)) (get_or cs i d)

pub extended_apart-more : (bs : List (List ℕ)) (os : List ℕ) (i : ℕ) (d : ℕ) → i < length os →
    flat_map (with_first_apart bs) (take (i + 1) os) ≡ flat_map (with_first_apart bs) (take i os) ++ with_first_apart bs (get_or os i d)
extended_apart-more bs os i d h =
    ap (flat_map (with_first_apart bs)) (take_more os i d h) ∙ sym (flat_map_more (with_first_apart bs) [] (take i os) (get_or os i d))

pub apart-more : (bs : List (List ℕ)) (o : ℕ) (i : ℕ) (d : List ℕ) → i < length bs →
    with_first_apart (take (i + 1) bs) o ≡ with_first_apart (take i bs) o ++ with_first (cond (not (contains (get_or bs i d) o)) (get_or bs i d ∷ []) []) o
apart-more bs o i d h =
    ap (λ bs. with_first bs o) (filter_more (λ b. not (contains b o)) bs i d h)
    ∙ map-append (λ b. o ∷ b) (lacking (take i bs) o) (cond (not (contains (get_or bs i d) o)) (get_or bs i d ∷ []) [])

pub ruleset distinct_steps = (distinct-drop, extended_apart-more, apart-more)
