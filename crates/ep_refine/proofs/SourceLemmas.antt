-- How many links lead to each world, and to a list of worlds.
use Rattle.std.proofs.Common.{◌≡◌, ◌≢◌, ℕ, zero, suc, ◌<◌, ◌≤◌, ◌+◌, ◌==◌, ◌⊎◌, inl, inr, ⊎_elim, Bool, true, false, cond, List, [], ◌∷◌, ◌++◌, length, get_or, map, filter, sum_by, refl, sym, subst, ◌∙◌, arith, nat_eq, length-append, lt-suc_self, zero-le}
use Rattle.std.proofs.lemmas.Bool.Decides.{nat_tests}
use Rattle.std.proofs.lemmas.List.{length-map}
use Rattle.std.proofs.lemmas.List.Sums.{sum_by-cons}
use Rattle.std.proofs.Math.ListN.{get_or-eq_default}
use Rattle.std.specs.List.{AllByRecursion}
use Rattle.ep_theory.specs.Rising.{IsIn}
use Rattle.ep_theory.specs.Kripke.{Kripke, IsState, links_of}
use Rattle.ep_theory.specs.Fits.{link_count}
use Rattle.ep_theory.proofs.CallerLemmas.{in_left, in_right, IsIn-filter, IsIn-map, IsIn-at, test_itself}
use Rattle.ep_refine.specs.Bound.{sum_below}
use Rattle.ep_refine.specs.Groups.{AreDistinct}
use Rattle.ep_refine.specs.Touching.{LinksToSome}
use Rattle.ep_refine.specs.Rounds.{degree}
use Rattle.ep_refine.proofs.BlockLemmas.{lt_or_le}
use Rattle.ep_refine.proofs.Potential.{sum_same, sum_bump}

sum_zero : (f : ℕ → ℕ) (n : ℕ) → ((x : ℕ) → x < n → f x ≡ 0) → sum_below f n ≡ 0
sum_zero f zero h = refl
sum_zero f (suc n) h = let a = sum_zero f n (λ x l. h x (omega arith)) in let b = h n (lt-suc_self n) in omega (arith, a, b)

sum_plus : (f g : ℕ → ℕ) (n : ℕ) → sum_below (λ x. f x + g x) n ≡ sum_below f n + sum_below g n
sum_plus f g zero = refl
sum_plus f g (suc n) = let a = sum_plus f g n in omega (arith, a)

-- the pairs that lead to a number
abbrev into : List (ℕ × ℕ) → ℕ → List (ℕ × ℕ)
into pairs v = filter (λ p. p.1 == v) pairs

-- each pair leads to one number
into_counted : (pairs : List (ℕ × ℕ)) (n : ℕ) → AllByRecursion (λ p. (p.0 < n) × (p.1 < n)) pairs → sum_below (λ v. length (into pairs v)) n ≡ length pairs
into_counted [] n h = sum_zero (λ v. 0) n (λ x l. refl)
into_counted (p ∷ ps) n h =
    let a = into_counted ps n h.1 in
    let b : sum_below (λ v. length (into (p ∷ ps) v)) n ≡ sum_below (λ v. length (into ps v)) n + 1 =
    sum_bump (λ v. length (into ps v)) (λ v. length (into (p ∷ ps) v)) n p.1 1 h.0.1 (one (p.1 == p.1) (let e : nat_eq p.1 p.1 ≡ true = grind (arith, nat_tests) in e))
    (λ x l q. none x (p.1 == x) (let e : nat_eq p.1 x ≡ false = grind (arith, nat_tests) in e)) in
    omega (arith, a, b)
  where
    one : (b : Bool) → b ≡ true → length (cond b (p ∷ into ps p.1) (into ps p.1)) ≡ length (into ps p.1) + 1
    one true e = omega arith
    one false e = cc

    none : (x : ℕ) (b : Bool) → b ≡ false → length (cond b (p ∷ into ps x) (into ps x)) ≡ length (into ps x)
    none x true e = cc
    none x false e = refl

-- the pairs of all agents
all_counted : (links : List (List (ℕ × ℕ))) (n : ℕ) → AllByRecursion (λ pairs. AllByRecursion (λ p. (p.0 < n) × (p.1 < n)) pairs) links →
    sum_below (λ v. sum_by (λ pairs. length (into pairs v)) links) n ≡ sum_by length links
all_counted [] n h = sum_zero (λ v. 0) n (λ x l. refl)
all_counted (l ∷ ls) n h =
    let a = all_counted ls n h.1 in
    let b = into_counted l n h.0 in
    let c : sum_below (λ v. sum_by (λ pairs. length (into pairs v)) (l ∷ ls)) n ≡ sum_below (λ v. length (into l v) + sum_by (λ pairs. length (into pairs v)) ls) n =
    sum_same (λ v. length (into l v) + sum_by (λ pairs. length (into pairs v)) ls) (λ v. sum_by (λ pairs. length (into pairs v)) (l ∷ ls)) n
    (λ v m. sum_by-cons (λ pairs. length (into pairs v)) l ls) in
    let d = sum_plus (λ v. length (into l v)) (λ v. sum_by (λ pairs. length (into pairs v)) ls) n in
    let e = sum_by-cons length l ls in
    omega (arith, a, b, c, d, e)

pub degrees_are_links : (S : Kripke) → IsState S → sum_below (degree S) S.worlds ≡ link_count S
degrees_are_links S s = all_counted S.links S.worlds s.within

-- lists one after another
abbrev joined : {A : Type 0} → (A → List ℕ) → List A → List ℕ
joined f [] = []
joined f (x ∷ xs) = f x ++ joined f xs

length-joined : {A : Type 0} (f : A → List ℕ) (xs : List A) → length (joined f xs) ≡ sum_by (λ x. length (f x)) xs
length-joined f [] = refl
length-joined f (x ∷ xs) = let a = length-joined f xs in let b = length-append (f x) (joined f xs) in let c = sum_by-cons (λ y. length (f y)) x xs in omega (arith, a, b, c)

in_joined : {A : Type 0} (f : A → List ℕ) (x : A) (xs : List A) (u : ℕ) → IsIn x xs → IsIn u (f x) → IsIn u (joined f xs)
in_joined f x [] u i j = absurd i
in_joined f x (y ∷ ys) u (inl q) j = in_left u (f y) (joined f ys) (subst (λ z. IsIn u (f z)) q j)
in_joined f x (y ∷ ys) u (inr i) j = in_right u (f y) (joined f ys) (in_joined f x ys u i j)

-- the worlds with a link to a world, one for each link
abbrev sources : Kripke → ℕ → List ℕ
sources S v = joined (λ pairs. map (λ p. p.0) (into pairs v)) S.links

length-sources : (S : Kripke) (v : ℕ) → length (sources S v) ≡ degree S v
length-sources S v = length-joined (λ pairs. map (λ p. p.0) (into pairs v)) S.links ∙ same S.links
  where
    same : (links : List (List (ℕ × ℕ))) → sum_by (λ pairs. length (map (λ (p : ℕ × ℕ). p.0) (into pairs v))) links ≡ sum_by (λ pairs. length (into pairs v)) links
    same [] = refl
    same (l ∷ ls) =
        let a = same ls in
        let b = sum_by-cons (λ pairs. length (map (λ (p : ℕ × ℕ). p.0) (into pairs v))) l ls in
        let c = sum_by-cons (λ pairs. length (into pairs v)) l ls in
        let d = length-map (into l v) (λ (p : ℕ × ℕ). p.0) in
        omega (arith, a, b, c, d)

linked_source : (S : Kripke) (a w v : ℕ) → IsIn (w, v) (links_of S a) → IsIn w (sources S v)
linked_source S a w v i = ⊎_elim
    (λ (l : a < length S.links). in_joined (λ pairs. map (λ p. p.0) (into pairs v)) (links_of S a) S.links w (IsIn-at S.links a [] l)
    (IsIn-map (λ (p : ℕ × ℕ). p.0) (w, v) (into (links_of S a) v) (IsIn-filter (λ p. p.1 == v) (w, v) (links_of S a) i (test_itself v))))
    (λ (l : length S.links ≤ a). absurd (subst (λ (ps : List (ℕ × ℕ)). IsIn (w, v) ps) (get_or-eq_default S.links [] l) i))
    (lt_or_le a (length S.links))

-- a list without its first x
abbrev one_less : ℕ → List ℕ → List ℕ
one_less x [] = []
one_less x (y ∷ ys) = cond (nat_eq x y) ys (y ∷ one_less x ys)

less_step : (b : Bool) (x y : ℕ) (ys rest : List ℕ) → nat_eq x y ≡ b → (x ≡ y) ⊎ (length rest + 1 ≡ length ys) → length (cond b ys (y ∷ rest)) + 1 ≡ length ys + 1
less_step true x y ys rest e h = refl
less_step false x y ys rest e (inl q) = absurd (let t : nat_eq x y ≡ true = grind (arith, nat_tests) in cc)
less_step false x y ys rest e (inr q) = omega (arith, q)

length-one_less : (x : ℕ) (zs : List ℕ) → IsIn x zs → length (one_less x zs) + 1 ≡ length zs
length-one_less x [] i = absurd i
length-one_less x (y ∷ ys) (inl q) = less_step (nat_eq x y) x y ys (one_less x ys) refl (inl q) ∙ omega arith
length-one_less x (y ∷ ys) (inr i) = less_step (nat_eq x y) x y ys (one_less x ys) refl (inr (length-one_less x ys i)) ∙ omega arith

kept_step : (b : Bool) (x u y : ℕ) (ys rest : List ℕ) → nat_eq x y ≡ b → u ≢ x → (u ≡ y) ⊎ (IsIn u ys × IsIn u rest) → IsIn u (cond b ys (y ∷ rest))
kept_step true x u y ys rest e n (inl q) = absurd (n (let t : x ≡ y = grind (arith, nat_tests) in q ∙ sym t))
kept_step true x u y ys rest e n (inr i) = i.0
kept_step false x u y ys rest e n (inl q) = inl q
kept_step false x u y ys rest e n (inr i) = inr i.1

in_one_less : (x u : ℕ) (zs : List ℕ) → u ≢ x → IsIn u zs → IsIn u (one_less x zs)
in_one_less x u [] n i = absurd i
in_one_less x u (y ∷ ys) n (inl q) = kept_step (nat_eq x y) x u y ys (one_less x ys) refl n (inl q)
in_one_less x u (y ∷ ys) n (inr i) = kept_step (nat_eq x y) x u y ys (one_less x ys) refl n (inr (i, in_one_less x u ys n i))

-- a list without repeats is no longer than one that has its items
distinct_few : (ws zs : List ℕ) → AreDistinct ws → ((u : ℕ) → IsIn u ws → IsIn u zs) → length ws ≤ length zs
distinct_few [] zs d h = zero-le
distinct_few (x ∷ xs) zs d h =
    let a = distinct_few xs (one_less x zs) (λ i j l b. d (suc i) (suc j) (omega arith) (omega arith)) (λ u i. in_one_less x u zs (apart u i) (h u (inr i))) in
    let b = length-one_less x zs (h x (inl refl)) in
    omega (arith, a, b)
  where
    at : (u : ℕ) (ys : List ℕ) → IsIn u ys → (k : ℕ) × (k < length ys) × (get_or ys k 0 ≡ u)
    at u [] i = absurd i
    at u (y ∷ ys) (inl q) = (0, omega arith, sym q)
    at u (y ∷ ys) (inr i) = let k = at u ys i in (suc k.0, (let l = k.1 in omega (arith, l)), k.2)

    apart : (u : ℕ) → IsIn u xs → u ≢ x
    apart u i q = let k = at u xs i in d 0 (suc k.0) (omega arith) (let l = k.1 in omega (arith, l)) (sym q ∙ sym k.2)

-- distinct worlds with links to some worlds are at most as many as the links to these
pub few_linked : (S : Kripke) (moved ws : List ℕ) → AreDistinct ws → ((w : ℕ) → IsIn w ws → LinksToSome S moved w) → length ws ≤ sum_by (degree S) moved
few_linked S moved ws d h =
    let a = distinct_few ws (joined (sources S) moved) d (λ w i. let l = h w i in in_joined (sources S) l.1 moved w l.2 (linked_source S l.0 w l.1 l.3)) in
    let b = length-joined (sources S) moved in
    let c = same moved in
    omega (arith, a, b, c)
  where
    same : (vs : List ℕ) → sum_by (λ v. length (sources S v)) vs ≡ sum_by (degree S) vs
    same [] = refl
    same (v ∷ vs) =
        let a = same vs in
        let b = sum_by-cons (λ u. length (sources S u)) v vs in
        let c = sum_by-cons (degree S) v vs in
        let e = length-sources S v in
        omega (arith, a, b, c, e)
