-- What is among the bindings, that they differ, and their order.
use Rattle.std.proofs.Common.{◌≡◌, ◌≢◌, ℕ, zero, suc, ◌<◌, Bool, true, false, cond, List, [], ◌∷◌, length, filter, get_or, All, refl, ap, subst, ◌∙◌, sym, arith}
use Rattle.std.specs.Prelude.{◌↔◌, AllPairs, Contains, slice_index}
use Rattle.std.specs.declared.cmp.Ordering.TheVariants.{Less, Equal}
use Rattle.std.specs.Ordering.{nat_cmp, ordering_then}
use Rattle.std.specs.Cmp.{nat_cmp_is}
use Rattle.std.specs.Cmp.Lexicographic.{slice_cmp}
use Rattle.std.specs.List.{flat_map, slice_index_or}
use Rattle.std.proofs.lemmas.List.{get_or-map, length-map}
use Rattle.std.proofs.lemmas.List.Elements.{All-nil, All-cons, All-head, All-tail, All-append, All-map, All-weaker, All-contains, All-contains_itself, All-filter, filter_passes, Contains-append_left, Contains-append_right}
use Rattle.ep_binding.specs.Bindings.{bindings, distinct_bindings, with_first, all_different, IsBinding, IsApart, Precedes}
use Rattle.ep_binding.proofs.ApartLemmas.{pairs-nil, pairs-cons, pairs-head, pairs-tail, pairs-append, pairs-map, pairs-filter, different-tells, different-from}

-- what holds of all bindings
all-extended : (P : List ℕ → Type 0) (bs : List (List ℕ)) (c : List ℕ) →
    All (λ o. All (λ b. P (o ∷ b)) bs) c → All P (flat_map (with_first bs) c)
all-extended P bs [] h = All-nil P
all-extended P bs (o ∷ c) h =
    All-append P (with_first bs o) (flat_map (with_first bs) c)
    (All-map P (λ b. o ∷ b) bs (All-head (λ o. All (λ b. P (o ∷ b)) bs) o c h))
    (all-extended P bs c (All-tail (λ o. All (λ b. P (o ∷ b)) bs) o c h))

binding-nil : IsBinding [] []
binding-nil = record { long = refl; each = λ i h. absurd (omega arith) }

binding-each : (c : List ℕ) (cs : List (List ℕ)) (o : ℕ) (b : List ℕ) → Contains c o → IsBinding cs b →
    (i : ℕ) → i < length (c ∷ cs) → Contains (slice_index_or (c ∷ cs) i []) (slice_index (o ∷ b) i)
binding-each c cs o b h k zero l = h
binding-each c cs o b h k (suc i) l = k.each i (omega arith)

binding-cons : (c : List ℕ) (cs : List (List ℕ)) (o : ℕ) (b : List ℕ) → Contains c o → IsBinding cs b → IsBinding (c ∷ cs) (o ∷ b)
binding-cons c cs o b h k = record { long = ap suc k.long; each = binding-each c cs o b h k }

pub all-bindings : (cs : List (List ℕ)) → All (IsBinding cs) (bindings cs)
all-bindings [] = All-cons (IsBinding []) [] [] binding-nil (All-nil (IsBinding []))
all-bindings (c ∷ cs) =
    all-extended (IsBinding (c ∷ cs)) (bindings cs) c
    (All-weaker (Contains c) (λ o. All (λ b. IsBinding (c ∷ cs) (o ∷ b)) (bindings cs))
    (λ o h. All-weaker (IsBinding cs) (λ b. IsBinding (c ∷ cs) (o ∷ b)) (λ b k. binding-cons c cs o b h k) (bindings cs) (all-bindings cs))
    c (All-contains_itself c))

contains-with_first : (bs : List (List ℕ)) (o : ℕ) (b : List ℕ) → Contains bs b → Contains (with_first bs o) (o ∷ b)
contains-with_first bs o b (k, h, e) =
    (k, (let l = length-map bs (λ b. o ∷ b) in omega arith), get_or-map (λ b. o ∷ b) bs k b (o ∷ b) h ∙ ap (λ b. o ∷ b) e)

contains-extended : (bs : List (List ℕ)) (c : List ℕ) (o : ℕ) (b : List ℕ) → Contains c o → Contains bs b →
    Contains (flat_map (with_first bs) c) (o ∷ b)
contains-extended bs [] o b (k, h, e) m = absurd (omega arith)
contains-extended bs (p ∷ c) o b (zero, h, e) m =
    Contains-append_left (with_first bs p) (flat_map (with_first bs) c) (o ∷ b)
    (subst (λ p. Contains (with_first bs p) (o ∷ b)) (sym e) (contains-with_first bs o b m))
contains-extended bs (p ∷ c) o b (suc k, h, e) m =
    Contains-append_right (with_first bs p) (flat_map (with_first bs) c) (o ∷ b)
    (contains-extended bs c o b (k, omega arith, e) m)

binding-rest : (c : List ℕ) (cs : List (List ℕ)) (o : ℕ) (b : List ℕ) → IsBinding (c ∷ cs) (o ∷ b) → IsBinding cs b
binding-rest c cs o b h =
    record { long = (let l = h.long in omega arith); each = λ i k. h.each (suc i) (omega arith) }

pub among-bindings : (cs : List (List ℕ)) (b : List ℕ) → IsBinding cs b → Contains (bindings cs) b
among-bindings [] [] h = (0, omega arith, refl)
among-bindings [] (o ∷ b) h = absurd (let l = h.long in omega arith)
among-bindings (c ∷ cs) [] h = absurd (let l = h.long in omega arith)
among-bindings (c ∷ cs) (o ∷ b) h =
    contains-extended (bindings cs) c o b (h.each 0 (omega arith)) (among-bindings cs b (binding-rest c cs o b h))

pub bindings-among : (cs : List (List ℕ)) (b : List ℕ) → Contains (bindings cs) b ↔ IsBinding cs b
bindings-among cs b = (All-contains (IsBinding cs) (bindings cs) b (all-bindings cs), among-bindings cs b)

kept-step : {X : Type 0} (x y : X) (ys : List X) (b : Bool) → Contains ys y → Contains (cond b (x ∷ ys) ys) y
kept-step x y ys true (k, h, e) = (suc k, omega arith, e)
kept-step x y ys false h = h

contains-kept : {X : Type 0} (p : X → Bool) (xs : List X) (x : X) → Contains xs x → p x ≡ true → Contains (filter p xs) x
contains-kept p [] x (k, h, e) q = absurd (omega arith)
contains-kept p (y ∷ ys) x (zero, h, e) q =
    subst (λ b. Contains (cond b (y ∷ filter p ys) (filter p ys)) x) (sym (ap p e ∙ q)) (0, omega arith, e)
contains-kept p (y ∷ ys) x (suc k, h, e) q =
    kept-step y x (filter p ys) (p y) (contains-kept p ys x (k, omega arith, e) q)

pub distinct-among : (cs : List (List ℕ)) (b : List ℕ) → Contains (distinct_bindings cs) b ↔ (IsBinding cs b × IsApart b)
distinct-among cs b = (
  λ h. (
    All-contains (IsBinding cs) (distinct_bindings cs) b (All-filter all_different (IsBinding cs) (bindings cs) (all-bindings cs)) h,
    different-tells b (All-contains (λ b. all_different b ≡ true) (distinct_bindings cs) b (filter_passes all_different (bindings cs)) h),
  ),
  λ h. contains-kept all_different (bindings cs) b (among-bindings cs b h.0) (different-from b h.1),
)

-- a relation at all pairs of bindings: of two with one first object by the rest, else by the first objects
module _ (Q : ℕ → ℕ → Type 0) (R : List ℕ → List ℕ → Type 0)
    (same : (o : ℕ) (a b : List ℕ) → R a b → R (o ∷ a) (o ∷ b))
    (other : (o p : ℕ) (a b : List ℕ) → Q o p → R (o ∷ a) (p ∷ b)) where
  pairs-extended : (bs : List (List ℕ)) (c : List ℕ) → AllPairs R bs → AllPairs Q c → AllPairs R (flat_map (with_first bs) c)
  pairs-extended bs [] h k = pairs-nil R
  pairs-extended bs (o ∷ c) h k =
      pairs-append R (with_first bs o) (flat_map (with_first bs) c)
      (pairs-map R (λ b. o ∷ b) bs (λ i j d p q. same o _ _ (h i j d p q)))
      (pairs-extended bs c h (pairs-tail Q o c k))
      (All-map (λ x. All (R x) (flat_map (with_first bs) c)) (λ b. o ∷ b) bs
      (λ i d l. all-extended (R (o ∷ get_or bs i d)) bs c
      (All-weaker (Q o) (λ p. All (λ b. R (o ∷ get_or bs i d) (p ∷ b)) bs) (λ p q j e m. other o p (get_or bs i d) (get_or bs j e) q) c (pairs-head Q o c k))))

  pub pairs-bindings : (cs : List (List ℕ)) → All (λ c. AllPairs Q c) cs → AllPairs R (bindings cs)
  pairs-bindings [] h = pairs-cons R [] [] (All-nil (R [])) (pairs-nil R)
  pairs-bindings (c ∷ cs) h =
      pairs-extended (bindings cs) c (pairs-bindings cs (All-tail (λ c. AllPairs Q c) c cs h)) (All-head (λ c. AllPairs Q c) c cs h)

pub apart-bindings : (cs : List (List ℕ)) → All IsApart cs → IsApart (bindings cs)
apart-bindings = pairs-bindings (λ x y. x ≢ y) (λ x y. x ≢ y) (λ o a b h e. h cc) (λ o p a b h e. h cc)

pub apart-distinct : (cs : List (List ℕ)) → All IsApart cs → IsApart (distinct_bindings cs)
apart-distinct cs h = pairs-filter (λ x y. x ≢ y) all_different (bindings cs) (apart-bindings cs h)

precedes-same : (o : ℕ) (a b : List ℕ) → Precedes a b → Precedes (o ∷ a) (o ∷ b)
precedes-same o a b h = ap (λ r. ordering_then r (slice_cmp nat_cmp a b)) (sym (nat_cmp_is o o Equal refl)) ∙ h

precedes-other : (o p : ℕ) (a b : List ℕ) → o < p → Precedes (o ∷ a) (p ∷ b)
precedes-other o p a b h = ap (λ r. ordering_then r (slice_cmp nat_cmp a b)) (sym (nat_cmp_is o p Less h))

pub ordered-bindings : (cs : List (List ℕ)) → All (λ c. AllPairs (λ o p. o < p) c) cs → AllPairs Precedes (bindings cs)
ordered-bindings = pairs-bindings (λ o p. o < p) Precedes precedes-same precedes-other

pub ordered-distinct : (cs : List (List ℕ)) → All (λ c. AllPairs (λ o p. o < p) c) cs → AllPairs Precedes (distinct_bindings cs)
ordered-distinct cs h = pairs-filter Precedes all_different (bindings cs) (ordered-bindings cs h)
