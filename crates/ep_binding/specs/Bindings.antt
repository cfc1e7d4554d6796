-- Bindings of parameters to objects, and their numbers. A parameter is the list of the objects that it may take, in
-- order of declaration; a binding has one object for each parameter.
use Rattle.std.specs.Prelude.{◌≡◌, ◌≢◌, ℕ, ◌*◌, ◌<◌, ◌≤◌, Bool, true, ◌&&◌, not, ◌==◌, List, [], ◌∷◌, length, map, filter, Contains, AllPairs, slice_index}
use Rattle.std.specs.declared.cmp.Ordering.TheVariants.{Less}
use Rattle.std.specs.Ordering.{nat_cmp}
use Rattle.std.specs.Cmp.Lexicographic.{slice_cmp}
use Rattle.std.specs.List.{list_any, flat_map, slice_index_or}
use Rattle.ep_binding.specs.declared.limits.TheConstants.{MOST_OBJECTS}

-- the bindings with an object before each
abbrev pub with_first : List (List ℕ) → ℕ → List (List ℕ)
with_first bs o = map (λ b. o ∷ b) bs

-- all bindings, in lexicographic order: the last parameter is the fastest
abbrev pub bindings : List (List ℕ) → List (List ℕ)
bindings [] = [] ∷ []
bindings (c ∷ cs) = flat_map (with_first (bindings cs)) c

-- the product of the numbers of objects
abbrev pub binding_count : List (List ℕ) → ℕ
binding_count [] = 1
binding_count (c ∷ cs) = length c * binding_count cs

abbrev pub contains : List ℕ → ℕ → Bool
contains os o = list_any (λ p. p == o) os

-- no object stands there twice
abbrev pub all_different : List ℕ → Bool
all_different [] = true
all_different (o ∷ os) = not (contains os o) && all_different os

-- the bindings that give each object to one parameter at most
abbrev pub distinct_bindings : List (List ℕ) → List (List ℕ)
distinct_bindings cs = filter all_different (bindings cs)

-- the bindings that lack an object
abbrev pub lacking : List (List ℕ) → ℕ → List (List ℕ)
lacking bs o = filter (λ b. not (contains b o)) bs

-- the bindings with an object before each that lacks it
abbrev pub with_first_apart : List (List ℕ) → ℕ → List (List ℕ)
with_first_apart bs o = with_first (lacking bs o) o

-- as long as the parameters, with an object of each
pub record IsBinding (cs : List (List ℕ)) (b : List ℕ) : Type 0 where
  pub long : length b ≡ length cs
  pub each : (i : ℕ) → i < length cs → Contains (slice_index_or cs i []) (slice_index b i)

-- nothing stands there twice
abbrev pub IsApart : {X : Type 0} → List X → Type 0
IsApart xs = AllPairs (λ x y. x ≢ y) xs

-- a parameter's objects: not too many, and each once
pub record IsObjects (c : List ℕ) : Type 0 where
  pub few : length c ≤ MOST_OBJECTS
  pub apart : IsApart c

-- lexicographic order
abbrev pub Precedes : List ℕ → List ℕ → Type 0
Precedes a b = slice_cmp nat_cmp a b ≡ Less
