-- Laminar families: of any two sets of one, either they have no object in common, or one of them lies in the other. A
-- set is the list of its objects.
use Rattle.std.specs.Prelude.{ℕ, Bool, true, not, ◌&&◌, ◌||◌, ◌⊎◌, List, [], ◌∷◌, Contains, AllPairs}
use Rattle.std.specs.List.{list_all}
use Rattle.ep_binding.specs.Bindings.{contains}

-- all objects of the first are in the second
abbrev pub LiesIn : List ℕ → List ℕ → Type 0
LiesIn c d = (o : ℕ) → Contains c o → Contains d o

-- no object is in both
abbrev pub AreDisjoint : List ℕ → List ℕ → Type 0
AreDisjoint c d = (o : ℕ) → Contains c o → Contains d o → ⊥

abbrev pub AreNested : List ℕ → List ℕ → Type 0
AreNested c d = AreDisjoint c d ⊎ (LiesIn c d ⊎ LiesIn d c)

abbrev pub IsLaminar : List (List ℕ) → Type 0
IsLaminar cs = AllPairs AreNested cs

-- ---- the same as tests

abbrev pub lies_in : List ℕ → List ℕ → Bool
lies_in c d = list_all (contains d) c

abbrev pub is_disjoint : List ℕ → List ℕ → Bool
is_disjoint c d = list_all (λ o. not (contains d o)) c

abbrev pub is_nested : List ℕ → List ℕ → Bool
is_nested c d = is_disjoint c d || (lies_in c d || lies_in d c)

abbrev pub is_laminar : List (List ℕ) → Bool
is_laminar [] = true
is_laminar (c ∷ cs) = list_all (is_nested c) cs && is_laminar cs
