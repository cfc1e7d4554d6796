-- How many choices the parameters of a laminar family have, from the smallest set up.
use Rattle.std.specs.Prelude.{ℕ, ◌+◌, ◌*◌, ◌-◌, Bool, false, ◌&&◌, nat_lt, nat_le, List, [], ◌∷◌, ◌++◌, length, count_by}
use Rattle.ep_binding.specs.Bindings.{contains}

-- whether the first object of one set is in another
abbrev pub meets : List ℕ → List ℕ → Bool
meets [] c = false
meets (o ∷ d) c = contains c o

-- whether a parameter that stands before one takes an object of its set: that of as small a set that lies in it
abbrev pub takes_before : List ℕ → List ℕ → Bool
takes_before c d = nat_le (length d) (length c) && meets d c

-- and one that stands behind it: that of a smaller set
abbrev pub takes_behind : List ℕ → List ℕ → Bool
takes_behind c d = nat_lt (length d) (length c) && meets d c

-- the objects of a set that are left when the parameters that choose first have theirs
abbrev pub objects_left : List (List ℕ) → List ℕ → List (List ℕ) → ℕ
objects_left before c behind = length c - (count_by (takes_before c) before + count_by (takes_behind c) behind)

-- the product of these numbers, for the parameters behind some
abbrev pub choices : List (List ℕ) → List (List ℕ) → ℕ
choices before [] = 1
choices before (c ∷ cs) = objects_left before c cs * choices (before ++ c ∷ []) cs
