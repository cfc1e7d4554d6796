-- Printed names of ground atoms and actions.
use Rattle.std.specs.Prelude.{◌≢◌, ℕ, zero, suc, List, [], ◌∷◌, ◌++◌, map, slice_index_or, All}
use Rattle.std.specs.List.{join_with_byte}

-- the declared name, and where it has objects, '(' (40), their names with ',' (44) between them, and ')' (41)
abbrev pub printed : List ℕ → List (List ℕ) → List ℕ
printed name [] = name
printed name (o ∷ os) = name ++ 40 ∷ join_with_byte 44 (o ∷ os) ++ 41 ∷ []

-- the printed name with objects by number, of which these are the names
abbrev pub printed_at : List ℕ → List (List ℕ) → List ℕ → List ℕ
printed_at name names objects = printed name (map (λ o. slice_index_or names o []) objects)

-- what stands before the object's name at a place
abbrev pub mark_before : ℕ → ℕ
mark_before zero = 40
mark_before (suc place) = 44

-- neither '(' nor ')' nor ','
abbrev pub IsPlainByte : ℕ → Type 0
IsPlainByte c = (c ≢ 40) × (c ≢ 41) × (c ≢ 44)

abbrev pub IsPlain : List ℕ → Type 0
IsPlain name = All IsPlainByte name
