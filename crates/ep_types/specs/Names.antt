-- Names, what is declared at them, and the order of types.
use Rattle.std.specs.Prelude.{◌≡◌, ℕ, zero, suc, Bool, false, ◌||◌, nat_eq, List, length, Option, Some, map}
use Rattle.std.specs.Global.{Vec}
use Rattle.std.specs.Cmp.Lexicographic.{pointwise}
use Rattle.std.specs.List.{list_any}
use Rattle.std.specs.Map.{lookup}
use Rattle.std.specs.Option.{option_map_or}

abbrev pub Text : Type 0
Text = List ℕ

-- whether two texts are one
abbrev pub is_text : Text → Text → Bool
is_text = pointwise nat_eq

-- whether a text is in a list
abbrev pub is_among : Text → List Text → Bool
is_among x names = list_any (is_text x) names

-- what is declared at a name: the value of the first pair with it
abbrev pub declared : {V : Type 0} → Text → List (Text × V) → Option V
declared x es = lookup (is_text x) es

abbrev pub names_of : {V : Type 0} → List (Text × V) → List Text
names_of es = map (λ e. e.0) es

abbrev pub values_of : {V : Type 0} → List (Text × V) → List V
values_of es = map (λ e. e.1) es

-- entries of a map by their texts
abbrev pub seen : {V : Type 0} → List (Vec ℕ × V) → List (Text × V)
seen es = map (λ e. (e.0.items, e.1)) es

-- types with their parents, or parameters or objects with their types
abbrev pub Typings : Type 0
Typings = List (Text × Text)

-- whether a type is another one or climbs to it, from parent to parent, in so many steps at most
abbrev pub climbs : ℕ → Typings → Text → Text → Bool
climbs zero types kind above = is_text kind above
climbs (suc n) types kind above = is_text kind above || option_map_or (λ parent. climbs n types parent above) (declared kind types) false

-- whether a type is another one or below it
abbrev pub is_below : Typings → Text → Text → Bool
is_below types kind above = climbs (length types) types kind above

-- a type reaches another through parents
pub data Reaches (types : Typings) : Text → Text → Type 0 where
  itself : {kind : Text} → Reaches types kind kind
  through : {kind parent above : Text} → declared kind types ≡ Some parent → Reaches types parent above → Reaches types kind above
