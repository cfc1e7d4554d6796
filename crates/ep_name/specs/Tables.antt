-- Tables of texts, each at itself.
use Rattle.std.specs.Prelude.{◌≡◌, ◌≢◌, ℕ, ◌<◌, ◌^◌, List, length, map, All, AllPairs}
use Rattle.std.specs.Global.{Vec}

abbrev pub texts_of : List (Vec ℕ × List ℕ) → List (List ℕ)
texts_of es = map (λ e. e.1) es

-- each text stands at itself, they differ, and their places fit 32 bits
abbrev pub IsTable : List (Vec ℕ × List ℕ) → Type 0
IsTable es = All (λ e. e.0.items ≡ e.1) es × AllPairs (λ x y. x ≢ y) (texts_of es) × (length es < 2 ^ 32)
