-- Lines of text.
use Rattle.std.specs.Prelude.{ℕ, List, ◌++◌, codes}
use Rattle.std.specs.List.{flat_map}

-- a text and a line feed
abbrev pub line : List ℕ → List ℕ
line text = text ++ codes "\n"

-- each text with a line feed
abbrev pub lines : List (List ℕ) → List ℕ
lines texts = flat_map line texts
