-- The text of the muddy children puzzle: its lines in order, each with a line feed. Children are counted from 1, numbers
-- are in decimal, and one space stands between the tokens of a line.
use Rattle.std.specs.Prelude.{ℕ, not, ◌==◌, List, [], ◌∷◌, ◌++◌, filter, map, codes}
use Rattle.std.specs.List.{join_by, range_with_len}
use Rattle.std.specs.Fmt.{decimal}
use Rattle.ep_base.specs.Texts.{lines}

-- ---- the children

-- the numbers of so many children
abbrev pub everyone : ℕ → List ℕ
everyone count = range_with_len 1 count

-- all children but one
abbrev pub others : List ℕ → ℕ → List ℕ
others children self = filter (λ other. not (other == self)) children

abbrev pub child : ℕ → List ℕ
child n = codes "c" ++ decimal n

-- that a child is muddy
unfoldable pub muddy : ℕ → List ℕ
muddy n = codes "muddy ( " ++ child n ++ codes " )"

-- a text for each child, with a space before each and a comma between neighbours
unfoldable pub listed : (ℕ → List ℕ) → List ℕ → List ℕ
listed text children = join_by (λ n. codes " " ++ text n) (codes " ,") children

-- ---- the lines

unfoldable pub declaration_lines : List ℕ → List (List ℕ)
declaration_lines children =
    codes "task muddy ;"
    ∷ codes "types { child < agent ;"
    ∷ codes "}"
    ∷ (codes "objects {" ++ listed child children ++ codes " : child ;")
    ∷ codes "}"
    ∷ codes "fluents { muddy ( child ) ;"
    ∷ codes "}"
    ∷ []

-- each child may be muddy or not
abbrev pub vary_line : List ℕ → List ℕ
vary_line children = codes "vary {" ++ listed muddy children ++ codes " }"

-- a child sees the others, and not itself
unfoldable pub sees_line : List ℕ → ℕ → List ℕ
sees_line children self = codes "sees { " ++ child self ++ codes " } {" ++ listed muddy (others children self) ++ codes " }"

-- in truth all children are muddy
unfoldable pub initial_lines : List ℕ → List (List ℕ)
initial_lines children =
    codes "init {"
    ∷ vary_line children
    ∷ codes "law true ;"
    ∷ (map (sees_line children) children ++ codes "designated forall ( c : child ) muddy ( c ) ;" ∷ codes "}" ∷ [])

-- the father's announcement; the question, to which no child knows the answer; the goal
unfoldable pub action_lines : List (List ℕ)
action_lines =
    codes "action father { announce exists ( c : child ) muddy ( c ) ;"
    ∷ codes "}"
    ∷ codes "action ask { announce forall ( c : child ) ( not knows c muddy ( c ) and not knows c not muddy ( c ) ) ;"
    ∷ codes "}"
    ∷ codes "goal forall ( c : child ) knows c muddy ( c ) ;"
    ∷ []

abbrev pub trial_lines : List ℕ → List (List ℕ)
trial_lines children = declaration_lines children ++ initial_lines children ++ action_lines

-- the text for so many children
abbrev pub trial_text : ℕ → List ℕ
trial_text count = lines (trial_lines (everyone count))
