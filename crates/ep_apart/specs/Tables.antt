-- Tables of lines that tell worlds of one state apart.
use Rattle.std.specs.Prelude.{◌≡◌, ℕ, zero, suc, ◌<◌, ◌≤◌, ◌+◌, ◌*◌, List, [], ◌∷◌, ◌++◌, length, map, slice_index_or, Option, Some, None}
use Rattle.ep_theory.specs.Rising.{IsIn}
use Rattle.ep_theory.specs.Kripke.{Kripke, links_of}
use Rattle.ep_theory.specs.Truth.{Truth}
use Rattle.ep_theory.specs.Kind.{kind}
use Rattle.ep_apart.specs.declared.lines.Line.{Line}
use Rattle.ep_apart.specs.Lines.{formula_of, AreLines, last_line, nesting}

-- line j is true at c and at no world of N, and at most k `Knows` are nested in it
pub record Tells (Q : Kripke) (k : ℕ) (lines : List Line) (j c : ℕ) (N : ℕ → Type 0) : Type 0 where
  pub within : j < length lines
  pub here : Truth Q c (formula_of lines j)
  pub nowhere : (d : ℕ) → N d → Truth Q d (formula_of lines j) → ⊥
  pub shallow : nesting (formula_of lines j) ≤ k

-- what stands for a pair of worlds: a line that tells the first from the second, or none where their kinds are equal
abbrev pub IsCell : Kripke → ℕ → List Line → ℕ → ℕ → Option ℕ → Type 0
IsCell Q k lines c d None = kind Q k c ≡ kind Q k d
IsCell Q k lines c d (Some j) = Tells Q k lines j c (λ y. y ≡ d)

abbrev pub cell : List (List (Option ℕ)) → ℕ → ℕ → Option ℕ
cell table c d = slice_index_or (slice_index_or table c []) d None

-- a cell for each world
pub record IsRow (Q : Kripke) (k : ℕ) (lines : List Line) (c : ℕ) (row : List (Option ℕ)) : Type 0 where
  pub long : length row ≡ Q.worlds
  pub cells : (d : ℕ) → d < Q.worlds → IsCell Q k lines c d (slice_index_or row d None)

-- a row for each world
pub record IsTable (Q : Kripke) (k : ℕ) (lines : List Line) (table : List (List (Option ℕ))) : Type 0 where
  pub long : length table ≡ Q.worlds
  pub rows : (c : ℕ) → c < Q.worlds → IsRow Q k lines c (slice_index_or table c [])

-- before round 0 there is no row, and before round k + 1 there is a table of level k
abbrev pub IsBefore : Kripke → ℕ → List Line → List (List (Option ℕ)) → Type 0
IsBefore Q zero lines table = table ≡ []
IsBefore Q (suc k) lines table = IsTable Q k lines table

-- n rows of n cells, whose numbers are those of lines
pub record IsGrid (n : ℕ) (lines : List Line) (table : List (List (Option ℕ))) : Type 0 where
  pub long : length table ≡ n
  pub rows : (c : ℕ) → c < n → length (slice_index_or table c []) ≡ n
  pub within : (c d j : ℕ) → c < n → d < n → cell table c d ≡ Some j → j < length lines

-- a line for each world but c
abbrev pub IsFullRow : List (Option ℕ) → ℕ → Type 0
IsFullRow row c = (d : ℕ) → d < length row → (d ≡ c → ⊥) → slice_index_or row d None ≡ None → ⊥

-- how many of the cells have a line
abbrev pub told_count : Option ℕ → ℕ
told_count None = 0
told_count (Some j) = 1

abbrev pub told_row : (ℕ → Option ℕ) → ℕ → ℕ
told_row h zero = 0
told_row h (suc n) = told_row h n + told_count (h n)

abbrev pub told_table : (ℕ → ℕ → Option ℕ) → ℕ → ℕ → ℕ
told_table h n zero = 0
told_table h n (suc m) = told_table h n m + told_row (h m) n

abbrev pub in_row : List (Option ℕ) → ℕ → Option ℕ
in_row row d = slice_index_or row d None

-- lines were added behind the old ones, and proper lines stay so
pub record Grows (agents atoms : ℕ) (old new : List Line) : Type 0 where
  pub more : (ls : List Line) × (new ≡ old ++ ls)
  pub proper : AreLines agents atoms 0 old → AreLines agents atoms 0 new

-- the line was added, and has this number
pub record IsAdded (old : List Line) (line : Line) (new : List Line) (k : ℕ) : Type 0 where
  pub number : k ≡ length old
  pub lines : new ≡ old ++ line ∷ []

-- line r says what all the parts say
pub record IsConjunction (old new : List Line) (parts : List ℕ) (r : ℕ) : Type 0 where
  pub within : r < length new
  pub whole : (Q : Kripke) (w : ℕ) → ((j : ℕ) → IsIn j parts → Truth Q w (formula_of old j)) → Truth Q w (formula_of new r)
  pub part : (Q : Kripke) (w j : ℕ) → IsIn j parts → Truth Q w (formula_of new r) → Truth Q w (formula_of old j)
  pub shallow : (k : ℕ) → ((j : ℕ) → IsIn j parts → nesting (formula_of old j) ≤ k) → nesting (formula_of new r) ≤ k

-- the lines in the cells of the worlds; none where a cell has none
abbrev pub ArePartsOf : List (Option ℕ) → List ℕ → Option (List ℕ) → Type 0
ArePartsOf row worlds None = (y : ℕ) × IsIn y worlds × (in_row row y ≡ None)
ArePartsOf row worlds (Some js) = map (in_row row) worlds ≡ map Some js

-- a line that tells one of the worlds xs from all worlds ys; none where no cell tells so
abbrev pub IsLone : List (List (Option ℕ)) → List ℕ → List ℕ → List Line → List Line → Option ℕ → Type 0
IsLone table xs ys old new None = (new ≡ old) × ((x : ℕ) → IsIn x xs → (y : ℕ) × IsIn y ys × (cell table x y ≡ None))
IsLone table xs ys old new (Some j) = (Q : Kripke) (k : ℕ) → IsTable Q k old table → (x : ℕ) × IsIn x xs × Tells Q k new j x (λ y. IsIn y ys)

-- for each world to which the agent links c there is one to which it links d, with no line in their cell
abbrev pub IsAnswered : Kripke → List (List (Option ℕ)) → ℕ → ℕ → ℕ → Type 0
IsAnswered Q table a c d = (x : ℕ) → IsIn (c, x) (links_of Q a) → (y : ℕ) × IsIn (d, y) (links_of Q a) × (cell table x y ≡ None)

-- a line that tells a world to which the agent links c from all to which it links d; none where each link is answered
abbrev pub IsLoneLink : Kripke → List (List (Option ℕ)) → ℕ → ℕ → ℕ → List Line → List Line → Option ℕ → Type 0
IsLoneLink Q table a c d old new None = (new ≡ old) × IsAnswered Q table a c d
IsLoneLink Q table a c d old new (Some j) = (k : ℕ) → IsTable Q k old table → (x : ℕ) × IsIn (c, x) (links_of Q a) × Tells Q k new j x (λ y. IsIn (d, y) (links_of Q a))

-- a line that tells c from d one level up; none where each answers the links of the other
abbrev pub IsNextCell : Kripke → List (List (Option ℕ)) → List Line → List Line → ℕ → ℕ → Option ℕ → Type 0
IsNextCell Q table old new c d None = ((a : ℕ) → IsAnswered Q table a c d) × ((a : ℕ) → IsAnswered Q table a d c)
IsNextCell Q table old new c d (Some j) = (k : ℕ) → IsTable Q k old table → Tells Q (suc k) new j c (λ y. y ≡ d)

-- the last of these lines tells c from all the others
pub record IsToldFrom (Q : Kripke) (c : ℕ) (others : List ℕ) (lines : List Line) : Type 0 where
  pub proper : AreLines Q.agents Q.atoms 0 lines
  pub few : length lines ≤ 4 * (Q.worlds * Q.worlds) + 1
  pub level : (m : ℕ) × (suc m ≡ Q.worlds) × Tells Q m lines (last_line lines) c (λ y. IsIn y others)

-- the formula is that of line r, and no line is more
pub record IsCut (old : List Line) (r : ℕ) (new : List Line) : Type 0 where
  pub some_line : 0 < length new
  pub formula : formula_of new (last_line new) ≡ formula_of old r
  pub proper : (agents atoms : ℕ) → AreLines agents atoms 0 old → AreLines agents atoms 0 new
  pub few : length new ≤ length old

-- a number of the first list that is none of the second; none where each is
abbrev pub IsMissing : List ℕ → List ℕ → Option ℕ → Type 0
IsMissing xs ys None = (x : ℕ) → IsIn x xs → IsIn x ys
IsMissing xs ys (Some x) = IsIn x xs × (IsIn x ys → ⊥)

-- the last of these lines tells one of the worlds from all the others
pub record AreTold (Q : Kripke) (worlds others : List ℕ) (lines : List Line) : Type 0 where
  pub world : ℕ
  pub missing : IsMissing worlds others (Some world)
  pub told : IsToldFrom Q world others lines
