-- Valuations of the varied atoms, and the truth of all atoms under one.
use Rattle.std.specs.Prelude.{ℕ, zero, suc, Bool, true, false, not, ◌==◌, List, [], ◌∷◌, ◌++◌, length, map, filter, position, slice_index_or}
use Rattle.std.specs.Option.{option_map_or}
use Rattle.ep_logic.specs.Numbers.{has_number, table}
use Rattle.ep_tree.specs.declared.tree.AtomTree.{AtomTree}
use Rattle.ep_types.specs.declared.scope.Declared.{Declared}
use Rattle.ep_universe.specs.Atoms.{atom_at, atoms_of}

-- the numbers of a list, each once, in the order in which they first stand there
abbrev pub distinct : List ℕ → List ℕ
distinct [] = []
distinct (x ∷ xs) = x ∷ filter (λ y. not (y == x)) (distinct xs)

-- all lists of n truth values in lexicographic order, false before true
abbrev pub valuations : ℕ → List (List Bool)
valuations zero = [] ∷ []
valuations (suc n) = map (λ v. false ∷ v) (valuations n) ++ map (λ v. true ∷ v) (valuations n)

-- what the valuation says of a varied atom, and what is said otherwise of any other
abbrev pub value_of : List ℕ → List Bool → ℕ → Bool → Bool
value_of varied valuation p otherwise = option_map_or (λ i. slice_index_or valuation i false) (position (λ q. q == p) varied) otherwise

-- the truth of each atom: a varied one has its value, a fact is true, and any other is false
abbrev pub truth_row : ℕ → List ℕ → List ℕ → List Bool → List Bool
truth_row atoms varied facts valuation = table (λ p. value_of varied valuation p (has_number facts p)) atoms

-- the same, where the facts are a row
abbrev pub filled : List ℕ → List Bool → List Bool → List Bool
filled varied facts valuation = table (λ p. value_of varied valuation p (slice_index_or facts p false)) (length facts)

abbrev pub filled_rows : List ℕ → List Bool → List (List Bool)
filled_rows varied facts = map (filled varied facts) (valuations (length varied))

-- the truth of all atoms under each valuation
abbrev pub valued_rows : ℕ → List ℕ → List ℕ → List (List Bool)
valued_rows atoms varied facts = map (truth_row atoms varied facts) (valuations (length varied))

-- the numbers of atoms as they are written
abbrev pub numbers_of : Declared → List AtomTree → List ℕ
numbers_of d atoms = map (atom_at d []) atoms

-- the varied atoms
abbrev pub varied : Declared → List AtomTree → List ℕ
varied d vary = distinct (numbers_of d vary)

-- the truth of each atom under each valuation, whether or not it meets the law
abbrev pub possible_rows : Declared → List AtomTree → List AtomTree → List (List Bool)
possible_rows d vary facts = valued_rows (length (atoms_of d)) (varied d vary) (numbers_of d facts)
