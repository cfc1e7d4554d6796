-- What an agent sees, and which worlds it cannot tell apart.
use Rattle.std.specs.Prelude.{ℕ, Bool, false, List, [], length, slice_index_or}
use Rattle.std.specs.Bool.{beq}
use Rattle.std.specs.List.{list_all}
use Rattle.ep_logic.specs.Rows.{value_at}
use Rattle.ep_logic.specs.Numbers.{numbers_where, table}
use Rattle.ep_tree.specs.declared.tree.AtomTree.{AtomTree}
use Rattle.ep_tree.specs.declared.tree.SeesTree.{SeesTree}
use Rattle.ep_types.specs.declared.scope.Declared.{Declared}
use Rattle.ep_universe.specs.Links.{last_said}
use Rattle.ep_universe.specs.Objects.{group_of}
use Rattle.ep_initial.specs.Valuations.{numbers_of}

-- the atoms of the last item with the agent in its group, or else those that came before
abbrev pub last_seen : Declared → ℕ → List AtomTree → List SeesTree → List AtomTree
last_seen d a = last_said (λ (s : SeesTree). value_at (group_of d [] s.group) a) (λ (s : SeesTree). s.atoms)

-- the atoms that an agent sees: none where no item names it
abbrev pub seen : Declared → List SeesTree → ℕ → List ℕ
seen d sees a = numbers_of d (last_seen d a [] sees)

-- whether two truth lists agree on these atoms
abbrev pub agree : List ℕ → List Bool → List Bool → Bool
agree atoms v w = list_all (λ p. beq (slice_index_or v p false) (slice_index_or w p false)) atoms

-- whether two of the worlds agree on these atoms
abbrev pub alike : List (List Bool) → List ℕ → ℕ → ℕ → Bool
alike rows atoms v w = agree atoms (slice_index_or rows v []) (slice_index_or rows w [])

-- for each world, the worlds that agree with it
abbrev pub alike_rows : List (List Bool) → List ℕ → List (List ℕ)
alike_rows rows atoms = table (λ v. numbers_where (alike rows atoms v) (length rows)) (length rows)
