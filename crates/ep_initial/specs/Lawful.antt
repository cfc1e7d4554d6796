-- The initial state of the lawful form. This project's own.
use Rattle.std.specs.Prelude.{ℕ, Bool, List, [], length, filter, slice_index_or}
use Rattle.ep_theory.specs.Kripke.{Kripke}
use Rattle.ep_logic.specs.Numbers.{numbers_where}
use Rattle.ep_tree.specs.declared.tree.AtomTree.{AtomTree}
use Rattle.ep_tree.specs.declared.tree.FormulaTree.{FormulaTree}
use Rattle.ep_tree.specs.declared.tree.SeesTree.{SeesTree}
use Rattle.ep_types.specs.declared.scope.Declared.{Declared}
use Rattle.ep_universe.specs.Atoms.{atoms_of}
use Rattle.ep_universe.specs.Objects.{agents_of}
use Rattle.ep_initial.specs.Seeing.{alike, seen}
use Rattle.ep_initial.specs.Meeting.{meets, state_where}
use Rattle.ep_initial.specs.Valuations.{possible_rows}

-- the truth lists of the worlds: the valuations that meet the law, in their order
abbrev pub lawful_worlds : Declared → List AtomTree → List AtomTree → FormulaTree → List (List Bool)
lawful_worlds d vary facts law = filter (meets d law) (possible_rows d vary facts)

-- the worlds where the formula holds
abbrev pub worlds_where : Declared → FormulaTree → List (List Bool) → List ℕ
worlds_where d designated rows = numbers_where (λ w. meets d designated (slice_index_or rows w [])) (length rows)

-- the state of these worlds, where an agent links the worlds that agree on all that it sees
abbrev pub lawful_from : Declared → List SeesTree → FormulaTree → List (List Bool) → Kripke
lawful_from d sees designated rows =
    state_where (length (agents_of d)) (length (atoms_of d)) rows (λ a. alike rows (seen d sees a)) (worlds_where d designated rows)

abbrev pub lawful_state : Declared → List AtomTree → List AtomTree → FormulaTree → List SeesTree → FormulaTree → Kripke
lawful_state d vary facts law sees designated = lawful_from d sees designated (lawful_worlds d vary facts law)
