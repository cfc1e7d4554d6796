-- Why an initial state is refused.
use Rattle.std.specs.Prelude.{ℕ, ◌==◌, List, [], ◌∷◌, length, Option}
use Rattle.ep_base.specs.Refusals.{above, first_some, when}
use Rattle.ep_tree.specs.declared.tree.AtomTree.{AtomTree}
use Rattle.ep_tree.specs.declared.tree.FormulaTree.{FormulaTree}
use Rattle.ep_tree.specs.declared.tree.WorldTree.{WorldTree}
use Rattle.ep_types.specs.declared.scope.Declared.{Declared}
use Rattle.ep_logic.specs.declared.limits.TheConstants.{MOST_INITIAL_WORLDS}
use Rattle.ep_initial.specs.declared.limits.TheConstants.{MOST_VARIED}
use Rattle.ep_initial.specs.declared.fault.InitialError.{InitialError}
use Rattle.ep_initial.specs.declared.fault.InitialError.TheVariants.{TooManyVaried, TooManyWorlds, NoDesignated}
use Rattle.ep_initial.specs.Lawful.{worlds_where, lawful_worlds}
use Rattle.ep_initial.specs.Valuations.{varied}

-- the first fault by the numbers of varied atoms, of worlds and of designated worlds
abbrev pub fault_by : ℕ → ℕ → ℕ → Option InitialError
fault_by varied worlds designated =
    first_some (above MOST_VARIED TooManyVaried varied ∷ above MOST_INITIAL_WORLDS TooManyWorlds worlds ∷ when (designated == 0) NoDesignated ∷ [])

abbrev pub lawful_fault : Declared → List AtomTree → List AtomTree → FormulaTree → FormulaTree → Option InitialError
lawful_fault d vary facts law designated =
    fault_by (length (varied d vary)) (length (lawful_worlds d vary facts law)) (length (worlds_where d designated (lawful_worlds d vary facts law)))

-- worlds of an explicit initial state
abbrev pub explicit_fault : List WorldTree → Option InitialError
explicit_fault worlds = above MOST_INITIAL_WORLDS TooManyWorlds (length worlds)
