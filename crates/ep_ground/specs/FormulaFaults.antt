-- Why a formula by itself has no ground form in a task.
use Rattle.std.specs.Prelude.{ℕ, nat_lt, [], ◌∷◌, Option, option_map}
use Rattle.ep_base.specs.Refusals.{first_some, when}
use Rattle.ep_tree.specs.declared.tree.FormulaTree.{FormulaTree}
use Rattle.ep_types.specs.Faults.{first_fault}
use Rattle.ep_types.specs.Places.{closed}
use Rattle.ep_types.specs.Uses.{formula_uses}
use Rattle.ep_types.specs.declared.fault.TypeFault.{TypeFault}
use Rattle.ep_types.specs.declared.fault.TypeError.{TypeError}
use Rattle.ep_types.specs.declared.fault.TypeError.TheVariants as type_error
use Rattle.ep_types.specs.declared.scope.Declared.{Declared}
use Rattle.ep_universe.specs.declared.limits.TheConstants.{MOST_GROUND_NODES}
use Rattle.ep_ground.specs.declared.formula_fault.FormulaFault.{FormulaFault}
use Rattle.ep_ground.specs.declared.formula_fault.FormulaFault.TheVariants as formula_fault
use Rattle.ep_universe.specs.Counts.{ground_count}
use Rattle.ep_universe.specs.FirstToken.{first_token}

abbrev pub of_type_error : TypeError → FormulaFault
of_type_error (type_error.At fault token) = formula_fault.Typing fault token
of_type_error type_error.OutOfMemory = formula_fault.OutOfMemory

-- the refusal of a type fault
abbrev pub typing : TypeFault × ℕ → FormulaFault
typing p = formula_fault.Typing p.0 p.1

-- the first type fault, and then whether the ground form has too many nodes
abbrev pub formula_refusal : Declared → FormulaTree → Option FormulaFault
formula_refusal d f = first_some (
    option_map typing (first_fault (formula_uses f (closed d)))
    ∷ when (nat_lt MOST_GROUND_NODES (ground_count d f)) (formula_fault.TooLarge (first_token f))
    ∷ [])
