-- What typing says of the formulas of the lawful form.
use Rattle.std.specs.Prelude.{◌≡◌, List, Option, None}
use Rattle.ep_tree.specs.declared.tree.AtomTree.{AtomTree}
use Rattle.ep_tree.specs.declared.tree.FormulaTree.{FormulaTree}
use Rattle.ep_tree.specs.declared.tree.InitTree.TheVariants.{Lawful}
use Rattle.ep_tree.specs.declared.tree.SeesTree.{SeesTree}
use Rattle.ep_tree.specs.declared.tree.TaskTree.{TaskTree}
use Rattle.ep_types.specs.Faults.{first_fault}
use Rattle.ep_types.specs.Places.{objective}
use Rattle.ep_types.specs.Tasks.{HasNoFault, declarations}
use Rattle.ep_types.specs.Uses.{formula_uses}
use Rattle.ep_types.specs.declared.scope.Declared.{Declared}
use Rattle.ep_universe.specs.Sizes.{IsBuildable}
use Rattle.ep_initial.specs.Meeting.{IsGroundable}

-- a formula without a type fault where no knowledge is allowed, whose agents and atoms are the task's
pub record IsTyped (d : Declared) (f : FormulaTree) : Type 0 where
  pub no_fault : first_fault (formula_uses f (objective d)) ≡ None
  pub groundable : IsBuildable d f → IsGroundable d f

-- the law and the formula of the designated worlds of a task without a fault
abbrev pub FormsAreTyped : Type 0
FormsAreTyped = (t : TaskTree) (vary : List AtomTree) (facts : Option (List AtomTree)) (law : FormulaTree) (sees : List SeesTree) (designated : FormulaTree) →
    HasNoFault t → t.init ≡ Lawful vary facts law sees designated → IsTyped (declarations t) law × IsTyped (declarations t) designated
