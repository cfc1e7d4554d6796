-- The initial state, of either form, and its first fault.
use Rattle.std.specs.Prelude.{List, [], ◌∷◌, Option, unwrap_or}
use Rattle.ep_theory.specs.Kripke.{Kripke}
use Rattle.ep_tree.specs.declared.tree.FormulaTree.{FormulaTree}
use Rattle.ep_tree.specs.declared.tree.InitTree.{InitTree}
use Rattle.ep_tree.specs.declared.tree.InitTree.TheVariants.{Explicit, Lawful}
use Rattle.ep_types.specs.declared.scope.Declared.{Declared}
use Rattle.ep_initial.specs.Explicit.{explicit_state}
use Rattle.ep_initial.specs.Faults.{explicit_fault, lawful_fault}
use Rattle.ep_initial.specs.Lawful.{lawful_state}
use Rattle.ep_initial.specs.declared.fault.InitialError.{InitialError}

-- a lawful form without the part `facts` has no facts
abbrev pub initial_of : Declared → InitTree → Kripke
initial_of d (Explicit worlds designated links) = explicit_state d worlds designated links
initial_of d (Lawful vary facts law sees designated) = lawful_state d vary (unwrap_or facts []) law sees designated

abbrev pub init_fault : Declared → InitTree → Option InitialError
init_fault d (Explicit worlds designated links) = explicit_fault worlds
init_fault d (Lawful vary facts law sees designated) = lawful_fault d vary (unwrap_or facts []) law designated

-- the formulas that are written in it
abbrev pub init_formulas : InitTree → List FormulaTree
init_formulas (Explicit worlds designated links) = []
init_formulas (Lawful vary facts law sees designated) = law ∷ designated ∷ []
