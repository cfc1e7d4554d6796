-- The formulas of the lawful form of a task without a fault.
use Rattle.std.proofs.Common.{◌≡◌, [], Some, None, refl, subst}
use Rattle.ep_tree.specs.declared.tree.FormulaTree.{FormulaTree}
use Rattle.ep_tree.specs.declared.tree.InitTree.{InitTree}
use Rattle.ep_tree.specs.declared.tree.TaskTree.{TaskTree}
use Rattle.ep_types.specs.Faults.{first_fault}
use Rattle.ep_types.specs.Names.{Text, declared}
use Rattle.ep_types.specs.Places.{both, objective}
use Rattle.ep_types.specs.Tasks.{HasNoFault, declarations, given_uses, init_uses, law_uses, sees_uses}
use Rattle.ep_types.specs.Uses.{formula_uses}
use Rattle.ep_types.specs.declared.scope.Declared.{Declared}
use Rattle.ep_universe.specs.Typing.{StandsFor, Suits}
use Rattle.ep_universe.proofs.CallerLemmas.{formulas_fit, init_fine, both-none}
use Rattle.ep_initial.specs.Typing.{IsTyped, FormsAreTyped}

-- where no parameter is in force nothing is bound
nothing_bound : (d : Declared) → Suits (objective d) []
nothing_bound d = record { params = λ x kind e. none_of x kind e; others = λ x e. refl }
  where
    none_of : (x kind : Text) → declared x [] ≡ Some kind → StandsFor d [] x kind
    none_of x kind e = absurd (cc)

fine : (t : TaskTree) → HasNoFault t → (f : FormulaTree) → first_fault (formula_uses f (objective (declarations t))) ≡ None → IsTyped (declarations t) f
fine t h f e = record {
  no_fault = e;
  groundable = λ b. record { buildable = b; fits = formulas_fit t h (objective (declarations t)) [] refl (nothing_bound (declarations t)) f e };
}

pub typed : FormsAreTyped
typed t vary facts law sees designated h init =
    let d = declarations t in
    let s = objective d in
    let P : InitTree → Type 0 = λ i. first_fault (init_uses i s) ≡ None in
    let form = both-none (given_uses vary facts s) (law_uses law sees designated s) (subst P init (init_fine t h)) in
    let laws = both-none (formula_uses law s) (both (sees_uses sees s) (formula_uses designated s)) form.1 in
    let points = both-none (sees_uses sees s) (formula_uses designated s) laws.1 in
    (fine t h law laws.0, fine t h designated points.1)
