use Rattle.std.proofs.Common.{◌≡◌, ℕ, nat_lt, Option, Some, None, option_map, Result, Ok, Err, IfErr, IsErrAnd, List, [], ◌∷◌, length, IsTrue, ap, sym, ◌∙◌, subst, arith, inl, inr, ⊎_elim}
use Rattle.std.proofs.lemmas.Option.{none-some}
use Rattle.ep_base.specs.Refusals.{Reports, first_some, when}
use Rattle.ep_logic.specs.declared.formula.Node.{Node}
use Rattle.ep_theory.specs.Fits.{fits_in}
use Rattle.ep_types.specs.Faults.{error_at, first_error, first_fault}
use Rattle.ep_types.specs.declared.fault.TypeFault.{TypeFault}
use Rattle.ep_types.specs.declared.fault.TypeError.{TypeError}
use Rattle.ep_types.specs.declared.fault.TypeError.TheVariants as type_error
use Rattle.ep_types.specs.Places.{closed}
use Rattle.ep_types.specs.Uses.{formula_uses}
use Rattle.ep_universe.specs.Atoms.{atoms_of}
use Rattle.ep_universe.specs.Counts.{ground_count}
use Rattle.ep_universe.specs.FirstToken.{first_token}
use Rattle.ep_universe.specs.Objects.{agents_of}
use Rattle.ep_universe.specs.declared.limits.TheConstants.{MOST_GROUND_NODES}
use Rattle.ep_universe.proofs.CallerLemmas.{build, formulas_fit, nothing_bound}
use Rattle.ep_ground.specs.FormulaFaults.{of_type_error, typing}
use Rattle.ep_ground.specs.declared.formula_fault.FormulaFault.{FormulaFault}
use Rattle.ep_ground.specs.declared.formula_fault.FormulaFault.TheVariants as formula_fault
use Rattle.ep_ground.proofs.formula.ground_in.Goals as goal

pub ground_form-requires : goal.ground_form-requires
ground_form-requires c =
    let d = c.args.universe.now.names in
    let f = c.args.tree.now in
    let fine = ap (λ z. first_fault (formula_uses f (closed z))) (sym c.typed.ensures.names) ∙ c.in_ok-check_formula.ensures in
    let count = c.in-Some.ensures.value in
    let small = c.in-Some.ensures.small in
    build d (closed d) f c.requires.formed c.requires.shallow fine (omega (arith, count, small))

pub returns-in_ok-ground_form-in-Some-clause-fits : goal.returns-in_ok-ground_form-in-Some-clause-fits
returns-in_ok-ground_form-in-Some-clause-fits c =
    let d = c.args.universe.now.names in
    let f = c.args.tree.now in
    let known = c.typed.ensures.known in
    let fine = ap (λ z. first_fault (formula_uses f (closed z))) (sym c.typed.ensures.names) ∙ c.in_ok-check_formula.ensures in
    subst (λ (n : Node). IsTrue (fits_in (length (agents_of d)) (length (atoms_of d)) n)) (sym c.in_ok-ground_form-in-Some.ensures)
    (formulas_fit c.args.universe.now.tree known.typed (closed d) [] known.declared (nothing_bound d) f fine)

-- a type fault, as one of the formula
mapped : (o : Option (TypeFault × ℕ)) (e : TypeError) (rest : List (Option FormulaFault)) → option_map error_at o ≡ Some e → first_some (option_map typing o ∷ rest) ≡ Some (of_type_error e)
mapped None e rest h = absurd (none-some e h)
mapped (Some p) e rest h = let same : error_at p ≡ e = cc in ap (λ x. Some (of_type_error x)) same

handed : {A : Type 0} (r : Result A FormulaFault) (e : TypeError) (o : Option (TypeFault × ℕ)) (rest : List (Option FormulaFault)) → IsErrAnd r (λ x. x ≡ of_type_error e) → Reports type_error.OutOfMemory (option_map error_at o) e →
    IfErr r (Reports formula_fault.OutOfMemory (first_some (option_map typing o ∷ rest)))
handed (Ok a) e o rest h k = tt
handed (Err x) e o rest h k = subst (Reports formula_fault.OutOfMemory (first_some (option_map typing o ∷ rest))) (sym h) (⊎_elim
    (λ (wanting : e ≡ type_error.OutOfMemory). inl (ap of_type_error wanting))
    (λ (some : option_map error_at o ≡ Some e). inr (mapped o e rest some))
    k)

pub returns-in_err-check_formula-clause-refused : goal.returns-in_err-check_formula-clause-refused
returns-in_err-check_formula-clause-refused c =
    let d = c.args.universe.now.names in
    let f = c.args.tree.now in
    let e = c.in_err-check_formula.field-0.0 in
    let told = subst (λ z. Reports type_error.OutOfMemory (first_error (formula_uses f (closed z))) e) c.typed.ensures.names c.in_err-check_formula.ensures in
    handed c.from_residual.result e (first_fault (formula_uses f (closed d))) (when (nat_lt MOST_GROUND_NODES (ground_count d f)) (formula_fault.TooLarge (first_token f)) ∷ []) c.from_residual.ensures.1 told
