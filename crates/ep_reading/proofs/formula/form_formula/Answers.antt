-- The ground form of a formula, or its refusal.
use Rattle.std.proofs.Common.{◌≡◌, Some, ap, subst}
use Rattle.ep_tree.specs.declared.tree.FormulaTree.{FormulaTree}
use Rattle.ep_types.specs.Tasks.{declarations}
use Rattle.ep_ground.specs.Task.{GroundTask}
use Rattle.ep_base.specs.Refusals.{Reports}
use Rattle.ep_base.proofs.CallerLemmas.{or_fault}
use Rattle.ep_ground.specs.FormulaFaults.{formula_refusal}
use Rattle.ep_ground.specs.declared.formula_fault.FormulaFault.{FormulaFault}
use Rattle.ep_ground.specs.declared.formula_fault.FormulaFault.TheVariants as fault
use Rattle.ep_answer.specs.declared.answer.Answer.TheVariants.{Refused}
use Rattle.ep_answer.specs.declared.cause.Cause.TheVariants as cause
use Rattle.ep_answer.specs.declared.cause.Place.{Place}
use Rattle.ep_answer.specs.declared.cause.Subject.TheVariants.{Formula}
use Rattle.ep_reading.specs.Served.{answers}
use Rattle.ep_reading.proofs.FormulaLemmas.{formed_fault}
use Rattle.ep_reading.proofs.formula.form_formula.Goals as goal

-- an error that is not want of memory is the refusal
refused : (g : GroundTask) (tree : FormulaTree) (x e : FormulaFault) → (e ≡ fault.OutOfMemory → ⊥) → x ≡ e → Reports fault.OutOfMemory (formula_refusal (declarations g.tree) tree) x → formula_refusal (declarations g.tree) tree ≡ Some e
refused g tree x e other is h =
    or_fault fault.OutOfMemory (λ y. formula_refusal (declarations g.tree) tree ≡ Some y) e other (subst (Reports fault.OutOfMemory (formula_refusal (declarations g.tree) tree)) is h)

pub returns-in-Ok : goal.returns-in-Ok
returns-in-Ok c = record { sound = c.in-Ok.ensures.allowed; whole = c.in-Ok.ensures.form; fits = c.in-Ok.ensures.fits }

pub returns-in-Err-Typing : goal.returns-in-Err-Typing
returns-in-Err-Typing c =
    formed_fault c.args.task.now c.args.found.now c.args.tree.now (fault.Typing c.in-Err-Typing.fault c.in-Err-Typing.token) _ (refused c.args.task.now c.args.tree.now _ (fault.Typing c.in-Err-Typing.fault c.in-Err-Typing.token) (λ x. cc) c.in-Err-Typing.field-0-is c.in-Err-Typing.ensures.refused)
    (ap (λ (p : Place). answers (Refused Formula (cause.Mistyped c.in-Err-Typing.fault p))) c.place.ensures)

pub returns-in-Err-TooLarge : goal.returns-in-Err-TooLarge
returns-in-Err-TooLarge c =
    formed_fault c.args.task.now c.args.found.now c.args.tree.now (fault.TooLarge c.in-Err-TooLarge.token) _ (refused c.args.task.now c.args.tree.now _ (fault.TooLarge c.in-Err-TooLarge.token) (λ x. cc) c.in-Err-TooLarge.field-0-is c.in-Err-TooLarge.ensures.refused)
    (ap (λ (p : Place). answers (Refused Formula (cause.TooLarge p))) c.place-in-Err-TooLarge.ensures)
