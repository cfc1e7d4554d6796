use Rattle.std.proofs.Common.{◌≡◌, [], inr, true, cond, Some, None, ap, sym, ◌∙◌, subst}
use Rattle.ep_name.specs.Names.{printed_at}
use Rattle.ep_schema.specs.declared.fault.SchemaError.TheVariants as fault
use Rattle.ep_schema.specs.Actions.{action_of, action_at, assigns_twice}
use Rattle.ep_universe.specs.Objects.{bound}
use Rattle.ep_schema.specs.Answers.{Refuses}
use Rattle.ep_schema.specs.ActionNames.{action_name}
use Rattle.ep_schema.proofs.FaultLemmas.{twice-cons}
use Rattle.ep_schema.proofs.schemas.ground_action.Goals as goal

pub returns-clause-err : goal.returns-clause-err
returns-clause-err c =
    let d = c.args.universe.now.names in
    let s = c.args.schema.now in
    let os = c.args.objects.now in
    let told = subst (Refuses (action_of d s.body c.as_slice-2.result.now)) c.in-Err-AtomTwice.field-0-is c.in-Err-AtomTwice.ensures.err in
    let twice : assigns_twice (action_at d s os) ≡ true =
    ap (λ b. assigns_twice (action_of d s.body b)) (sym (c.as_slice-2.ensures ∙ c.in_ok-binding.ensures ∙ ap (λ ps. bound ps os) c.as_slice.ensures)) ∙ told in
    let named : c.in_ok-name-in-Err-AtomTwice.name ≡ action_name d s os = c.in_ok-name-in-Err-AtomTwice.ensures ∙ ap (λ ns. printed_at s.name.text ns os) c.object_names-names.ensures.value in
    inr (twice-cons (action_name d s os) [] (action_at d s os) [] ∙ ap (λ t. cond t (Some (fault.AtomTwice (action_name d s os))) None) twice ∙ ap (λ n. Some (fault.AtomTwice n)) (sym named))
