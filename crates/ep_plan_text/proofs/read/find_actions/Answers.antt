use Rattle.std.proofs.Common.{◌≡◌, ◌≢◌, ◌+◌, take, All, Some, refl, sym, ap, ◌∙◌, subst, arith, inr}
use Rattle.std.proofs.lemmas.List.{take_all}
use Rattle.ep_plan_text.specs.Calls.{name_of, NamesAction, NamesNone, NameActions}
use Rattle.ep_plan_text.proofs.CallLemmas.{named_more, first_unknown, one_of}
use Rattle.ep_plan_text.proofs.read.find_actions.Goals as goal

pub returns-in_default-clause-unknown : goal.returns-in_default-clause-unknown
returns-in_default-clause-unknown c =
    let g = c.args.task.now in
    let call = c.call-item.result in
    let name : c.as_slice.result.now ≡ name_of call = c.as_slice.ensures.value ∙ c.in_ok-name.ensures in
    let none : NamesNone g call = subst (λ z. All (λ known. known ≢ z) g.actions) name c.in_default.ensures.none in
    inr (
      c.line.result,
      refl,
      record {
        call = call;
        first = first_unknown g c.args.calls.now c.loop-call.plan c.loop-call.call-index call c.loop-call-test.true c.call-item.is c.loop-call.invariant.named none;
        line_is = c.line.ensures;
      },
    )

pub loop-call-preserved : goal.loop-call-preserved
loop-call-preserved c =
    let g = c.args.task.now in
    let call = c.call-item.result in
    let name : c.as_slice.result.now ≡ name_of call = c.as_slice.ensures.value ∙ c.in_ok-name.ensures in
    let here : NamesAction g call c.in-Some.action = c.in-Some.ensures.found ∙ ap Some name in
    record {
      named = subst (λ z. NameActions g (take (c.loop-call.call-index + 1) c.args.calls.now) z) (sym c.in_ok-push.ensures.ok)
          (named_more g c.args.calls.now c.loop-call.plan c.loop-call.call-index call c.in-Some.action c.loop-call-test.true c.call-item.is c.loop-call.invariant.named here);
      apart = λ _. c.in-Some.ensures.apart;
    }

pub returns-clause-only : goal.returns-clause-only
returns-clause-only c =
    let g = c.args.task.now in
    let all : take c.loop-call.call-index c.args.calls.now ≡ c.args.calls.now = take_all c.loop-call.call-index c.args.calls.now (omega arith) in
    one_of g c.args.calls.now c.loop-call.plan c.loop-call.call-index (omega arith) c.loop-call.invariant.apart (subst (λ z. NameActions g z c.loop-call.plan) all c.loop-call.invariant.named)
