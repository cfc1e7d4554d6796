use Rattle.std.proofs.Common.{◌≡◌, ◌+◌, length, arith, refl, sym, ap, ◌∙◌, subst, unwrap_or}
use Rattle.ep_theory.specs.Kripke.{Kripke}
use Rattle.ep_plan.specs.declared.runs.Outcome.TheVariants.{After}
use Rattle.ep_plan.proofs.Made.{HasMade, left_agents, left_atoms, run_through, one_more_made, refused_stop, listed_by, ok_change}
use Rattle.ep_plan.proofs.TruthfulRuns.{truthful_run}
use Rattle.ep_plan.proofs.runs.run_plan.Goals as goal

pub next-requires-clause-agents : goal.next-requires-clause-agents
next-requires-clause-agents g c =
    ap (λ (S : Kripke). S.agents) c.reached-state.ensures.value
    ∙ left_agents c.args.problem.now c.reached-state.ensures.valid c.args.plan.now c.args.size c.loop-before.before (unwrap_or c.loop-before.made c.args.problem.now.initial) c.loop-before.invariant.run

pub next-requires-clause-atoms : goal.next-requires-clause-atoms
next-requires-clause-atoms g c =
    ap (λ (S : Kripke). S.atoms) c.reached-state.ensures.value
    ∙ left_atoms c.args.problem.now c.reached-state.ensures.valid c.args.plan.now c.args.size c.loop-before.before (unwrap_or c.loop-before.made c.args.problem.now.initial) c.loop-before.invariant.run

pub returns-in-Err-clause-run : goal.returns-in-Err-clause-run
returns-in-Err-clause-run g c =
    let n = c.loop-before.before in
    let run : HasMade c.args.problem.now c.args.plan.now c.args.size n c.reached-state.result.now =
    subst (HasMade c.args.problem.now c.args.plan.now c.args.size n) (sym c.reached-state.ensures.value) c.loop-before.invariant.run in
    ok_change c.stopped.result
    (λ o is. refused_stop c.args.problem.now c.reached-state.ensures.valid c.args.plan.now c.args.size n c.reached-state.result.now run
    _ c.in-Err.ensures.refusal.0
    (listed_by c.args.plan.now c.as_slice-place-items.result.now n _ c.as_slice-place-items.ensures (omega arith))
    c.in-Err.ensures.refusal.1 (n + 1) refl c.in-Err.error o c.in-Err.ensures.refusal.2 is)
    c.stopped.ensures.ok

pub loop-before-preserved : goal.loop-before-preserved
loop-before-preserved g c =
    let n = c.loop-before.before in
    let run : HasMade c.args.problem.now c.args.plan.now c.args.size n c.reached-state.result.now =
    subst (HasMade c.args.problem.now c.args.plan.now c.args.size n) (sym c.reached-state.ensures.value) c.loop-before.invariant.run in
    record {
      run =
          one_more_made c.args.problem.now c.reached-state.ensures.valid c.args.plan.now c.args.size n c.reached-state.result.now run
          _ c.in-Ok.ensures.product.0
          (listed_by c.args.plan.now c.as_slice-place-items.result.now n _ c.as_slice-place-items.ensures (omega arith))
          c.in-Ok.ensures.product.1 c.in-Ok.product c.in-Ok.ensures.product.2 c.in-Ok.ensures.product.3 c.in-Ok.ensures.product.4;
      ticks = omega (arith, c.next.ensures.step, c.loop-before.invariant.ticks);
    }

pub returns-in_ok-copy-in-None-clause-run : goal.returns-in_ok-copy-in-None-clause-run
returns-in_ok-copy-in-None-clause-run g c =
    let T = c.args.problem.now in
    let S = c.in_ok-copy-in-None.field-0 in
    let is : unwrap_or c.loop-before.made T.initial ≡ S =
    ap (λ m. unwrap_or m T.initial) c.in-None.is ∙ sym (c.in_ok-copy-in-None.ensures ∙ c.initial.ensures.value) in
    run_through T c.initial.ensures.valid c.args.plan.now c.args.size c.loop-before.before S
    (subst (HasMade T c.args.plan.now c.args.size c.loop-before.before) is c.loop-before.invariant.run)
    (omega (arith, ap length c.as_slice-place-items.ensures))

pub returns-in-Err-clause-truthful : goal.returns-in-Err-clause-truthful
returns-in-Err-clause-truthful g c = λ e.
    ok_change c.stopped.result (λ o run. truthful_run c.args.problem.now c.known.ensures.valid c.args.plan.now c.args.size o run e)
    (returns-in-Err-clause-run g c)

pub returns-in_ok-copy-in-None-clause-truthful : goal.returns-in_ok-copy-in-None-clause-truthful
returns-in_ok-copy-in-None-clause-truthful g c = λ e.
    truthful_run c.args.problem.now c.known.ensures.valid c.args.plan.now c.args.size (After c.in_ok-copy-in-None.field-0)
    (returns-in_ok-copy-in-None-clause-run g c) e

pub returns-in-Some-clause-truthful : goal.returns-in-Some-clause-truthful
returns-in-Some-clause-truthful g c = λ e.
    let T = c.args.problem.now in
    let n = c.loop-before.before in
    truthful_run T c.known.ensures.valid c.args.plan.now c.args.size (After c.in-Some.state)
    (run_through T c.known.ensures.valid c.args.plan.now c.args.size n c.in-Some.state
    (subst (HasMade T c.args.plan.now c.args.size n) (ap (λ m. unwrap_or m T.initial) c.in-Some.is) c.loop-before.invariant.run)
    (omega (arith, ap length c.as_slice-place-items.ensures))) e
