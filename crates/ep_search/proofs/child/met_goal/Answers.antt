use Rattle.std.proofs.Common.{◌≡◌, ◌+◌, ◌≤◌, inl, length, Some, sym, ap, ◌∙◌, subst, arith}
use Rattle.std.specs.List.{AllByRecursion}
use Rattle.ep_search.proofs.TollLemmas.{IsTaskAction}
use Rattle.ep_theory.specs.Plans.{weight}
use Rattle.ep_search.specs.declared.progress.Progress.{Progress}
use Rattle.ep_search.specs.Progresses.{Tried}
use Rattle.ep_search.proofs.TriedLemmas.{Trial, with_best, tried_goal, tried_same, plan_within, plan_reaches, plan_known}
use Rattle.ep_search.specs.Sound.{late}
use Rattle.ep_search.specs.Tolls.{toll_of}
use Rattle.ep_search.proofs.child.met_goal.Goals as goal
use Rattle.ep_search.proofs.child.met_goal.Goals.{then-weight-p+in-Some-1, then-weight-p+in-None-1, else-weight-p}

pub returns-in-First-clause-tried : goal.returns-in-First-clause-tried
returns-in-First-clause-tried g c =
    let l = c.requires.leads in
    let le = plan_within _ _ _ c.requires.keeps.sound c.args.step _ c.in_ok-plan.ensures l.entry l.at l.holds.0.step in
    record {
      within = omega (arith, le, l.holds.0.within);
      reaches = plan_reaches _ _ _ c.requires.keeps.sound c.args.step _ c.in_ok-plan.ensures l.entry l.at l.holds.1;
      cause = inl c.in-First.is;
    }

pub weigh-weight-requires : goal.weigh-weight-requires
weigh-weight-requires g c =
    let l = c.requires.leads in
    let le = plan_within _ _ _ c.requires.keeps.sound c.args.step _ c.in_ok-plan.ensures l.entry l.at l.holds.0.step in
    let r = plan_reaches _ _ _ c.requires.keeps.sound c.args.step _ c.in_ok-plan.ensures l.entry l.at l.holds.1 in
    let known = plan_known c.args.problem.now c.args.setting.now.bounds c.requires.setting.task c.requires.setting.bounds c.in_ok-plan.plan r (omega (arith, le, l.holds.0.within)) in
    record {
      few = omega (arith, ap length c.as_slice.ensures, known.0);
      actions = subst (AllByRecursion (IsTaskAction c.args.problem.now)) (sym c.as_slice.ensures) known.1;
    }

pub returns-clause-tried : goal.returns-clause-tried
returns-clause-tried g c =
    let l = c.requires.leads in
    let T = c.args.problem.now in
    let b = c.args.setting.now.bounds in
    let p = c.args.p.now in
    let le = plan_within _ _ _ c.requires.keeps.sound c.args.step _ c.in_ok-plan.ensures l.entry l.at l.holds.0.step in
    let r = plan_reaches _ _ _ c.requires.keeps.sound c.args.step _ c.in_ok-plan.ensures l.entry l.at l.holds.1 in
    let t : Trial T b p c.args.step l.entry = record { keeps = c.requires.keeps; covers = c.requires.covers; at = l.at; may = l.holds.0 } in
    let is : c.weigh-weight.result ≡ weight T b.measure c.in_ok-plan.plan = c.weigh-weight.ensures ∙ ap (weight T b.measure) c.as_slice.ensures in
    let best : c.weigh-weight.result ≤ p.least → Tried T b p (with_best p (Some c.in_ok-plan.plan) c.weigh-weight.result) c.args.step.parent.n c.args.step.action = λ less. tried_goal T b p c.args.step l.entry (Some c.in_ok-plan.plan) c.weigh-weight.result t less (omega (arith, is, le)) (sym is, omega (arith, is, le, l.holds.0.within), r) in
    elim c.if-weight-p.branch [
      | then-weight-p+in-Some-1 w ↦ subst (λ (q : Progress). Tried T b p q c.args.step.parent.n c.args.step.action) (sym w.p-is) (best (omega (arith, w.if-weight-p.true)))
      | then-weight-p+in-None-1 w ↦ subst (λ (q : Progress). Tried T b p q c.args.step.parent.n c.args.step.action) (sym w.p-is) (best (omega (arith, w.if-weight-p.true)))
      | else-weight-p w ↦
          let near : p.least ≤ l.entry.weight + toll_of T b.measure c.args.step.action = omega (arith, w.if-weight-p.false, is, le, l.holds.0.step.toll) in
          subst (λ (q : Progress). Tried T b p q c.args.step.parent.n c.args.step.action) (sym w.p-is)
          (tried_same T b p c.args.step.parent.n c.args.step.action l.entry c.requires.keeps c.requires.covers l.at (late near))
    ]
