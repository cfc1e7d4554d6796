use Rattle.std.proofs.Common.{sym, subst, arith}
use Rattle.ep_search.specs.Conjuncts.{AreParts}
use Rattle.ep_search.specs.Made.{IsMade}
use Rattle.ep_update.specs.Updates.{AppliesNowhere}
use Rattle.ep_search.specs.Sound.{refused}
use Rattle.ep_search.proofs.AlikeLemmas.{to_Alike}
use Rattle.ep_search.proofs.GoalLemmas.{goal_at, unmet_at}
use Rattle.ep_search.proofs.LeadLemmas.{action_fits, few_worlds, goal_fits, lead_by, goal_by, refuse_by}
use Rattle.ep_search.proofs.TriedLemmas.{tried_same}
use Rattle.ep_search.proofs.expand.try_step.Goals as goal

pub make-requires : goal.make-requires
make-requires g c =
    let few = few_worlds _ c.action-action.ensures.valid _ _ c.requires.keeps.sound _ c.args.step.action _ _ _ _ c.requires.entry c.get.ensures c.state.ensures.value c.action-action.ensures.value in
    record {
      fits = action_fits _ c.action-action.ensures.valid _ _ c.requires.keeps.sound _ c.args.step.action _ _ _ _ c.requires.entry c.get.ensures c.state.ensures.value c.action-action.ensures.value c.action-action.ensures.fits;
      small = omega (arith, few, c.requires.setting.bounds.worlds);
    }

pub returns-in_default-clause-tried : goal.returns-in_default-clause-tried
returns-in_default-clause-tried g c =
    let fails : AppliesNowhere c.state.result.now c.action-action.result.now = rw c.in_default.is at c.in_ok-made.ensures.makes in
    let e = c.requires.entry in
    tried_same _ _ _ _ _ _ c.requires.keeps c.requires.covers e.at (refused (refuse_by _ c.action-action.ensures.valid _ _ c.requires.keeps.sound _ c.args.step.action _ _ _ _ c.requires.entry c.get.ensures c.state.ensures.value c.action-action.ensures.value fails))

pub count_unmet-requires-clause-fit : goal.count_unmet-requires-clause-fit
count_unmet-requires-clause-fit g c =
    let made : IsMade c.state.result.now c.action-action.result.now c.in-Some.child = rw c.in-Some.is at c.in_ok-made.ensures.makes in
    goal_fits _ c.action-action.ensures.valid _ _ c.requires.keeps.sound _ c.args.step.action _ _ _ _ c.requires.entry c.get.ensures c.state.ensures.value c.action-action.ensures.value c.in-Some.child made c.as_slice.result.now (subst (AreParts c.args.problem.now.goal) (sym c.as_slice.ensures) c.requires.setting.parts)

pub met_goal-requires-clause-leads : goal.met_goal-requires-clause-leads
met_goal-requires-clause-leads g c =
    let made : IsMade c.state.result.now c.action-action.result.now c.in-Some.child = rw c.in-Some.is at c.in_ok-made.ensures.makes in
    let parts = subst (AreParts c.args.problem.now.goal) (sym c.as_slice.ensures) c.requires.setting.parts in
    goal_by _ c.action-action.ensures.valid _ _ c.requires.keeps.sound _ c.args.step.action _ _ _ _ c.requires.entry c.get.ensures c.state.ensures.value c.action-action.ensures.value c.in-Some.child made (goal_at c.in-Some.child c.args.problem.now.goal c.as_slice.result.now c.in_ok-unmet.unmet parts c.in_ok-unmet.ensures.none c.if-unmet-eq0.true)

pub stop_wide-requires-clause-unmet : goal.stop_wide-requires-clause-unmet
stop_wide-requires-clause-unmet g c =
    let made : IsMade c.state.result.now c.action-action.result.now c.in-Some.child = rw c.in-Some.is at c.in_ok-made.ensures.makes in
    let parts = subst (AreParts c.args.problem.now.goal) (sym c.as_slice.ensures) c.requires.setting.parts in
    unmet_at c.in-Some.child c.in_ok-canon.canon c.args.problem.now.goal c.as_slice.result.now c.in_ok-unmet.unmet parts c.in_ok-unmet.ensures.none c.if-unmet-eq0.false
    (to_Alike c.in-Some.child c.in_ok-canon.canon made.valid c.in_ok-canon.ensures.valid c.in_ok-canon.ensures.contraction.bisimilar)

pub stop_wide-requires-clause-leads : goal.stop_wide-requires-clause-leads
stop_wide-requires-clause-leads g c =
    let made : IsMade c.state.result.now c.action-action.result.now c.in-Some.child = rw c.in-Some.is at c.in_ok-made.ensures.makes in
    lead_by _ c.action-action.ensures.valid _ _ c.requires.keeps.sound _ c.args.step.action _ _ _ _ c.requires.entry c.get.ensures c.state.ensures.value c.action-action.ensures.value c.in-Some.child c.in_ok-canon.canon made
    (to_Alike c.in-Some.child c.in_ok-canon.canon made.valid c.in_ok-canon.ensures.valid c.in_ok-canon.ensures.contraction.bisimilar)

pub store_child-requires-clause-unmet : goal.store_child-requires-clause-unmet
store_child-requires-clause-unmet g c =
    let made : IsMade c.state.result.now c.action-action.result.now c.in-Some.child = rw c.in-Some.is at c.in_ok-made.ensures.makes in
    let parts = subst (AreParts c.args.problem.now.goal) (sym c.as_slice.ensures) c.requires.setting.parts in
    unmet_at c.in-Some.child c.in_ok-canon.canon c.args.problem.now.goal c.as_slice.result.now c.in_ok-unmet.unmet parts c.in_ok-unmet.ensures.none c.if-unmet-eq0.false
    (to_Alike c.in-Some.child c.in_ok-canon.canon made.valid c.in_ok-canon.ensures.valid c.in_ok-canon.ensures.contraction.bisimilar)

pub store_child-requires-clause-leads : goal.store_child-requires-clause-leads
store_child-requires-clause-leads g c =
    let made : IsMade c.state.result.now c.action-action.result.now c.in-Some.child = rw c.in-Some.is at c.in_ok-made.ensures.makes in
    lead_by _ c.action-action.ensures.valid _ _ c.requires.keeps.sound _ c.args.step.action _ _ _ _ c.requires.entry c.get.ensures c.state.ensures.value c.action-action.ensures.value c.in-Some.child c.in_ok-canon.canon made
    (to_Alike c.in-Some.child c.in_ok-canon.canon made.valid c.in_ok-canon.ensures.valid c.in_ok-canon.ensures.contraction.bisimilar)
