use Rattle.std.proofs.Common.{inr, sym, ◌∙◌, subst, arith}
use Rattle.ep_search.specs.Sound.{IsBest}
use Rattle.ep_search.proofs.ManyLemmas.{PlanTo-open}
use Rattle.ep_search.proofs.TriedLemmas.{plan_within, plan_leads, wide_plan, wide_by, found_by}
use Rattle.ep_search.proofs.child.stop_wide.Goals as goal

pub returns-in-Some : goal.returns-in-Some
returns-in-Some c =
    let l = c.requires.leads in
    let k = c.requires.keeps in
    found_by _ _ _ _ _ (subst (IsBest c.args.problem.now c.args.setting.now.bounds c.args.p.now.least) (sym c.take.ensures.value ∙ c.in-Some.is) k.best)
    (inr (wide_by _ _ _ k.sound c.args.step l.entry c.args.canon.now l.at l.holds.0 l.holds.1 c.requires.canonical c.requires.unmet c.requires.wide))

pub returns-in_ok-plan-in-None : goal.returns-in_ok-plan-in-None
returns-in_ok-plan-in-None c =
    let l = c.requires.leads in
    let s = c.requires.keeps.sound in
    let le = plan_within _ _ _ s c.args.step _ c.in_ok-plan-in-None.ensures l.entry l.at l.holds.0.step in
    let to = plan_leads _ _ _ s c.args.step _ c.in_ok-plan-in-None.ensures l.entry c.args.canon.now l.at l.holds.1 c.requires.unmet in
    record {
      within = PlanTo-open _ _ _ _ (omega (arith, le, l.holds.0.within)) to;
      wide = wide_plan _ _ c.args.canon.now _ to c.requires.canonical c.requires.wide;
    }
