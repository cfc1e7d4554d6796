use Rattle.std.proofs.Common.{inl, refl, arith}
use Rattle.ep_search.proofs.ExpandLemmas.{going_start, going_more, going_end}
use Rattle.ep_search.proofs.KeptLemmas.{Kept-trans}
use Rattle.ep_search.proofs.expand.expand.Goals as goal

pub loop-n-init : goal.loop-n-init
loop-n-init g c = record {
  going = going_start c.args.problem.now c.args.setting.now.bounds c.args.p.now c.args.id.n c.args.weight _ c.requires.keeps c.requires.covers c.requires.entry c.requires.unmarked refl;
  steps = omega arith;
  asked = inl refl;
}

pub loop-n-preserved : goal.loop-n-preserved
loop-n-preserved g c =
    let i = c.loop-n.invariant in record {
      going = going_more c.args.problem.now c.args.setting.now.bounds c.args.p.now c.loop-n.p c.try_action.new.p c.args.id.n c.args.weight c.loop-n.n (record { n = c.loop-n.n }) i.going refl (rw c.in_default.is at c.in_ok-tried.ensures.tried);
      steps = omega (arith, i.steps, c.try_action.ensures.step);
      asked = Kept-trans _ _ _ i.asked c.try_action.ensures.asked;
    }

pub returns-clause-expanded : goal.returns-clause-expanded
returns-clause-expanded g c = going_end c.args.problem.now c.args.setting.now.bounds c.args.p.now _ c.args.id.n c.args.weight _ c.loop-n.invariant.going (omega (arith, c.actions-n-end.ensures.value, c.loop-n-test.false, c.loop-n.auto.n-end))
