use Rattle.std.proofs.Common.{◌+◌, ◌<◌, sym, subst, arith}
use Rattle.ep_truth.proofs.CommonLemmas.{IsGathering, gathering_skip, gathering_more, gathering_all}
use Rattle.ep_truth.proofs.common.sources_of.Goals as goal
use Rattle.ep_truth.proofs.common.sources_of.Goals.{then-has+in_ok-add_links, else-has}

pub loop-a-preserved : goal.loop-a-preserved
loop-a-preserved c =
    let s = c.args.s.now in
    let g = c.args.group.now in
    let inner = c.args.row.now in
    let a = c.loop-a.a in
    let below : a < s.agents = omega (arith, c.agents-a-end.ensures.value) in
    elim c.if-has.branch [
      | then-has+in_ok-add_links w ↦ subst (IsGathering s g inner (a + 1)) (sym w.sources-is)
          (gathering_more s c.worlds.ensures.valid g inner a c.loop-a.sources w.add_links.new.sources below (c.has.ensures.0 w.if-has.true) c.loop-a.invariant
          w.in_ok-add_links.ensures.long w.in_ok-add_links.ensures.counted w.in_ok-add_links.ensures.gains)
      | else-has w ↦ subst (IsGathering s g inner (a + 1)) (sym w.sources-is) (gathering_skip s c.worlds.ensures.valid g inner a c.loop-a.sources below (λ h. cc (c.has.ensures.1 h, w.if-has.false)) c.loop-a.invariant)
    ]

pub returns-clause-back : goal.returns-clause-back
returns-clause-back c =
    gathering_all c.args.s.now c.worlds.ensures.valid c.args.group.now c.args.row.now c.loop-a.a c.loop-a.sources (omega (arith, c.agents-a-end.ensures.value)) c.requires.group c.loop-a.invariant
