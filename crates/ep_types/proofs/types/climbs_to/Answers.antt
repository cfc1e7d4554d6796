use Rattle.std.proofs.Common.{◌+◌, ◌-◌, ◌≤◌, sym, ap, ◌∙◌, arith}
use Rattle.ep_types.specs.Names.{is_below}
use Rattle.ep_types.specs.Links.{typings, name_at, depth_at}
use Rattle.ep_types.proofs.TypeOrder.{below_ups, below_end}
use Rattle.ep_types.proofs.types.climbs_to.Goals as goal

pub loop-at-preserved : goal.loop-at-preserved
loop-at-preserved c =
    let rows = c.args.rows.now in
    let at = c.loop-at.at in
    let next = c.find_next-at.result in
    let a = c.args.above in
    let above = c.find_next-at.ensures.above in
    let within = c.find_next-at.ensures.within in
    let depth = c.depth_of-depth.ensures.value in
    let shallower = above.shallower in
    let room : depth_at rows a + (depth_at rows at - depth_at rows next) ≤ depth_at rows at = omega (arith, within, depth, shallower) in
    record {
      there = c.find_next-at.ensures.there;
      same = c.loop-at.invariant.same ∙ below_ups rows c.requires.linked a c.requires.above (depth_at rows at - depth_at rows next) at c.loop-at.invariant.there room
          ∙ ap (λ k. is_below (typings rows) (name_at rows k) (name_at rows a)) (sym above.is);
    }

pub returns : goal.returns
returns c =
    let rows = c.args.rows.now in
    let end : depth_at rows c.loop-at.at ≤ depth_at rows c.args.above = omega (arith, c.depth_of-depth.ensures.value, c.depth_of.ensures.value) in
    sym (c.loop-at.invariant.same ∙ below_end rows c.requires.linked c.args.above c.requires.above c.loop-at.at c.loop-at.invariant.there end)
