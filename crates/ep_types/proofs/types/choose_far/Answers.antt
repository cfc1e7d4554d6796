use Rattle.ep_types.proofs.Above.{above_trans}
use Rattle.ep_types.proofs.types.choose_far.Goals as goal

pub returns-then-depth_of-depth : goal.returns-then-depth_of-depth
returns-then-depth_of-depth c =
    above_trans c.args.rows.now c.args.up c.far_of-far.result c.far_of-further.result c.far_of-far.ensures.above c.far_of-further.ensures.above
