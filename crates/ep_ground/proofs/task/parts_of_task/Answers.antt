use Rattle.std.proofs.Common.{arith}
use Rattle.ep_ground.proofs.TaskLemmas.{as_many_actions}
use Rattle.ep_ground.proofs.task.parts_of_task.Goals as goal

pub action_table-requires : goal.action_table-requires
action_table-requires c = let u = c.args.universe.now in omega (arith, as_many_actions u.names u.tree.schemas, c.requires.actions)
