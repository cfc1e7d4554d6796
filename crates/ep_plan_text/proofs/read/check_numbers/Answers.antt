use Rattle.std.proofs.Common.{arith}
use Rattle.ep_plan_text.proofs.CallLemmas.{named_all}
use Rattle.ep_plan_text.proofs.read.check_numbers.Goals as goal

pub sum_costs-summed-requires-clause-actions : goal.sum_costs-summed-requires-clause-actions
sum_costs-summed-requires-clause-actions c = (named_all c.args.task.now c.args.tree.now.calls c.args.plan.now c.requires.named).1

pub sum_costs-summed-requires-clause-few : goal.sum_costs-summed-requires-clause-few
sum_costs-summed-requires-clause-few c = omega (arith, (named_all c.args.task.now c.args.tree.now.calls c.args.plan.now c.requires.named).0, c.requires.few)
