use Rattle.std.proofs.Common.{arith}
use Rattle.ep_audit.specs.Certificates.{action_count}
use Rattle.ep_audit.proofs.AnswerLemmas.{pair_small}
use Rattle.ep_audit.proofs.take.take_step.Goals as goal

pub overflow_add-pair : goal.overflow_add-pair
overflow_add-pair c =
    let few = pair_small c.args.told.now.count (action_count c.args.task.now) c.args.pair c.requires.at.within c.requires.told.few c.known.ensures.small.actions in
    omega (arith, few)
