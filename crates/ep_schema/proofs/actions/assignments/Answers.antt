use Rattle.std.proofs.Common.{ap, ◌∙◌, map}
use Rattle.ep_event.specs.Built.{set_of as built_set}
use Rattle.ep_schema.specs.Actions.{set_of}
use Rattle.ep_universe.proofs.CallerLemmas.{more_mapped}
use Rattle.ep_schema.proofs.actions.assignments.Goals as goal

pub loop-set-preserved : goal.loop-set-preserved
loop-set-preserved c =
    ap (map built_set) c.in_ok-push.ensures.ok
    ∙ more_mapped built_set (set_of c.args.universe.now.names c.args.binding.now) c.loop-set.made c.args.sets.now c.loop-set.set-index c.set-item.result c.in_ok-assignment.field-0 c.loop-set-test.true c.set-item.is c.loop-set.invariant c.in_ok-assignment.ensures
