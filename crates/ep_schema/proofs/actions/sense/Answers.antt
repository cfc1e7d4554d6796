use Rattle.std.proofs.Common.{ap, arith}
use Rattle.ep_logic.specs.Nodes.{node_count, depth_of}
use Rattle.ep_universe.proofs.CallerLemmas.{counted, shallow}
use Rattle.ep_schema.proofs.actions.sense.Goals as goal

pub sense-requires-clause-shallow : goal.sense-requires-clause-shallow
sense-requires-clause-shallow c =
    omega (arith, ap depth_of c.in_ok-f.ensures, shallow c.args.universe.now.names c.args.what.now c.args.binding.now, c.requires.what.nested)

pub sense-requires-clause-small : goal.sense-requires-clause-small
sense-requires-clause-small c =
    omega (arith, ap node_count c.in_ok-f.ensures, counted c.args.universe.now.names c.args.what.now c.args.binding.now, c.requires.what.nodes)
