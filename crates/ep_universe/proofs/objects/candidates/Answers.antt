use Rattle.std.proofs.Common.{take, subst, sym}
use Rattle.ep_binding.specs.Laminar.{IsLaminar}
use Rattle.ep_universe.proofs.ForestLemmas.{candidates_laminar}
use Rattle.ep_universe.proofs.objects.candidates.Goals as goal

pub returns-clause-laminar : goal.returns-clause-laminar
returns-clause-laminar c =
    subst IsLaminar (sym c.loop-param.invariant)
    (candidates_laminar c.args.typed.now c.known.ensures.typed (take c.loop-param.param-index c.args.params.now))
