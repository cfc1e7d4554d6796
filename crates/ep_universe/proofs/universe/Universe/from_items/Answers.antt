use Rattle.std.proofs.Common.{refl}
use Rattle.ep_universe.proofs.universe.Universe.from_items.Goals as goal

pub invariant_of-result : goal.invariant_of-result
invariant_of-result c = (record { declared = refl; typed = c.requires.typed; read = c.requires.read; few = c.requires.few }, c.requires.items)
