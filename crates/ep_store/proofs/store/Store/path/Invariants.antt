use Rattle.ep_store.proofs.PathLemmas.{IsPart, weight_at}
use Rattle.ep_store.proofs.store.Store.path.Given as goal

abbrev pub invariant-loop-step : goal.invariant-loop-step
invariant-loop-step l = IsPart l.self.entries l.fn.id.n l.at.n l.path.items

abbrev pub decreases-loop-step : goal.decreases-loop-step
decreases-loop-step l = weight_at l.self.entries l.at.n
