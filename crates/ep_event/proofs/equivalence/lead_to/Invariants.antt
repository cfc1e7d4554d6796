use Rattle.std.proofs.Common.{◌≡◌, ℕ, take}
use Rattle.std.specs.List.{AllByRecursion}
use Rattle.ep_theory.specs.Kripke.{successors}
use Rattle.ep_theory.specs.Events.{event_links}
use Rattle.ep_event.proofs.equivalence.lead_to.Given as goal

abbrev pub invariant-loop-n : goal.invariant-loop-n
invariant-loop-n l = AllByRecursion (λ e. successors (event_links l.action l.a.n) e ≡ l.targets) (take l.n-index l.events)
