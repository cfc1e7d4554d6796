use Rattle.std.proofs.Common.{◌≡◌, map, take}
use Rattle.ep_initial.specs.Valuations.{filled}
use Rattle.ep_initial.proofs.rows.fill_rows.Given as goal

abbrev pub invariant-loop-valuation : goal.invariant-loop-valuation
invariant-loop-valuation l = l.rows ≡ map (filled l.varied l.facts) (take l.valuation-index l.valuation-items)
