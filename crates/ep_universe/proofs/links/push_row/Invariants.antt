use Rattle.std.proofs.Common.{◌≡◌, ◌++◌, map, true}
use Rattle.ep_logic.specs.Numbers.{numbers_where}
use Rattle.ep_universe.proofs.links.push_row.Given as goal

abbrev pub invariant-loop-to : goal.invariant-loop-to
invariant-loop-to l = l.pairs ≡ l.initial.pairs ++ map (λ to. (l.from, to)) (numbers_where (λ _. true) l.to)
