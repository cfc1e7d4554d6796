use Rattle.std.proofs.Common.{◌≡◌, ◌++◌, true, map}
use Rattle.ep_logic.specs.Numbers.{numbers_where}
use Rattle.ep_dynamic.proofs.events.put_pairs.Given as goal

abbrev pub invariant-loop-f : goal.invariant-loop-f
invariant-loop-f l = l.pairs ≡ l.initial.pairs ++ map (λ f. (l.e, f)) (numbers_where (λ f. true) l.f)
