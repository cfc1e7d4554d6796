use Rattle.std.proofs.Common.{◌≡◌, ◌++◌, ◌∷◌, map, take}
use Rattle.ep_initial.proofs.valuations.push_with_first.Given as goal

abbrev pub invariant-loop-rest : goal.invariant-loop-rest
invariant-loop-rest l = l.all ≡ l.initial.all ++ map (λ v. l.value ∷ v) (take l.rest-index l.rests)
