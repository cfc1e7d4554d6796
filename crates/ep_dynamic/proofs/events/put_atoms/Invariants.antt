use Rattle.std.proofs.Common.{◌≡◌, ◌++◌, map, take}
use Rattle.ep_dynamic.proofs.events.put_atoms.Given as goal

abbrev pub invariant-loop-set : goal.invariant-loop-set
invariant-loop-set l = l.atoms ≡ l.initial.atoms ++ map (λ set. set.atom.n) (take l.set-index l.sets)
