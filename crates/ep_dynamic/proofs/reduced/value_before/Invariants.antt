use Rattle.std.proofs.Common.{◌≡◌, ◌==◌, drop}
use Rattle.std.specs.List.{find}
use Rattle.ep_dynamic.proofs.reduced.value_before.Given as goal

abbrev pub invariant-loop-set : goal.invariant-loop-set
invariant-loop-set l = find (λ set. set.atom.n == l.p.n) l.set-items ≡ find (λ set. set.atom.n == l.p.n) (drop l.set-index l.set-items)
