use Rattle.std.proofs.Common.{◌≡◌, ◌==◌, drop}
use Rattle.std.specs.List.{find}
use Rattle.ep_dynamic.proofs.greatest.value_size_by_both.Given as goal

abbrev pub invariant-loop-set : goal.invariant-loop-set
invariant-loop-set l = find (λ set. set.atom.n == l.p) l.set-items ≡ find (λ set. set.atom.n == l.p) (drop l.set-index l.set-items)
