use Rattle.std.proofs.Common.{◌≡◌, ◌++◌, map}
use Rattle.ep_universe.proofs.atoms.push_atoms.Given as goal

abbrev pub invariant-loop-objects : goal.invariant-loop-objects
invariant-loop-objects l = l.atoms ≡ l.initial.atoms ++ map (λ objects. record { fluent = l.fluent; objects = objects }) l.yielded
