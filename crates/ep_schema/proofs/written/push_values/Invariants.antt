use Rattle.std.proofs.Common.{◌≡◌, ◌++◌, map, take}
use Rattle.ep_schema.specs.Written.{written, values_of}
use Rattle.ep_schema.proofs.written.push_values.Given as goal

abbrev pub invariant-loop-set : goal.invariant-loop-set
invariant-loop-set l = l.formulas ≡ l.initial.formulas ++ map (written l.times) (values_of (take l.set-index l.sets))
