use Rattle.std.proofs.Common.{◌≡◌, ◌*◌, ◌++◌}
use Rattle.ep_logic.specs.Numbers.{numbers_where}
use Rattle.ep_logic.specs.Packed.{bit_in}
use Rattle.ep_logic.proofs.places.put_places.Given as goal

abbrev pub invariant-loop-k : goal.invariant-loop-k
invariant-loop-k l = l.out.items ≡ l.initial.out.items ++ numbers_where (bit_in l.words) (l.k * 64)
