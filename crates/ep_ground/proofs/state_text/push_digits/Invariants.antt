use Rattle.std.proofs.Common.{◌≡◌, ◌++◌}
use Rattle.std.specs.List.{flat_map}
use Rattle.ep_theory.specs.Kripke.{atom_at}
use Rattle.ep_logic.specs.Numbers.{table}
use Rattle.ep_ground.specs.StateText as spec
use Rattle.ep_ground.proofs.state_text.push_digits.Given as goal

abbrev pub invariant-loop-atom : goal.invariant-loop-atom
invariant-loop-atom l = l.text ≡ l.fn.text ++ flat_map spec.digit (table (atom_at l.state l.world.n) l.atom)
