use Rattle.std.proofs.Common.{◌≡◌, ◌++◌, map, take}
use Rattle.std.specs.List.{flat_map}
use Rattle.ep_ground.specs.StateText as spec
use Rattle.ep_base.specs.Texts.{line}
use Rattle.ep_ground.proofs.state_text.push_atom_lines.Given as goal

abbrev pub invariant-loop-atom : goal.invariant-loop-atom
invariant-loop-atom l = l.text ≡ l.fn.text ++ flat_map line (map spec.atom_line (take l.atom-index l.atoms))
