use Rattle.std.proofs.Common.{◌≡◌, ◌++◌, map, take}
use Rattle.std.specs.List.{flat_map}
use Rattle.ep_trial.specs.TrialText as spec
use Rattle.ep_base.specs.Texts.{line}
use Rattle.ep_trial.proofs.trial.push_sees_lines.Given as goal

abbrev pub invariant-loop-child : goal.invariant-loop-child
invariant-loop-child l = l.text ≡ l.fn.text ++ flat_map line (map (spec.sees_line l.children) (take l.child-index l.children))
