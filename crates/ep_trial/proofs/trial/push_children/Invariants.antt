use Rattle.std.proofs.Common.{◌≡◌, ◌++◌, codes, take, slice_index}
use Rattle.std.specs.List.{flat_map}
use Rattle.ep_trial.specs.TrialText as spec
use Rattle.ep_trial.proofs.trial.push_children.Given as goal

abbrev pub invariant-loop-child : goal.invariant-loop-child
invariant-loop-child l = l.text ≡ l.fn.text ++ (codes " " ++ spec.child (slice_index l.children 0)) ++ flat_map (λ n. codes " ," ++ (codes " " ++ spec.child n)) (take l.child-index l.more)
