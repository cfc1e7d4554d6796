use Rattle.std.proofs.Common.{◌≡◌, drop, nat_le}
use Rattle.std.specs.List.{list_all}
use Rattle.ep_dynamic.specs.Depths.{dynamic_depth}
use Rattle.ep_dynamic.proofs.formula.+within.Given as goal

abbrev pub invariant-are_within-loop-part : goal.invariant-are_within-loop-part
invariant-are_within-loop-part l = list_all (λ f. nat_le (dynamic_depth f) l.depth) l.parts ≡ list_all (λ f. nat_le (dynamic_depth f) l.depth) (drop l.part-index l.parts)
