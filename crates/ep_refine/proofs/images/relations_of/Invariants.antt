use Rattle.std.proofs.Common.{◌≡◌, map, take, slice_index}
use Rattle.ep_theory.specs.Kripke.{successors}
use Rattle.ep_logic.specs.Rows.{value_at}
use Rattle.ep_refine.specs.Choices.{kept_numbers}
use Rattle.ep_refine.proofs.images.relations_of.Given as goal

abbrev pub invariant-loop-a : goal.invariant-loop-a
invariant-loop-a l = l.relations ≡ map (λ pairs. map (λ w. kept_numbers (value_at l.keep) (slice_index l.numbers) (successors pairs w)) l.chosen) (take l.a l.s.links)
