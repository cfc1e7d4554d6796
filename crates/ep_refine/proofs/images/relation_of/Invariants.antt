use Rattle.std.proofs.Common.{◌≡◌, length, map, take, slice_index}
use Rattle.ep_theory.specs.Kripke.{links_of, successors}
use Rattle.ep_logic.specs.Rows.{value_at}
use Rattle.ep_refine.specs.Choices.{kept_numbers}
use Rattle.ep_refine.proofs.images.relation_of.Given as goal

abbrev pub invariant-loop-i : goal.invariant-loop-i
invariant-loop-i l = record {
  worlds : l.naming.worlds ≡ length l.chosen;
  rows : l.naming.rows ≡ map (λ w. kept_numbers (value_at l.keep) (slice_index l.numbers) (successors (links_of l.s l.a.n) w)) (take l.i l.chosen);
}
