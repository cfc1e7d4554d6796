use Rattle.std.proofs.Common.{ℕ, ◌-◌, sum_by}
use Rattle.ep_theory.specs.Ranks.{RanksAt}
use Rattle.ep_refine.specs.Blocks.{AreBlocks, rank_of}
use Rattle.ep_refine.specs.Groups.{IsWithin, AreDistinct}
use Rattle.ep_refine.specs.Rounds.{size_of, degree}
use Rattle.ep_refine.proofs.Potential.{Budget}
use Rattle.ep_refine.proofs.WorklistLemmas.{KeepsClasses}
use Rattle.ep_refine.proofs.worklist.refined.Given as goal

abbrev pub invariant-loop-level : goal.invariant-loop-level
invariant-loop-level g l = record {
  valid : AreBlocks l.s.worlds l.blocks;
  ranks : RanksAt l.s l._level (rank_of l.blocks);
  kept : (old : ℕ → ℕ) × RanksAt l.s (l._level - 1) old × KeepsClasses l.s.worlds old (rank_of l.blocks) l.moved.items;
  within : IsWithin l.s.worlds l.moved.items;
  distinct : AreDistinct l.moved.items;
  budget : Budget l.s.worlds (size_of l.blocks) (degree l.s) l.fn.steps l.steps (sum_by (degree l.s) l.moved.items);
}
