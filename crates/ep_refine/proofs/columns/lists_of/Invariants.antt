use Rattle.std.proofs.Common.{◌≡◌, map, take, slice_index}
use Rattle.ep_theory.specs.Kripke.{links_of}
use Rattle.ep_refine.specs.Columns.{ranks_of}
use Rattle.ep_refine.proofs.columns.lists_of.Given as goal

abbrev pub invariant-loop-w : goal.invariant-loop-w
invariant-loop-w l = map (λ l. l.items) l.lists.items ≡ map (ranks_of (links_of l.s l.a.n) (slice_index l.ranks)) (take l.w-index l.worlds)
