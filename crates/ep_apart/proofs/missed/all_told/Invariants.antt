use Rattle.std.proofs.Common.{[], slice_index_or}
use Rattle.ep_apart.specs.Missed.{MarksLines}
use Rattle.ep_apart.proofs.MissedLemmas.{EachItem}
use Rattle.ep_apart.proofs.missed.all_told.Given as goal

abbrev pub invariant-loop-x : goal.invariant-loop-x
invariant-loop-x l = EachItem [] (λ i m. MarksLines (slice_index_or l.table i []) l.worlds m) l.told l.x
