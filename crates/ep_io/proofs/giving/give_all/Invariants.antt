use Rattle.std.proofs.Common.{length, ℕ, List, ◌≡◌, ◌++◌}
use Rattle.std.specs.Io.KnownBytes.{Appends}
use Rattle.ep_io.proofs.giving.give_all.Given as goal

-- what was written and what is left make up the bytes
abbrev pub invariant-loop-rest : goal.invariant-loop-rest
invariant-loop-rest g l =
    ((written : List ℕ) × Appends (g.W.Write.contents l.initial.writer) (g.W.Write.contents l.writer) written × (l.bytes ≡ written ++ l.rest))
    × (l.tally ≡ l.initial.tally)

abbrev pub decreases-loop-rest : goal.decreases-loop-rest
decreases-loop-rest g l = length l.rest
