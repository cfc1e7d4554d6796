use Rattle.std.proofs.Common.{length, ◌-◌}
use Rattle.ep_lex.proofs.Progress.{IsReadTo}
use Rattle.ep_lex.proofs.lex.tokens.Given as goal

abbrev pub invariant-loop-at : goal.invariant-loop-at
invariant-loop-at l = IsReadTo l.bytes l.at l.line l.count l.kept

abbrev pub decreases-loop-at : goal.decreases-loop-at
decreases-loop-at l = length l.bytes - l.at
