use Rattle.ep_apart.specs.Simplifying.{SharedSoFar}
use Rattle.ep_apart.proofs.simplify.share_all.Given as goal

abbrev pub invariant-loop-line : goal.invariant-loop-line
invariant-loop-line l = SharedSoFar l.lines l.numbers.items l.shared l.line-index
