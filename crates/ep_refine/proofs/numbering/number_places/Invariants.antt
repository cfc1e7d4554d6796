use Rattle.ep_refine.proofs.NumberingLemmas.{NumbersFirst}
use Rattle.ep_refine.proofs.numbering.number_places.Given as goal

abbrev pub invariant-loop-i : goal.invariant-loop-i
invariant-loop-i g l = NumbersFirst (λ x y. g.K.Ord.cmp x.key y.key) l.sorted l.numbers.items l.count l.i
