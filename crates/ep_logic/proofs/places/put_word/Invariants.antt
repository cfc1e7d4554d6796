use Rattle.std.proofs.Common.{◌≡◌, ◌++◌, w64}
use Rattle.std.specs.Int.{trailing_zeros}
use Rattle.ep_logic.specs.Packed.{places_below}
use Rattle.ep_logic.proofs.PlaceLemmas.{Agrees}
use Rattle.ep_logic.proofs.places.put_word.Given as goal

-- the places below the lowest one that is left are put
abbrev pub invariant-loop-rest : goal.invariant-loop-rest
invariant-loop-rest l = record {
  put : l.out.items ≡ l.initial.out.items ++ places_below l.from l.word (trailing_zeros w64 l.rest);
  agrees : Agrees l.word l.rest;
}

abbrev pub decreases-loop-rest : goal.decreases-loop-rest
decreases-loop-rest l = l.rest
