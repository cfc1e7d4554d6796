use Rattle.std.proofs.Common.{◌≡◌, map, get_or, take}
use Rattle.ep_kripke.proofs.interning.named_places.Given as goal

abbrev pub invariant-loop-name : goal.invariant-loop-name
invariant-loop-name l = l.all.items ≡ map (λ i. get_or l.places i 0) (take l.name-index l.names)
