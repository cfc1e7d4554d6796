use Rattle.std.proofs.Common.{◌≡◌, map, take}
use Rattle.ep_event.proofs.marks.numbers_of.Given as goal

abbrev pub invariant-loop-id : goal.invariant-loop-id
invariant-loop-id l = l.numbers ≡ map (λ e. e.n) (take l.id-index l.ids)
