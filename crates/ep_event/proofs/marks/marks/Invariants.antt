use Rattle.std.proofs.Common.{◌≡◌, take}
use Rattle.ep_event.proofs.MarkLemmas.{square_of}
use Rattle.ep_event.proofs.marks.marks.Given as goal

abbrev pub invariant-loop-link : goal.invariant-loop-link
invariant-loop-link l = l.square ≡ record { width = l.events; rows = square_of (take l.link-index l.links) l.events l.agent }
