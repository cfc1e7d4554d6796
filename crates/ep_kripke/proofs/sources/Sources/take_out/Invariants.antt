use Rattle.ep_kripke.specs.Sources.{row_at}
use Rattle.ep_kripke.proofs.TakingLemmas.{IsTaking}
use Rattle.ep_kripke.proofs.sources.Sources.take_out.Given as goal

abbrev pub invariant-loop-place : goal.invariant-loop-place
invariant-loop-place l = IsTaking l.self-inside.links.items (row_at l.self l.v) l.initial.row l.initial.waiting.items l.place l.row l.waiting.items

abbrev pub decreases-loop-place : goal.decreases-loop-place
decreases-loop-place l = l.place
