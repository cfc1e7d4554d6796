use Rattle.ep_audit.proofs.MapLemmas.{Met}
use Rattle.ep_audit.proofs.map.answers.Given as goal

abbrev pub invariant-loop-w : goal.invariant-loop-w
invariant-loop-w l = Met l.map l.from l.to l.count l.w-index l.met
