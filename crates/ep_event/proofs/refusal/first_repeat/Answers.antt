use Rattle.std.proofs.Common.{sym, ◌∙◌, arith}
use Rattle.ep_event.proofs.RepeatLemmas.{repeated_here}
use Rattle.ep_event.proofs.refusal.first_repeat.Goals as goal

pub returns-then-is_repeat : goal.returns-then-is_repeat
returns-then-is_repeat c = sym (repeated_here c.args.sets.now c.loop-i.i c.index-sets-i.result (omega arith) c.loop-i.invariant (sym c.is_repeat.ensures ∙ c.if-is_repeat.true))
