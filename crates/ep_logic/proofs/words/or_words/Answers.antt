use Rattle.std.proofs.Common.{arith}
use Rattle.ep_logic.proofs.WordLemmas.{or_all}
use Rattle.ep_logic.proofs.words.or_words.Goals as goal

pub returns-clause-each : goal.returns-clause-each
returns-clause-each c =
    or_all c.args.a.now c.args.b.now c.loop-i.a c.requires c.loop-i.invariant.long (λ k l. c.loop-i.invariant.done k (omega (arith, c.loop-i-test.false)))
