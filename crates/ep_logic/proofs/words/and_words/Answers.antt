use Rattle.std.proofs.Common.{arith}
use Rattle.ep_logic.proofs.PackedLemmas.{and_words_bit, and_all}
use Rattle.ep_logic.proofs.words.and_words.Goals as goal

pub returns-clause-each : goal.returns-clause-each
returns-clause-each c =
    let a = c.args.a.now in
    let b = c.args.b.now in
    and_words_bit a b c.loop-i.a (and_all a b c.loop-i.a c.requires c.loop-i.invariant.long (λ k l. c.loop-i.invariant.done k (omega (arith, c.loop-i-test.false))))
