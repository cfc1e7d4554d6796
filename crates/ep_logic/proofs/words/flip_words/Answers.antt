use Rattle.std.proofs.Common.{◌==◌, ◌%◌, ◌/◌, get_or, ap, ◌∙◌, arith}
use Rattle.std.specs.Int.{bit_at}
use Rattle.ep_logic.proofs.WordLemmas.{flip_bit}
use Rattle.ep_logic.proofs.words.flip_words.Goals as goal

pub returns-clause-each : goal.returns-clause-each
returns-clause-each c = λ k l.
    ap (λ n. bit_at n (k % 64) == 1) (c.loop-i.invariant.done (k / 64) (omega (arith, c.loop-i-test.false, l))) ∙ flip_bit (get_or c.args.a.now (k / 64) 0) (k % 64) (c.loop-i.invariant.fits (k / 64)) (omega arith)
