use Rattle.std.proofs.Common.{refl, arith, get_or}
use Rattle.std.proofs.lemmas.Nat.{and_le_l}
use Rattle.ep_logic.proofs.WordLemmas.{meeting, no_meeting}
use Rattle.ep_logic.proofs.words.meet.Goals as goal

pub returns-then-a-i-ne0 : goal.returns-then-a-i-ne0
returns-then-a-i-ne0 c =
    let a = get_or c.args.a.now c.loop-i.i 0 in
    let b = get_or c.args.b.now c.loop-i.i 0 in
    (λ t. meeting c.args.a.now c.args.b.now c.loop-i.i c.if-a-i-ne0.true (omega (arith, and_le_l a b, c.type_inv.a c.loop-i.i)), λ x. refl)

pub returns : goal.returns
returns c = (λ t. absurd (cc t), λ x. absurd (no_meeting c.args.a.now c.args.b.now c.requires (λ k l. c.loop-i.invariant k (omega (arith, c.loop-i-test.false, l))) x))
