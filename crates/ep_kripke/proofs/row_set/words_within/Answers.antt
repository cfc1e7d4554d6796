use Rattle.std.proofs.Common.{◌^◌, ◌<◌, get_or, refl, ap, ◌∙◌, arith, bit_and}
use Rattle.ep_kripke.proofs.WordLemmas.{words_within, word_within, all_words}
use Rattle.ep_kripke.proofs.row_set.words_within.Goals as goal

pub returns-then-a-i : goal.returns-then-a-i
returns-then-a-i c =
    let a = c.args.a.now in
    let i = c.loop-i.i in
    let small : get_or a i 0 < 2 ^ 64 = omega (arith, c.type_inv.a i) in
    (λ t. absurd (cc t), λ h. absurd (c.if-a-i.true (ap (bit_and (get_or a i 0)) c.word_at.ensures ∙ word_within a c.args.b.now h i small)))

pub returns : goal.returns
returns c =
    (λ t. words_within c.args.a.now c.args.b.now (all_words c.args.a.now c.args.b.now (λ k l. c.loop-i.invariant k (omega (arith, c.loop-i-test.false)))), λ t. refl)
