use Rattle.std.proofs.Common.{rules, ◌^◌, ◌<◌, arith}
use Rattle.std.proofs.lemmas.Fmt.{parse-decimal}
use Rattle.ep_words.proofs.NumberLemmas.{number_is_plain}
use Rattle.ep_words.proofs.number.read_number.Goals as goal

pub returns-in_default : goal.returns-in_default
returns-in_default c = λ n low high e.
    let small : n < 2 ^ 32 = omega (arith, high, c.ranges.most.fits) in
    c.in_default.not-Ok n (parse-decimal 32 n c.args.word.now c.parse.result small (omega (arith, small)) e c.parse.ensures.value.0)

pub returns-else-is_plain : goal.returns-else-is_plain
returns-else-is_plain c = λ n low high e.
    let small : n < 2 ^ 32 = omega (arith, high, c.ranges.most.fits) in
    let parsed = parse-decimal 32 n c.args.word.now c.parse.result small (omega (arith, small)) e c.parse.ensures.value.0 in
    let plain = number_is_plain c.args.word.now n small e in
    search (rules, parsed, plain, low, high)
