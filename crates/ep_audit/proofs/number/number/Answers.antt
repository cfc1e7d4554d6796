use Rattle.std.proofs.Common.{rules, ◌^◌, ◌<◌, sym, subst, ◌∙◌, arith}
use Rattle.std.specs.Str.{IsUtf8}
use Rattle.std.proofs.lemmas.Str.{IsUtf8-from_ascii}
use Rattle.std.proofs.lemmas.Fmt.{IsAscii-decimal, parse-decimal}
use Rattle.ep_audit.proofs.NumberLemmas.{number_is_plain}
use Rattle.ep_audit.proofs.number.number.Goals as goal

pub returns-in_default : goal.returns-in_default
returns-in_default c = λ n high e.
    c.in_default.ensures.cases.0 (subst IsUtf8 (sym e) (IsUtf8-from_ascii _ (IsAscii-decimal n (omega (arith, high, c.ranges.most.fits)))))

pub returns-in_default-parse : goal.returns-in_default-parse
returns-in_default-parse c = λ n high e.
    let small : n < 2 ^ 32 = omega (arith, high, c.ranges.most.fits) in
    c.in_default-parse.not-Ok n (parse-decimal 32 n c.in-Ok.word.now c.parse.result small (omega (arith, small)) (c.in-Ok.ensures.cases.0 ∙ e) c.parse.ensures.value.0)

pub returns-else-is_plain : goal.returns-else-is_plain
returns-else-is_plain c = λ n high e.
    let small : n < 2 ^ 32 = omega (arith, high, c.ranges.most.fits) in
    let parsed = parse-decimal 32 n c.in-Ok.word.now c.parse.result small (omega (arith, small)) (c.in-Ok.ensures.cases.0 ∙ e) c.parse.ensures.value.0 in
    let plain = number_is_plain c.args.text.now n small e in
    search (rules, parsed, plain, high)
