use Rattle.std.proofs.Common.{sym, ap, option_map, ◌∙◌, arith, ◌<◌, ◌≡◌, Err, length, drop, ◌+◌}
use Rattle.std.proofs.lemmas.Result.{err_from_is_err_and}
use Rattle.ep_base.specs.Refusals.{told}
use Rattle.ep_types.specs.Faults.{error_at, first_error, first_fault}
use Rattle.ep_types.specs.Places.{scope, at, Argument}
use Rattle.ep_types.specs.Uses.{argument_uses}
use Rattle.ep_types.proofs.Arguments.{arguments_left, told_front}
use Rattle.ep_types.proofs.judge.check_arguments.Goals as goal

pub returns-in_err-check_argument : goal.returns-in_err-check_argument
returns-in_err-check_argument c =
    let i = c.loop-i.i in
    let x = c.index-args-i.result in
    let kind = c.index-kinds-i.result in
    let s = scope c.args.names.now c.args.frame.now in
    let p = err_from_is_err_and c.from_residual.result c.from_residual.ensures.1 in
    let here : i < length c.args.args.now = omega arith in
    let there : i < length c.args.kinds.now = omega (arith, c.requires) in
    let left = arguments_left c.args.args.now c.args.kinds.now i x kind s here there c.index-args-i.is c.index-kinds-i.is in
    let fault : c.check_argument.result ≡ Err c.in_err-check_argument.field-0.0 = c.in_err-check_argument.was in
    let first = told_front (at x.token (Argument x.text kind s)) (argument_uses (drop (i + 1) c.args.args.now) (drop (i + 1) c.args.kinds.now) s) c.in_err-check_argument.field-0.0
    (ap (λ k. told (first_error (at x.token (Argument x.text k s)))) (sym c.as_slice.ensures) ∙ sym c.check_argument.ensures ∙ fault) in
    rw (p.1, p.2) (sym (ap (λ o. told (option_map error_at o)) (c.loop-i.invariant ∙ ap first_fault left) ∙ first))
