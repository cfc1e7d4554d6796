-- The fault of the numbers is the file's.
use Rattle.std.proofs.Common.{inr}
use Rattle.std.proofs.lemmas.Result.{err_from_is_err_and}
use Rattle.ep_lex.specs.Tokens.{line_at}
use Rattle.ep_plan_text.proofs.read.find_plan.Goals as goal

pub returns-in_err-check_numbers-clause-fault : goal.returns-in_err-check_numbers-clause-fault
returns-in_err-check_numbers-clause-fault c =
    let residual = c.from_residual-in_err-check_numbers in
    let p = err_from_is_err_and residual.result residual.ensures.1 in
    rw (p.1, p.2) (inr (c.in_err-check_numbers.ensures.fault (line_at c.args.file.now.tokens)))
