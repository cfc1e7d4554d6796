use Rattle.ep_audit.proofs.TextLemmas.{number_after}
use Rattle.ep_audit.proofs.lines.number_behind.Goals as goal

pub returns-in-Some : goal.returns-in-Some
returns-in-Some c = number_after c.args.line.now c.args.head.now c.in-Some.digits.now c.args.most c.number.result c.in-Some.ensures c.number.ensures
