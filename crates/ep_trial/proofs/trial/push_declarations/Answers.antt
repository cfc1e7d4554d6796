use Rattle.ep_trial.proofs.TextLemmas.{declared}
use Rattle.ep_trial.proofs.trial.push_declarations.Goals as goal

pub returns : goal.returns
returns c = declared c.args.children.now c.args.text.now c.push.new.self c.push_children.new.text c.push-2.new.self c.in_ok-push.ensures.ok c.in_ok-push_children.ensures c.in_ok-push-2.ensures.ok
