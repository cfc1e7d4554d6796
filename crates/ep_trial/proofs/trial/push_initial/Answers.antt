use Rattle.ep_trial.proofs.TextLemmas.{begun}
use Rattle.ep_trial.proofs.trial.push_initial.Goals as goal

pub returns : goal.returns
returns c = begun c.args.children.now c.args.text.now c.push.new.self c.push_atoms.new.text c.push-2.new.self c.push_sees_lines.new.text c.push-3.new.self
    c.in_ok-push.ensures.ok c.in_ok-push_atoms.ensures c.in_ok-push-2.ensures.ok c.in_ok-push_sees_lines.ensures c.in_ok-push-3.ensures.ok
