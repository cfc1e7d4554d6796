-- The lines of a trial that is solved.
use Rattle.std.proofs.Common.{◌∙◌, ap}
use Rattle.ep_answer.specs.Answer.{end_text}
use Rattle.ep_answer.proofs.TextLemmas.{solved_text}
use Rattle.ep_answer.proofs.trial_text.TrialEndDisplay.fmt.Goals as goal

pub returns-in-Solved-clause-writes : goal.returns-in-Solved-clause-writes
returns-in-Solved-clause-writes g c plain ok = rw (ap end_text c.in-Solved.is ∙ solved_text c.in-Solved.length c.in-Solved.verdict) (c.write.ensures.writes plain ok)
