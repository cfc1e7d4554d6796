use Rattle.ep_audit.proofs.take.take_bound.Goals as goal

pub returns-in-None : goal.returns-in-None
returns-in-None c = λ next h. c.in-None.ensures h.bound h.most h.is_line
