use Rattle.ep_audit.proofs.ProgressLemmas.{certifies_closed}
use Rattle.ep_audit.proofs.laws.a_certificate_excludes_plans.Goals as goal

pub returns : goal.returns
returns c = λ T text b t k. let l = certifies_closed T text b k in c.a_closed_list_excludes_plans.ensures T.problem b l.0 t.problem l.1
