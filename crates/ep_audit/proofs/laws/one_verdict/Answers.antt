use Rattle.ep_audit.proofs.OneLemmas.{one_bound, one_line, never_both}
use Rattle.ep_audit.proofs.laws.one_verdict.Goals as goal

pub returns : goal.returns
returns c = record {
  bound = λ T text b d t. one_bound T t text b d;
  line = λ T text l m t. one_line T t text l m;
  never_both = λ T text b l t. never_both T t text b l;
}
