use Rattle.ep_theory.proofs.CallerLemmas.{one_contraction, same_at_all, same_at_some}
use Rattle.ep_canon.proofs.QuotientLemmas.{own_contraction}
use Rattle.ep_canon.proofs.canon.contract.Goals as goal

pub returns-clause-only : goal.returns-clause-only
returns-clause-only c = λ D d. one_contraction c.args.s.now D c.in_ok-contracted.contracted.state d c.in_ok-contracted.ensures.contraction

pub returns-clause-idempotent : goal.returns-clause-idempotent
returns-clause-idempotent c = own_contraction c.args.s.now c.in_ok-contracted.contracted.state c.reachable.ensures.valid c.in_ok-contracted.ensures.contraction

pub returns-clause-all : goal.returns-clause-all
returns-clause-all c = same_at_all c.args.s.now c.in_ok-contracted.contracted.state c.in_ok-contracted.ensures.contraction.bisimilar

pub returns-clause-some : goal.returns-clause-some
returns-clause-some c = same_at_some c.args.s.now c.in_ok-contracted.contracted.state c.in_ok-contracted.ensures.contraction.bisimilar
