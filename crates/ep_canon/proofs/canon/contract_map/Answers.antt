use Rattle.std.proofs.Common.{◌≡◌, ℕ, List, Option, Some, None, get_or, sym, ap, subst, ◌∙◌, ◌↔◌}
use Rattle.ep_theory.specs.Canonical.{Reached}
use Rattle.ep_theory.proofs.CallerLemmas.{one_contraction, same_at_all, same_at_some}
use Rattle.ep_canon.specs.Contracting.{class_map}
use Rattle.ep_canon.proofs.MapLemmas.{somewhere}
use Rattle.ep_canon.proofs.QuotientLemmas.{own_contraction}
use Rattle.ep_canon.proofs.canon.contract_map.Goals as goal

pub returns-clause-only : goal.returns-clause-only
returns-clause-only c = λ D d. one_contraction c.args.s.now D c.in_ok-contracted.contracted.state d c.in_ok-contracted.ensures.contraction

pub returns-clause-idempotent : goal.returns-clause-idempotent
returns-clause-idempotent c = own_contraction c.args.s.now c.in_ok-contracted.contracted.state c.reachable.ensures.valid c.in_ok-contracted.ensures.contraction

pub returns-clause-all : goal.returns-clause-all
returns-clause-all c = same_at_all c.args.s.now c.in_ok-contracted.contracted.state c.in_ok-contracted.ensures.contraction.bisimilar

pub returns-clause-some : goal.returns-clause-some
returns-clause-some c = same_at_some c.args.s.now c.in_ok-contracted.contracted.state c.in_ok-contracted.ensures.contraction.bisimilar

pub returns-clause-reached : goal.returns-clause-reached
returns-clause-reached c =
    let S = c.args.s.now in
    let row = c.in_ok-reached.reached in
    let is : c.in_ok-map.map ≡ class_map row c.in_ok-contracted.contracted.classes = c.in_ok-map.ensures ∙ ap (class_map row) c.as_slice.ensures in
    subst (λ (map : List (Option ℕ)). (w : ℕ) → ((v : ℕ) × (get_or map w None ≡ Some v)) ↔ Reached S w) (sym is)
    (somewhere S c.reachable.ensures.valid row c.in_ok-contracted.contracted.classes c.in_ok-reached.ensures.one_each c.in_ok-reached.ensures.reached)
