use Rattle.std.proofs.Common.{◌≡◌, ◌<◌, ℕ, ◌∙◌, List, length, subst, sym}
use Rattle.std.proofs.lemmas.Bool.{false≢true}
use Rattle.std.specs.List.{AllByRecursion}
use Rattle.ep_theory.specs.Kripke.{successors}
use Rattle.ep_theory.specs.Events.{event_links}
use Rattle.ep_theory.proofs.CallerLemmas.{IsIn-successors, from_successors}
use Rattle.ep_event.proofs.EquivalenceLemmas.{targets_within}
use Rattle.ep_event.proofs.equivalence.is_class.Goals as goal

pub lead_to-requires-clause-within : goal.lead_to-requires-clause-within
lead_to-requires-clause-within c =
    subst (AllByRecursion (λ e. e < length c.args.action.now.events)) (sym c.targets-targets.ensures.value)
    (targets_within c.args.action.now c.targets-targets.ensures.valid c.args.a.n c.args.e.n c.requires.agent)

pub returns-then-linked : goal.returns-then-linked
returns-then-linked c =
    let pairs = event_links c.args.action.now c.args.a.n in
    let same : List ℕ → Type 0 = λ xs. AllByRecursion (λ f. successors (event_links c.args.action.now c.args.a.n) f ≡ xs) xs in (
      λ h. (
        IsIn-successors c.args.e.n c.args.e.n pairs (c.linked.ensures.value.0 c.if-linked.true),
        subst same c.targets-targets.ensures.value (c.lead_to.ensures.0 h),
      ),
      λ r. c.lead_to.ensures.1 (subst same (sym c.targets-targets.ensures.value) r.1),
    )

pub returns-else-linked : goal.returns-else-linked
returns-else-linked c =
    let pairs = event_links c.args.action.now c.args.a.n in (
      λ h. absurd (false≢true (sym c.if-linked.false ∙ h)),
      λ r. c.linked.ensures.value.1 (from_successors c.args.e.n c.args.e.n pairs r.0),
    )
