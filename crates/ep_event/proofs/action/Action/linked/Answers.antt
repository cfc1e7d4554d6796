use Rattle.std.proofs.Common.{subst, sym}
use Rattle.ep_theory.specs.Events.{event_links}
use Rattle.ep_theory.specs.Rising.{IsIn}
use Rattle.ep_theory.proofs.CallerLemmas.{IsIn-successors, from_successors}
use Rattle.ep_event.proofs.action.Action.linked.Goals as goal

pub returns-clause-value : goal.returns-clause-value
returns-clause-value c =
    let pairs = event_links c.args.self.now c.args.a.n in (
      λ h. from_successors c.args.e.n c.args.f.n pairs (subst (IsIn c.args.f.n) c.targets.ensures.value (c.contains.ensures.0 h)),
      λ i. c.contains.ensures.1 (subst (IsIn c.args.f.n) (sym c.targets.ensures.value) (IsIn-successors c.args.e.n c.args.f.n pairs i)),
    )
