use Rattle.std.proofs.Common.{length, ap, ◌∙◌, sym}
use Rattle.ep_guide.proofs.WaitingLemmas.{none_waits, no_entries}
use Rattle.ep_guide.proofs.frontier.Frontier.is_empty.Goals as goal

pub returns : goal.returns
returns c =
    let es = c.self.inside.queues.entries in
    let none = none_waits es c.self.invariant in (
      λ t. sym c.self.view_is ∙ none.0 (no_entries es (c.is_empty.ensures.0 t)),
      λ e. c.is_empty.ensures.1 (ap length (none.1 (c.self.view_is ∙ e))),
    )
