use Rattle.std.proofs.Common.{ap, ◌∙◌}
use Rattle.ep_universe.specs.Counts.{capped, ground_count}
use Rattle.ep_universe.proofs.count.count_all.Goals as goal

pub returns : goal.returns
returns c = c.count.ensures ∙ ap (λ d. capped (ground_count d c.args.tree.now)) c.typed.ensures.names
