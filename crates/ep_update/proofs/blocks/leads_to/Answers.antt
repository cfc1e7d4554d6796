use Rattle.std.proofs.Common.{sym}
use Rattle.ep_theory.specs.Events.{event_links}
use Rattle.ep_update.proofs.RowLemmas.{has_pair_is}
use Rattle.ep_update.proofs.blocks.leads_to.Goals as goal

pub returns : goal.returns
returns c = sym (has_pair_is (event_links c.args.a.now c.args.agent) c.args.e c.args.f c.linked.result c.linked.ensures.value)
