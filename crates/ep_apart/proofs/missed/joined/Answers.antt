use Rattle.std.proofs.Common.{length, sym, ◌∙◌}
use Rattle.ep_apart.proofs.TableLemmas.{successors_below}
use Rattle.ep_apart.proofs.missed.joined.Goals as goal

pub join_rows-requires-clause-within : goal.join_rows-requires-clause-within
join_rows-requires-clause-within c = successors_below c.args.q.now c.worlds.ensures.valid c.args.agent.n c.args.c.n (length c.args.within.now) c.deref.result.now (c.deref.ensures.value ∙ c.in_ok-read_targets.ensures.value) (sym c.requires.wide.long)
