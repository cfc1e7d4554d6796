use Rattle.ep_initial.proofs.ExplicitLemmas.{few_links, few_ids, few_rows, memory_wanting, made_explicit}
use Rattle.ep_initial.proofs.explicit.explicit_state.Goals as goal

pub build-requires-clause-truth : goal.build-requires-clause-truth
build-requires-clause-truth c = few_rows c.args.universe.now.names c.args.worlds.now c.args.ends.now.designated.now c.args.ends.now.links.now c.in_ok-parts.parts c.in_ok-parts.ensures c.requires

pub build-requires-clause-links : goal.build-requires-clause-links
build-requires-clause-links c = few_links c.args.universe.now.names c.args.worlds.now c.args.ends.now.designated.now c.args.ends.now.links.now c.in_ok-parts.parts c.in_ok-parts.ensures c.requires c.known.ensures.few.few_agents

pub build-requires-clause-designated : goal.build-requires-clause-designated
build-requires-clause-designated c = few_ids c.args.universe.now.names c.args.worlds.now c.args.ends.now.designated.now c.args.ends.now.links.now c.in_ok-parts.parts c.in_ok-parts.ensures c.requires

pub expect_state-requires : goal.expect_state-requires
expect_state-requires c = memory_wanting c.args.universe.now.names c.args.worlds.now c.args.ends.now.designated.now c.args.ends.now.links.now c.in_ok-parts.parts c.in_ok-parts.ensures c.requires c.build.result c.build.ensures.err

pub returns : goal.returns
returns c = made_explicit c.args.universe.now.names c.args.worlds.now c.args.ends.now.designated.now c.args.ends.now.links.now c.in_ok-parts.parts c.in_ok-parts.ensures c.requires c.expect_state.result c.build.result c.expect_state.ensures c.build.ensures.made c.build.ensures.valid
