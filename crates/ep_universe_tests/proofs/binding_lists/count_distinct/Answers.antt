use Rattle.ep_universe_tests.proofs.binding_lists.count_distinct.Goals as goal

pub distinct_count-requires-clause-laminar : goal.distinct_count-requires-clause-laminar
distinct_count-requires-clause-laminar c = c.is_laminar.ensures.0 c.if-is_laminar.true
