use Rattle.std.proofs.Common.{◌∙◌, arith}
use Rattle.ep_refine.proofs.ReachLemmas.{targets_within}
use Rattle.ep_refine.proofs.signing.sign.Goals as goal

pub distinct_ranks-requires : goal.distinct_ranks-requires
distinct_ranks-requires g c = λ k d b.
    let within = targets_within c.args.s.now c.in_ok-read_targets.ensures.valid c.args.w.n c.loop-a.a c.deref.result.now (c.deref.ensures.value ∙ c.in_ok-read_targets.ensures.value) k d b in
    let long = c.requires.one_each in
    omega (arith, within, long)
