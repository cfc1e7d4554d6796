use Rattle.std.proofs.Common.{◌≡◌, replicate}
use Rattle.ep_kripke.proofs.SourceLemmas.{new_chains}
use Rattle.ep_kripke.proofs.sources.Sources.new.Goals as goal

pub invariant_of-result : goal.invariant_of-result
invariant_of-result c =
    let last : c.in_ok-vec.field-0.items ≡ replicate c.args.worlds 0 = c.in_ok-vec.ensures.items_if_clones_equal (λ y e. e) in
    (new_chains c.new.result.items c.in_ok-vec.field-0.items c.args.worlds c.new.ensures.items last).1

pub returns : goal.returns
returns c =
    let last : c.in_ok-vec.field-0.items ≡ replicate c.args.worlds 0 = c.in_ok-vec.ensures.items_if_clones_equal (λ y e. e) in
    (new_chains c.new.result.items c.in_ok-vec.field-0.items c.args.worlds c.new.ensures.items last).0
