use Rattle.std.proofs.Common.{◌∙◌, sym}
use Rattle.std.proofs.lemmas.Bool.{both_ways}
use Rattle.ep_binding.proofs.ListingLemmas.{none-bound}
use Rattle.ep_binding.proofs.listing.bindings.Goals as goal

pub returns-then-not-has_binding : goal.returns-then-not-has_binding
returns-then-not-has_binding c =
    c.new-all.ensures ∙ sym (none-bound c.args.params.now (λ h. both_ways c.has_binding.result c.if-not-has_binding.true (c.has_binding.ensures.some.1 h)))
