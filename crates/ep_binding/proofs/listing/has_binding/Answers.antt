use Rattle.std.proofs.Common.{rules, ◌<◌, All, length, subst, sym}
use Rattle.std.specs.Prelude.{◌↔◌, IsTrue}
use Rattle.ep_binding.proofs.ListingLemmas.{length-bindings, count-positive, positive-count}
use Rattle.ep_binding.proofs.listing.has_binding.Goals as goal

pub returns-clause-some : goal.returns-clause-some
returns-clause-some c =
    let cs = c.args.params.now in
    let each : IsTrue c.all.result ↔ All (λ c. 0 < length c) cs = search rules in (
      λ h. subst (λ n. 0 < n) (sym (length-bindings cs)) (count-positive cs (each.0 h)),
      λ h. each.1 (positive-count cs (subst (λ n. 0 < n) (length-bindings cs) h)),
    )
