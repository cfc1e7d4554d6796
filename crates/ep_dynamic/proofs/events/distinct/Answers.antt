use Rattle.std.proofs.Common.{ap, ◌∙◌, nat_eq}
use Rattle.std.specs.Ordering.{nat_cmp}
use Rattle.std.specs.Cmp.{unsigned_ties}
use Rattle.std.proofs.lemmas.Cmp.{nat_eq_equiv}
use Rattle.std.proofs.lemmas.List.Filters.{dedup_is}
use Rattle.ep_theory.specs.Rising.{rising}
use Rattle.ep_theory.proofs.CallerLemmas.{numbers, sorted_and_deduped}
use Rattle.ep_dynamic.proofs.events.distinct.Goals as goal

pub returns : goal.returns
returns c =
    c.from_vec.ensures
    ∙ dedup_is _ _ _ c.dedup.ensures.filtered
    ∙ sorted_and_deduped nat_cmp numbers nat_eq nat_eq_equiv unsigned_ties c.into_vec-numbers.result.items _ c.sort_unstable.ensures.permutation c.sort_unstable.ensures.sorted
    ∙ ap (rising nat_cmp) c.into_vec-numbers.ensures
