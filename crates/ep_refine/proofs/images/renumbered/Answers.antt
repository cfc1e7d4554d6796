use Rattle.std.proofs.Common.{◌≡◌, ap, ◌∙◌, map, filter, take, slice_index, take_all, nat_eq}
use Rattle.std.specs.Ordering.{nat_cmp}
use Rattle.std.specs.Cmp.{unsigned_ties}
use Rattle.std.proofs.lemmas.Cmp.{nat_eq_equiv}
use Rattle.std.proofs.lemmas.List.Filters.{dedup_is}
use Rattle.ep_theory.specs.Rising.{rising}
use Rattle.ep_theory.proofs.CallerLemmas.{numbers, sorted_and_deduped}
use Rattle.ep_logic.specs.Rows.{value_at}
use Rattle.ep_refine.proofs.images.renumbered.Goals as goal

pub returns : goal.returns
returns c =
    let is = dedup_is _ _ _ c.dedup.ensures.filtered in
    let e = sorted_and_deduped nat_cmp numbers nat_eq nat_eq_equiv unsigned_ties c.loop-w.list.items _ c.sort_unstable.ensures.permutation c.sort_unstable.ensures.sorted in
    let all : take c.loop-w.w-index c.args.worlds.now ≡ c.args.worlds.now = take_all _ _ c.loop-w-test.false in
    is ∙ e ∙ ap (rising nat_cmp) (c.loop-w.invariant ∙ ap (λ ws. map (slice_index c.args.numbers.now) (filter (value_at c.args.keep.now) ws)) all)
