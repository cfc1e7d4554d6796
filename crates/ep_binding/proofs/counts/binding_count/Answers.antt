use Rattle.std.proofs.Common.{◌≡◌, ◌<◌, ◌*◌, ◌+◌, length, take, get_or, arith, ap, sym, ◌∙◌}
use Rattle.ep_binding.specs.Bindings.{binding_count}
use Rattle.std.proofs.lemmas.List.{take_all}
use Rattle.ep_binding.proofs.ListingLemmas.{length-bindings}
use Rattle.ep_binding.proofs.CountsLemmas.{count-more, count-take_most}
use Rattle.ep_binding.proofs.counts.binding_count.Goals as goal

pub overflow_mul-count : goal.overflow_mul-count
overflow_mul-count c =
    let ps = c.args.params.now in
    let i = c.loop-objects.objects-index in
    let d = c.objects-item.result in
    let within : i < length ps = omega arith in
    let l : length c.as_slice.result.now ≡ length (get_or ps i d) = ap length (c.as_slice.ensures ∙ c.objects-item.is) in
    let p : c.loop-objects.count * length c.as_slice.result.now ≡ binding_count (take (i + 1) ps) =
    (λ j. c.loop-objects.invariant j * l j) ∙ sym (count-more ps i d within) in
    let b = count-take_most ps (i + 1) c.requires.few c.requires.objects in
    omega arith

pub loop-objects-preserved : goal.loop-objects-preserved
loop-objects-preserved c =
    let ps = c.args.params.now in
    let i = c.loop-objects.objects-index in
    let d = c.objects-item.result in
    let within : i < length ps = omega arith in
    (λ j. c.loop-objects.invariant j * length ((c.as_slice.ensures ∙ c.objects-item.is) j)) ∙ sym (count-more ps i d within)

pub returns-clause-exact : goal.returns-clause-exact
returns-clause-exact c =
    let ps = c.args.params.now in
    let end : c.loop-objects.objects-index ≡ length ps = omega arith in
    c.loop-objects.invariant ∙ ap (λ i. binding_count (take i ps)) end ∙ ap binding_count (take_all (length ps) ps (omega arith)) ∙ sym (length-bindings ps)

pub returns-clause-most : goal.returns-clause-most
returns-clause-most c =
    let b = count-take_most c.args.params.now c.loop-objects.objects-index c.requires.few c.requires.objects in
    let e = c.loop-objects.invariant in
    omega arith
