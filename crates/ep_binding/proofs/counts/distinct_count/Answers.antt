use Rattle.std.proofs.Common.{◌≡◌, ◌*◌, ◌≤◌, ◌+◌, [], take, drop, ap, sym, ◌∙◌, subst, arith}
use Rattle.std.proofs.Math.Nat.{mul_assoc}
use Rattle.ep_binding.specs.Counts.{choices}
use Rattle.ep_binding.proofs.CountsLemmas.{choices-end, choices-more, left-few, power-few, power-more}
use Rattle.ep_binding.proofs.LaminarLemmas.{choices-count}
use Rattle.ep_binding.proofs.counts.distinct_count.Goals as goal

pub overflow_mul-count : goal.overflow_mul-count
overflow_mul-count c =
    let cs = c.args.params.now in
    let i = c.loop-place.place in
    let left : c.count_left-count.result ≤ 64 = subst (λ n. n ≤ 64) (sym c.count_left-count.ensures) (left-few cs i c.loop-place-test.true c.requires.objects) in
    let more = power-more c.loop-place.count c.count_left-count.result i c.loop-place.invariant.small left in
    let few = power-few (c.loop-place.count * c.count_left-count.result) (i + 1) more (omega arith) in
    omega arith

pub loop-place-preserved : goal.loop-place-preserved
loop-place-preserved c =
    let cs = c.args.params.now in
    let i = c.loop-place.place in
    let left : c.count_left-count.result ≤ 64 = subst (λ n. n ≤ 64) (sym c.count_left-count.ensures) (left-few cs i c.loop-place-test.true c.requires.objects) in
    record {
      so_far =
          mul_assoc c.loop-place.count c.count_left-count.result (choices (take (i + 1) cs) (drop (i + 1) cs))
          ∙ ap (λ n. c.loop-place.count * (n * choices (take (i + 1) cs) (drop (i + 1) cs))) c.count_left-count.ensures
          ∙ ap (λ n. c.loop-place.count * n) (sym (choices-more cs i [] c.loop-place-test.true))
          ∙ c.loop-place.invariant.so_far;
      small = power-more c.loop-place.count c.count_left-count.result i c.loop-place.invariant.small left;
    }

pub returns-clause-exact : goal.returns-clause-exact
returns-clause-exact c =
    let cs = c.args.params.now in
    let i = c.loop-place.place in
    let whole = c.loop-place.invariant.so_far in
    let end = ap (λ n. c.loop-place.count * n) (choices-end cs i c.loop-place-test.false) in
    let here : c.loop-place.count ≡ choices [] cs = omega (arith, whole, end) in
    here ∙ choices-count cs c.requires.objects c.requires.laminar

pub returns-clause-most : goal.returns-clause-most
returns-clause-most c =
    power-few c.loop-place.count c.loop-place.place c.loop-place.invariant.small (omega arith)
