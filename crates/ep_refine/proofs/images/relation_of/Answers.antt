use Rattle.std.proofs.Common.{◌≡◌, ◌<◌, ◌∙◌, [], sym, ap, subst, arith, length, get_or, map, filter, take_all, slice_index}
use Rattle.std.specs.Ordering.{nat_cmp}
use Rattle.std.proofs.lemmas.List.{get_or_default}
use Rattle.std.specs.List.{AllByRecursion}
use Rattle.ep_theory.specs.Rising.{IsRising}
use Rattle.ep_theory.specs.Kripke.{links_of, successors}
use Rattle.ep_theory.proofs.CallerLemmas.{IsRising-rising, numbers}
use Rattle.ep_logic.specs.Rows.{value_at}
use Rattle.ep_kripke.specs.Relations.{RowsSeen}
use Rattle.ep_refine.specs.Choices.{kept_numbers}
use Rattle.ep_refine.proofs.ReachLemmas.{targets_within}
use Rattle.ep_refine.proofs.OriginalLemmas.{kept_within, front_at, front_more}
use Rattle.ep_refine.proofs.images.relation_of.Goals as goal
use Rattle.ep_refine.proofs.images.relation_of.Goals.{then-original-i+in_ok-push_again, else-original-i+in_ok-read_targets+in_ok-row+in_ok-push}

pub renumbered-requires-clause-kept : goal.renumbered-requires-clause-kept
renumbered-requires-clause-kept c = λ k d b.
    let within = targets_within c.args.s.now c.in_ok-read_targets.ensures.valid _ c.args.a.n c.deref.result.now (c.deref.ensures.value ∙ c.in_ok-read_targets.ensures.value) k d b in
    let long = c.requires.kept in
    omega (arith, within, long)

pub push-requires-clause-rising : goal.push-requires-clause-rising
push-requires-clause-rising c =
    subst (IsRising nat_cmp) (sym (c.deref-else-original-i.ensures.value ∙ c.in_ok-row.ensures))
    (IsRising-rising nat_cmp numbers (map (slice_index c.args.numbers.now) (filter (value_at c.args.keep.now) c.deref.result.now)))

pub push-requires-clause-within : goal.push-requires-clause-within
push-requires-clause-within c =
    subst (λ n. AllByRecursion (λ v. v < n) c.deref-else-original-i.result.now) (sym c.loop-i.invariant.worlds)
    (subst (AllByRecursion (λ v. v < length c.args.chosen.now)) (sym (c.deref-else-original-i.ensures.value ∙ c.in_ok-row.ensures))
    (kept_within c.args.s.now c.in_ok-read_targets.ensures.valid (value_at c.args.keep.now) (slice_index c.args.numbers.now) c.args.chosen.now c.args.a.n (get_or c.args.chosen.now c.loop-i.i 0) c.deref.result.now c.requires.choice
    (c.deref.ensures.value ∙ c.in_ok-read_targets.ensures.value)))

pub loop-i-preserved : goal.loop-i-preserved
loop-i-preserved c =
    let here : c.loop-i.i < length c.args.chosen.now = omega (arith, c.loop-i-test.true, c.loop-i.auto.i-end) in
    let at : c.index-original.result.now ≡ get_or c.in_ok-originals.originals.items c.loop-i.i 0 =
    c.index-original.ensures ∙ get_or_default c.in_ok-originals.originals.items c.loop-i.i c.index-original.result.now 0 (omega (arith, here, c.in_ok-originals.ensures.long)) in
    elim c.if-original-i.branch [
      | then-original-i+in_ok-push_again w ↦ record {
        worlds = ap (λ (s : RowsSeen). s.worlds) (w.naming-is ∙ w.in_ok-push_again.ensures) ∙ c.loop-i.invariant.worlds;
        rows = front_more (λ w. kept_numbers (value_at c.args.keep.now) (slice_index c.args.numbers.now) (successors (links_of c.args.s.now c.args.a.n) w)) c.args.chosen.now c.loop-i.i
            (get_or c.loop-i.naming.rows c.index-original.result.now []) c.loop-i.naming.rows c.if-original-i.naming.rows here c.loop-i.invariant.rows
            (ap (λ rs. get_or rs c.index-original.result.now []) c.loop-i.invariant.rows
            ∙ front_at (λ w. kept_numbers (value_at c.args.keep.now) (slice_index c.args.numbers.now) (successors (links_of c.args.s.now c.args.a.n) w)) c.args.chosen.now c.loop-i.i c.index-original.result.now w.if-original-i.true (omega (arith, here))
            ∙ ap (kept_numbers (value_at c.args.keep.now) (slice_index c.args.numbers.now))
            (ap (λ k. successors (links_of c.args.s.now c.args.a.n) (get_or c.args.chosen.now k 0)) at ∙ c.in_ok-originals.ensures.equal c.loop-i.i here))
            (ap (λ (s : RowsSeen). s.rows) (w.naming-is ∙ w.in_ok-push_again.ensures));
      }
      | else-original-i+in_ok-read_targets+in_ok-row+in_ok-push w ↦ record {
        worlds = ap (λ (s : RowsSeen). s.worlds) (w.naming-is ∙ w.in_ok-push.ensures) ∙ c.loop-i.invariant.worlds;
        rows = front_more (λ w. kept_numbers (value_at c.args.keep.now) (slice_index c.args.numbers.now) (successors (links_of c.args.s.now c.args.a.n) w)) c.args.chosen.now c.loop-i.i
            w.deref-else-original-i.result.now c.loop-i.naming.rows c.if-original-i.naming.rows here c.loop-i.invariant.rows
            (w.deref-else-original-i.ensures.value ∙ w.in_ok-row.ensures
            ∙ ap (kept_numbers (value_at c.args.keep.now) (slice_index c.args.numbers.now)) (w.deref.ensures.value ∙ w.in_ok-read_targets.ensures.value))
            (ap (λ (s : RowsSeen). s.rows) (w.naming-is ∙ w.in_ok-push.ensures));
      }
    ]

pub returns : goal.returns
returns c =
    c.in_ok-rows.ensures ∙ c.loop-i.invariant.rows
    ∙ ap (map (λ w. kept_numbers (value_at c.args.keep.now) (slice_index c.args.numbers.now) (successors (links_of c.args.s.now c.args.a.n) w)))
    (take_all c.loop-i.i c.args.chosen.now (omega (arith, c.loop-i-test.false, c.loop-i.auto.i-end)))
