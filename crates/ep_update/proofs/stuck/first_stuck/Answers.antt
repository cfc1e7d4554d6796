use Rattle.std.proofs.Common.{◌≡◌, ◌<◌, ◌∙◌, ℕ, sym, ap, length, get_or, arith, not, Some, None, option_map, Bool}
use Rattle.std.specs.List.{find, list_any}
use Rattle.ep_kripke.specs.Parts.{world}
use Rattle.ep_theory.specs.Product.{IsApplicable, applies, stuck_world}
use Rattle.ep_theory.proofs.CallerLemmas.{stuck_none}
use Rattle.ep_update.proofs.LabelLemmas.{none_exactly}
use Rattle.ep_update.proofs.ListLemmas.{find_none_more, find_at, take_past}
use Rattle.ep_update.proofs.stuck.first_stuck.Goals as goal

stuck_is : (c : goal.Then-not-goes_on) → Some (world (get_or c.designated-w-items.result.now c.loop-w.w-index 0)) ≡ option_map world (stuck_world c.args.s.now c.args.a.now)
stuck_is c =
    let q : ℕ → Bool = λ w. not (list_any (applies c.args.s.now c.args.a.now w) c.args.a.now.designated) in
    let here : c.loop-w.w-index < length c.args.s.now.designated = omega (arith, c.loop-w-test.true, ap length c.designated-w-items.ensures.value) in
    let w : get_or c.designated-w-items.result.now c.loop-w.w-index 0 ≡ get_or c.args.s.now.designated c.loop-w.w-index 0 = ap (λ xs. get_or xs c.loop-w.w-index 0) c.designated-w-items.ensures.value in
    ap (λ v. Some (world v)) w
    ∙ sym (ap (option_map world) (find_at (λ w. not (list_any (applies c.args.s.now c.args.a.now w) c.args.a.now.designated)) 0 c.args.s.now.designated c.loop-w.w-index here c.loop-w.invariant
    (ap (λ v. not (list_any (applies c.args.s.now c.args.a.now v) c.args.a.now.designated)) (sym w) ∙ ap not (sym c.if-not-goes_on.ensures))))

pub returns-then-not-goes_on : goal.returns-then-not-goes_on
returns-then-not-goes_on c = record {
  value = stuck_is c;
  none = none_exactly (stuck_world c.args.s.now c.args.a.now) (Some (world (get_or c.designated-w-items.result.now c.loop-w.w-index 0))) (IsApplicable c.args.s.now c.args.a.now) (stuck_is c)
      (stuck_none c.args.s.now c.args.a.now c.designated-w-items.ensures.valid);
}

pub loop-w-preserved : goal.loop-w-preserved
loop-w-preserved c =
    let here : c.loop-w.w-index < length c.args.s.now.designated = omega (arith, c.loop-w-test.true, ap length c.designated-w-items.ensures.value) in
    let w : get_or c.designated-w-items.result.now c.loop-w.w-index 0 ≡ get_or c.args.s.now.designated c.loop-w.w-index 0 = ap (λ xs. get_or xs c.loop-w.w-index 0) c.designated-w-items.ensures.value in
    find_none_more (λ w. not (list_any (applies c.args.s.now c.args.a.now w) c.args.a.now.designated)) 0 c.args.s.now.designated c.loop-w.w-index here c.loop-w.invariant
    (ap (λ v. not (list_any (applies c.args.s.now c.args.a.now v) c.args.a.now.designated)) (sym w) ∙ ap not (sym c.if-not-goes_on.ensures))

none_is : (c : goal.After-loop-w) → stuck_world c.args.s.now c.args.a.now ≡ None
none_is c = ap (find (λ w. not (list_any (applies c.args.s.now c.args.a.now w) c.args.a.now.designated)))
    (sym (take_past c.args.s.now.designated c.loop-w.w-index (omega (arith, c.loop-w-test.false, ap length c.designated-w-items.ensures.value)))) ∙ c.loop-w.invariant

pub returns : goal.returns
returns c = record {
  value = sym (ap (option_map world) (none_is c));
  none = none_exactly (stuck_world c.args.s.now c.args.a.now) None (IsApplicable c.args.s.now c.args.a.now) (sym (ap (option_map world) (none_is c)))
      (stuck_none c.args.s.now c.args.a.now c.designated-w-items.ensures.valid);
}
