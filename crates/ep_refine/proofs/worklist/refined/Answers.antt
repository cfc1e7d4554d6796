use Rattle.std.proofs.Common.{◌≡◌, ◌+◌, ◌-◌, ℕ, suc, ◌==◌, nat_eq, Bool, true, false, List, length, sum_by, subst, sym, ◌∙◌, arith}
use Rattle.std.proofs.lemmas.Bool.Decides.{nat_tests}
use Rattle.ep_theory.specs.Ranks.{RanksAt}
use Rattle.ep_refine.specs.Touching.{is_listed, LinksToSome}
use Rattle.ep_refine.specs.Blocks.{rank_of}
use Rattle.ep_refine.specs.Rounds.{degree}
use Rattle.ep_refine.proofs.TouchLemmas.{in_marked}
use Rattle.ep_refine.proofs.WorklistLemmas.{few_touched, rest_alike, settled_ranks, split_budget, first_budget, spent_budget, few_signed, none_signed, first_signed}
use Rattle.ep_refine.proofs.worklist.refined.Goals as goal

clash : (b : Bool) → b ≡ true → b ≡ false → ⊥
clash b p q = cc

empty_length : (m n : ℕ) → true ≡ (m == 0) → n ≡ m → n ≡ 0
empty_length m n e q =
    let h : nat_eq m 0 ≡ true = sym e in
    let z : m ≡ 0 = grind (arith, nat_tests) in
    q ∙ z

pub loop-level-init : goal.loop-level-init
loop-level-init g c =
    let S = c.args.s.now in
    let b0 = c.in_ok-blocks.blocks in
    let b1 = c.round.new.b in
    let moved = c.in_ok-moved.moved.items in
    let R = c.in_ok-moved.ensures.round in
    record {
      valid = R.valid;
      ranks = R.next 0 c.in_ok-blocks.ensures.ordered;
      kept = (rank_of b0, c.in_ok-blocks.ensures.ordered, R.kept);
      within = R.within;
      distinct = R.distinct;
      budget = split_budget S b0 b1 moved c.args.steps.now c.round.new.steps R
          (first_budget S b0 c.args.steps.now c.round.new.steps c.in_ok-blocks.ensures.valid c.round.ensures.all);
    }

pub loop-level-preserved : goal.loop-level-preserved
loop-level-preserved g c =
    let S = c.args.s.now in
    let l = c.loop-level in
    let b = l.blocks in
    let b' = c.round-in-loop-level.new.b in
    let moved = l.moved.items in
    let moved' = c.in_ok-moved-2.moved.items in
    let R = c.in_ok-moved-2.ensures.round in
    let up : suc l._level ≡ l._level + 1 = omega arith in
    let down : l._level ≡ l._level + 1 - 1 = omega arith in
    record {
      valid = R.valid;
      ranks = subst (λ n. RanksAt S n (rank_of b')) up (R.next l._level l.invariant.ranks);
      kept = (rank_of b, subst (λ n. RanksAt S n (rank_of b)) down l.invariant.ranks, R.kept);
      within = R.within;
      distinct = R.distinct;
      budget = split_budget S b b' moved' c.args.steps.now c.round-in-loop-level.new.steps R
          (spent_budget S b c.args.steps.now l.steps (sum_by (degree c.args.s.now) moved) (length c.in_ok-touched.touched.worlds.items) c.round-in-loop-level.new.steps
          (few_touched S moved c.deref.result.now c.in_ok-touched.touched.left c.in_ok-touched.touched.worlds.items c.deref.ensures.value c.in_ok-touched.ensures.listed c.in_ok-touched.ensures.touched) c.round-in-loop-level.ensures.few l.invariant.budget);
    }

pub round-requires-clause-rest : goal.round-requires-clause-rest
round-requires-clause-rest g c = λ u v a b p q e. absurd (clash (is_listed c.in_ok-all.all.left u) (c.in_ok-all.ensures.all u (let w = c.worlds-worlds.ensures.value in omega (arith, a, w))) p)

pub round-requires-in-loop-level-clause-rest : goal.round-requires-in-loop-level-clause-rest
round-requires-in-loop-level-clause-rest g c =
    let S = c.args.s.now in
    let l = c.loop-level in
    let a = l.auto._level in
    let e : l._level ≡ suc (l._level - 1) = omega (arith, a) in
    rest_alike S c.worlds-worlds.ensures.valid (l._level - 1) l.invariant.kept.0 (rank_of l.blocks) l.moved.items c.in_ok-touched.touched.left
    l.invariant.kept.1 (subst (λ n. RanksAt S n (rank_of l.blocks)) e l.invariant.ranks) l.invariant.kept.2
    (λ w h. in_marked S.worlds c.in_ok-touched.touched.left c.in_ok-touched.touched.worlds.items c.in_ok-touched.ensures.listed w
    ((c.in_ok-touched.ensures.touched w).1 (subst (λ (m : List ℕ). LinksToSome S m w) (sym c.deref.ensures.value) h)))

pub returns-clause-ordered : goal.returns-clause-ordered
returns-clause-ordered g c =
    let S = c.args.s.now in
    let l = c.loop-level in
    let t = c.loop-level-test.false in
    let v = c.worlds-worlds.ensures.value in
    let some = c.worlds-worlds.ensures.valid.some_world in
    let up = l.auto._level-end (omega (arith, v, some)) in
    let q : l._level ≡ S.worlds = omega (arith, t, v, up) in
    subst (λ n. RanksAt S n (rank_of l.blocks)) q l.invariant.ranks

pub returns-then-is_empty-clause-ordered : goal.returns-then-is_empty-clause-ordered
returns-then-is_empty-clause-ordered g c =
    let S = c.args.s.now in
    let l = c.loop-level in
    let a = l.auto._level in
    let e : l._level ≡ suc (l._level - 1) = omega (arith, a) in
    let v = c.worlds-worlds.ensures.value in
    let t = c.loop-level-test.true in
    let k = l.moved.ok.0 in
    let h = c.if-is_empty.ensures in
    settled_ranks S c.worlds-worlds.ensures.valid (l._level - 1) l.invariant.kept.0 (rank_of l.blocks) l.moved.items l.invariant.kept.1 (subst (λ n. RanksAt S n (rank_of l.blocks)) e l.invariant.ranks) l.invariant.kept.2
    (empty_length c.loop-level.moved.len (length l.moved.items) h (omega (arith, k))) (omega (arith, a, t, v))

pub returns-then-is_empty-clause-few : goal.returns-then-is_empty-clause-few
returns-then-is_empty-clause-few g c = few_signed c.args.s.now c.worlds-worlds.ensures.valid c.loop-level.blocks c.args.steps.now c.loop-level.steps (sum_by (degree c.args.s.now) c.loop-level.moved.items) c.loop-level.invariant.valid c.loop-level.invariant.budget

pub returns-in_err-touched-clause-few : goal.returns-in_err-touched-clause-few
returns-in_err-touched-clause-few g c = few_signed c.args.s.now c.worlds-worlds.ensures.valid c.loop-level.blocks c.args.steps.now c.loop-level.steps (sum_by (degree c.args.s.now) c.loop-level.moved.items) c.loop-level.invariant.valid c.loop-level.invariant.budget

pub returns-in_err-moved-clause-few : goal.returns-in_err-moved-clause-few
returns-in_err-moved-clause-few g c = first_signed c.args.s.now c.args.steps.now c.round.new.steps c.round.ensures.all

pub returns-in_err-moved-2-clause-few : goal.returns-in_err-moved-2-clause-few
returns-in_err-moved-2-clause-few g c =
    let S = c.args.s.now in
    let l = c.loop-level in
    few_signed S c.worlds-worlds.ensures.valid l.blocks c.args.steps.now c.round-in-loop-level.new.steps 0 l.invariant.valid
    (spent_budget S l.blocks c.args.steps.now l.steps (sum_by (degree c.args.s.now) l.moved.items) (length c.in_ok-touched.touched.worlds.items) c.round-in-loop-level.new.steps
    (few_touched S l.moved.items c.deref.result.now c.in_ok-touched.touched.left c.in_ok-touched.touched.worlds.items c.deref.ensures.value c.in_ok-touched.ensures.listed c.in_ok-touched.ensures.touched) c.round-in-loop-level.ensures.few l.invariant.budget)

pub returns-in_err-backward-clause-few : goal.returns-in_err-backward-clause-few
returns-in_err-backward-clause-few g c = none_signed c.args.s.now c.args.steps.now c.args.steps.now (omega arith)

pub returns-in_err-all-clause-few : goal.returns-in_err-all-clause-few
returns-in_err-all-clause-few g c = none_signed c.args.s.now c.args.steps.now c.args.steps.now (omega arith)

pub returns-in_err-blocks-clause-few : goal.returns-in_err-blocks-clause-few
returns-in_err-blocks-clause-few g c = none_signed c.args.s.now c.args.steps.now c.args.steps.now (omega arith)

pub returns-clause-few : goal.returns-clause-few
returns-clause-few g c = few_signed c.args.s.now c.worlds-worlds.ensures.valid c.loop-level.blocks c.args.steps.now c.loop-level.steps (sum_by (degree c.args.s.now) c.loop-level.moved.items) c.loop-level.invariant.valid c.loop-level.invariant.budget
