use Rattle.std.proofs.Common.{◌+◌, ◌&&◌, sym, subst, ap, ◌∙◌, arith}
use Rattle.ep_truth.proofs.SweepLemmas.{IsSweeping, sweeping_none, sweeping_skip, sweeping_more, sweeping_all}
use Rattle.ep_truth.proofs.common.sweep.Goals as goal
use Rattle.ep_truth.proofs.common.sweep.Goals.{then-has+in_ok-stays+then-none, then-has+in_ok-stays+else-none, else-has}

pub loop-a-init : goal.loop-a-init
loop-a-init c = sweeping_none c.args.s.now c.agents-a-end.ensures.valid c.args.group.now c.args.row.now c.requires.long

pub loop-a-preserved : goal.loop-a-preserved
loop-a-preserved c =
    let s = c.args.s.now in
    let valid = c.agents-a-end.ensures.valid in
    let g = c.args.group.now in
    let old = c.args.row.now in
    let a = c.loop-a.a in
    let none = c.loop-a.none in
    let row = c.loop-a.row in
    elim c.if-has.branch [
      | then-has+in_ok-stays+then-none w ↦
          subst (λ r. IsSweeping s g old (a + 1) c.if-has.none r) (sym w.row-is)
          (subst (λ b. IsSweeping s g old (a + 1) b w.keep_within.new.row) (ap (λ b. b && w.in_ok-stays.stays) w.if-none.true ∙ sym w.none-is)
          (sweeping_more s valid g old a row w.keep_within.new.row (c.has.ensures.0 w.if-has.true) c.loop-a.invariant.long w.in_ok-stays.ensures.row none w.in_ok-stays.stays w.in_ok-stays.ensures.none c.loop-a.invariant))
      | then-has+in_ok-stays+else-none w ↦
          subst (λ r. IsSweeping s g old (a + 1) c.if-has.none r) (sym w.row-is)
          (subst (λ b. IsSweeping s g old (a + 1) b w.keep_within.new.row) (ap (λ b. b && w.in_ok-stays.stays) w.if-none.false ∙ sym w.if-none.false ∙ sym w.none-is)
          (sweeping_more s valid g old a row w.keep_within.new.row (c.has.ensures.0 w.if-has.true) c.loop-a.invariant.long w.in_ok-stays.ensures.row none w.in_ok-stays.stays w.in_ok-stays.ensures.none c.loop-a.invariant))
      | else-has w ↦
          subst (λ r. IsSweeping s g old (a + 1) c.if-has.none r) (sym w.row-is)
          (subst (λ b. IsSweeping s g old (a + 1) b row) (sym w.none-is)
          (sweeping_skip s valid g old a none row (λ h. cc (c.has.ensures.1 h, w.if-has.false)) c.loop-a.invariant))
    ]

pub returns-clause-closed : goal.returns-clause-closed
returns-clause-closed c =
    sweeping_all c.args.s.now c.agents-a-end.ensures.valid c.args.group.now c.args.row.now c.loop-a.a c.loop-a.none c.loop-a.row
    (omega (arith, c.loop-a.auto.a-end, c.loop-a-test.false, c.agents-a-end.ensures.value)) c.requires.group c.loop-a.invariant
