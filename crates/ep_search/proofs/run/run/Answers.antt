use Rattle.std.proofs.Common.{◌≡◌, ◌+◌, ◌-◌, ◌*◌, ◌<◌, ◌≤◌, ◌⊎◌, inl, inr, length, get_or, sym, ap, ◌∙◌, subst, arith}
use Rattle.std.proofs.lemmas.Option.{slice_get_within, same_Some}
use Rattle.std.proofs.lemmas.Grind.{common_steps}
use Rattle.ep_store.specs.declared.entry.Entry.{Entry}
use Rattle.ep_search.specs.Progresses.{spent}
use Rattle.ep_search.proofs.RunLemmas.{popped, keeps_popped, but_popped, passed, falls, get_or_defaults, room_all, room_left, tick_more, ticks, none_answer, best_answer}
use Rattle.ep_search.proofs.run.run.Goals as goal
use Rattle.ep_search.proofs.run.run.Goals.{else-weight-index-via-then-weight-index+else-weight-p, else-weight-index-via-else-weight-index}

pub weight-weight-requires : goal.weight-weight-requires
weight-weight-requires g c =
    let inv = c.loop-id.invariant in
    let po = c.in-Some.ensures.first in
    let h = popped c.args.problem.now c.args.setting.now.bounds c.loop-id.p po.0 c.pop.new.self c.in-Some.id po.1 po.2 inv.keeps inv.covers in
    slice_get_within _ _ _ h.at

pub index-requires : goal.index-requires
index-requires g c =
    let inv = c.loop-id.invariant in
    let at : c.in-Some.id.n < length c.loop-id.p.store.entries = slice_get_within _ _ _ c.weight-weight.ensures.at in
    let lt : c.in-Some.id.n < length c.loop-id.p.expanded.items = omega (arith, at, inv.keeps.marks) in
    grind (arith, common_steps)

pub expand-requires-clause-covers : goal.expand-requires-clause-covers
expand-requires-clause-covers g c =
    let inv = c.loop-id.invariant in
    let po = c.in-Some.ensures.first in
    but_popped c.args.problem.now c.args.setting.now.bounds c.loop-id.p po.0 c.pop.new.self c.in-Some.id po.1 po.2 inv.keeps inv.covers

pub expand-requires-clause-unmarked : goal.expand-requires-clause-unmarked
expand-requires-clause-unmarked g c =
    let inv = c.loop-id.invariant in
    let at : c.in-Some.id.n < length c.loop-id.p.store.entries = slice_get_within _ _ _ c.weight-weight.ensures.at in
    let lt : c.in-Some.id.n < length c.loop-id.p.expanded.items = omega (arith, at, inv.keeps.marks) in
    subst (λ m. c.weight-weight.result < m) (c.index.ensures ∙ get_or_defaults c.loop-id.p.expanded.items c.in-Some.id.n c.index.result.now 0 lt) c.if-weight-index.true

pub returns-in_err-went-clause-steps : goal.returns-in_err-went-clause-steps
returns-in_err-went-clause-steps g c =
    let inv = c.loop-id.invariant in
    let at : c.in-Some.id.n < length c.loop-id.p.store.entries = slice_get_within _ _ _ c.weight-weight.ensures.at in
    let lt : c.in-Some.id.n < length c.loop-id.p.expanded.items = omega (arith, at, inv.keeps.marks) in
    let mark : c.weight-weight.result < get_or c.loop-id.p.expanded.items c.in-Some.id.n 0 = subst (λ m. c.weight-weight.result < m) (c.index.ensures ∙ get_or_defaults c.loop-id.p.expanded.items c.in-Some.id.n c.index.result.now 0 lt) c.if-weight-index.true in
    let room = room_left c.args.problem.now c.args.setting.now.bounds c.loop-id.p inv.keeps c.in-Some.id.n c.weight-weight.result at mark in
    ticks c.args.steps.now c.expand.new.steps (length c.args.problem.now.actions) _ _
    (tick_more c.args.steps.now c.loop-id.steps c.expand.new.steps (length c.args.problem.now.actions) (spent c.args.setting.now.bounds.bound c.loop-id.p.expanded.items) (c.args.setting.now.bounds.states * c.args.setting.now.bounds.bound) inv.steps c.expand.ensures.steps room) (omega arith)

pub returns-in-Some-went-clause-steps : goal.returns-in-Some-went-clause-steps
returns-in-Some-went-clause-steps g c =
    let inv = c.loop-id.invariant in
    let at : c.in-Some.id.n < length c.loop-id.p.store.entries = slice_get_within _ _ _ c.weight-weight.ensures.at in
    let lt : c.in-Some.id.n < length c.loop-id.p.expanded.items = omega (arith, at, inv.keeps.marks) in
    let mark : c.weight-weight.result < get_or c.loop-id.p.expanded.items c.in-Some.id.n 0 = subst (λ m. c.weight-weight.result < m) (c.index.ensures ∙ get_or_defaults c.loop-id.p.expanded.items c.in-Some.id.n c.index.result.now 0 lt) c.if-weight-index.true in
    let room = room_left c.args.problem.now c.args.setting.now.bounds c.loop-id.p inv.keeps c.in-Some.id.n c.weight-weight.result at mark in
    ticks c.args.steps.now c.expand.new.steps (length c.args.problem.now.actions) _ _
    (tick_more c.args.steps.now c.loop-id.steps c.expand.new.steps (length c.args.problem.now.actions) (spent c.args.setting.now.bounds.bound c.loop-id.p.expanded.items) (c.args.setting.now.bounds.states * c.args.setting.now.bounds.bound) inv.steps c.expand.ensures.steps room) (omega arith)

pub loop-id-smaller-then-weight-p : goal.loop-id-smaller-then-weight-p
loop-id-smaller-then-weight-p g c =
    let ex = rw c.in_default-went.is at c.in_ok-went.ensures.expanded in
    let po = c.in-Some.ensures.first in
    let most = c.args.setting.now.bounds.states * c.args.setting.now.bounds.bound in
    let sp = spent c.args.setting.now.bounds.bound c.loop-id.p.expanded.items in
    let sq = spent c.args.setting.now.bounds.bound c.expand.new.p.expanded.items in
    let A = length c.args.problem.now.actions in
    subst (λ n. (A + 1) * (most - sq) + length c.expand.new.p.frontier < (A + 1) * (most - sp) + n) (sym (ap length po.1))
    (falls A most sp sq (length c.pop.new.self) (length c.expand.new.p.frontier) ex.marks (room_all c.args.problem.now c.args.setting.now.bounds c.expand.new.p ex.keeps) ex.pushed)

pub loop-id-preserved : goal.loop-id-preserved
loop-id-preserved g c =
    let inv = c.loop-id.invariant in
    let po = c.in-Some.ensures.first in
    let at : c.in-Some.id.n < length c.loop-id.p.store.entries = slice_get_within _ _ _ c.weight-weight.ensures.at in
    let lt : c.in-Some.id.n < length c.loop-id.p.expanded.items = omega (arith, at, inv.keeps.marks) in
    let mark : c.index.result.now ≡ get_or c.loop-id.p.expanded.items c.in-Some.id.n 0 = c.index.ensures ∙ get_or_defaults c.loop-id.p.expanded.items c.in-Some.id.n c.index.result.now 0 lt in
    let why : (c.index.result.now ≤ c.weight-weight.result) ⊎ (c.loop-id.p.least ≤ c.weight-weight.result + 1) = elim c.else-weight-index.branch [
      | else-weight-index-via-then-weight-index+else-weight-p w ↦ inr w.if-weight-p.false
      | else-weight-index-via-else-weight-index w ↦ inl w.if-weight-index.false
    ] in
    record {
      keeps = keeps_popped c.args.problem.now c.args.setting.now.bounds c.loop-id.p po.0 c.pop.new.self c.in-Some.id po.1 po.2 inv.keeps inv.covers;
      covers = passed c.args.problem.now c.args.setting.now.bounds c.loop-id.p po.0 c.pop.new.self c.in-Some.id po.1 po.2 inv.keeps inv.covers c.requires.setting.task
          (λ e h.
          let weight : c.weight-weight.result ≡ e.weight = c.weight-weight.ensures.holds ∙ ap (λ (f : Entry). f.weight) (same_Some c.weight-weight.ensures.entry e (sym c.weight-weight.ensures.at ∙ h)) in
          elim why [ inl le ↦ inl (omega (arith, le, mark, weight)) | inr le ↦ inr (omega (arith, le, weight)) ]);
      steps = inv.steps;
      asked = inv.asked;
    }

pub returns-in-None-clause-allowed : goal.returns-in-None-clause-allowed
returns-in-None-clause-allowed g c = let inv = c.loop-id.invariant in none_answer c.args.problem.now c.requires.setting.task c.args.setting.now.bounds c.loop-id.p inv.keeps inv.covers c.in_default.ensures.first.0 (sym c.take.ensures.value ∙ c.in-None.is)

pub returns-in-Prove-clause-allowed : goal.returns-in-Prove-clause-allowed
returns-in-Prove-clause-allowed g c = let inv = c.loop-id.invariant in (c.in-Prove.is, best_answer c.args.problem.now c.requires.setting.task c.args.setting.now.bounds c.loop-id.p _ inv.keeps inv.covers c.in_default.ensures.first.0 (sym c.take.ensures.value ∙ c.in-Some-take.is))

pub returns-in-None-clause-steps : goal.returns-in-None-clause-steps
returns-in-None-clause-steps g c =
    let inv = c.loop-id.invariant in
    ticks c.args.steps.now c.loop-id.steps (length c.args.problem.now.actions) _ _ inv.steps (room_all c.args.problem.now c.args.setting.now.bounds c.loop-id.p inv.keeps)

pub returns-in-Prove-clause-steps : goal.returns-in-Prove-clause-steps
returns-in-Prove-clause-steps g c =
    let inv = c.loop-id.invariant in
    ticks c.args.steps.now c.loop-id.steps (length c.args.problem.now.actions) _ _ inv.steps (room_all c.args.problem.now c.args.setting.now.bounds c.loop-id.p inv.keeps)

pub returns-in-First-clause-steps : goal.returns-in-First-clause-steps
returns-in-First-clause-steps g c =
    let inv = c.loop-id.invariant in
    ticks c.args.steps.now c.loop-id.steps (length c.args.problem.now.actions) _ _ inv.steps (room_all c.args.problem.now c.args.setting.now.bounds c.loop-id.p inv.keeps)
