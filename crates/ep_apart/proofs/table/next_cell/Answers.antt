use Rattle.std.proofs.Common.{ℕ, ◌<◌, ◌≤◌, Some, IfSome, length, ◌∙◌, subst, arith}
use Rattle.ep_logic.specs.declared.ids.AgentId.{AgentId}
use Rattle.ep_apart.specs.Tables.{IsLoneLink, Grows}
use Rattle.ep_apart.proofs.GrowLemmas.{grows_trans}
use Rattle.ep_apart.proofs.TableLemmas.{next_possible, next_known, answered_more, all_answered}
use Rattle.ep_apart.proofs.table.next_cell.Goals as goal

abbrev agent : ℕ → AgentId
agent a = record { n = a }

pub possible-requires-clause-within : goal.possible-requires-clause-within
possible-requires-clause-within c = subst (λ o. IfSome o (λ j. j < length c.lone_link.new.lines)) c.in-Some.is c.in_ok-j.ensures.within

pub returns-in-Some-clause-told : goal.returns-in-Some-clause-told
returns-in-Some-clause-told c =
    let q = c.args.q.now in
    let t = c.args.before.now.table in
    next_possible q t c.args.lines.now c.lone_link.new.lines c.possible.new.lines (agent c.loop-a.a) c.args.c.n c.args.d.n c.in-Some.j c.in_ok-possible.field-0
    (subst (λ ls. IsLoneLink q t c.loop-a.a c.args.c.n c.args.d.n ls c.lone_link.new.lines (Some c.in-Some.j)) c.loop-a.invariant.same
    (subst (IsLoneLink q t c.loop-a.a c.args.c.n c.args.d.n c.loop-a.lines c.lone_link.new.lines) c.in-Some.is c.in_ok-j.ensures.found))
    c.in_ok-possible.ensures.formula c.in_ok-possible.ensures.within

pub returns-in-Some-clause-grows : goal.returns-in-Some-clause-grows
returns-in-Some-clause-grows c =
    let ag = c.args.q.now.agents in
    let at = c.args.q.now.atoms in
    grows_trans ag at c.args.lines.now c.lone_link.new.lines c.possible.new.lines
    (subst (λ ls. Grows ag at ls c.lone_link.new.lines) c.loop-a.invariant.same (c.in_ok-j.ensures.grows ag at))
    (c.in_ok-possible.ensures.grows ag at (let v = c.agents-a-end.ensures.value in let t = c.loop-a-test.true in omega (arith, v, t)))

pub excluded-requires-clause-within : goal.excluded-requires-clause-within
excluded-requires-clause-within c = subst (λ o. IfSome o (λ j. j < length c.lone_link-in-loop-a.new.lines)) c.in-Some-2.is c.in_ok-j-2.ensures.within

pub returns-in-Some-2-clause-told : goal.returns-in-Some-2-clause-told
returns-in-Some-2-clause-told c =
    let q = c.args.q.now in
    let t = c.args.before.now.table in
    let n = subst (IsLoneLink q t c.loop-a.a c.args.c.n c.args.d.n c.loop-a.lines c.lone_link.new.lines) c.in_default.is c.in_ok-j.ensures.found in
    next_known q t c.args.lines.now c.lone_link-in-loop-a.new.lines c.excluded.new.lines (agent c.loop-a.a) c.args.c.n c.args.d.n c.in-Some-2.j c.in_ok-excluded.field-0
    (subst (λ ls. IsLoneLink q t c.loop-a.a c.args.d.n c.args.c.n ls c.lone_link-in-loop-a.new.lines (Some c.in-Some-2.j)) (n.0 ∙ c.loop-a.invariant.same)
    (subst (IsLoneLink q t c.loop-a.a c.args.d.n c.args.c.n c.lone_link.new.lines c.lone_link-in-loop-a.new.lines) c.in-Some-2.is c.in_ok-j-2.ensures.found))
    c.in_ok-excluded.ensures.formula c.in_ok-excluded.ensures.within

pub returns-in-Some-2-clause-grows : goal.returns-in-Some-2-clause-grows
returns-in-Some-2-clause-grows c =
    let ag = c.args.q.now.agents in
    let at = c.args.q.now.atoms in
    grows_trans ag at c.args.lines.now c.lone_link-in-loop-a.new.lines c.excluded.new.lines
    (grows_trans ag at c.args.lines.now c.lone_link.new.lines c.lone_link-in-loop-a.new.lines
    (subst (λ ls. Grows ag at ls c.lone_link.new.lines) c.loop-a.invariant.same (c.in_ok-j.ensures.grows ag at))
    (c.in_ok-j-2.ensures.grows ag at))
    (c.in_ok-excluded.ensures.grows ag at (let v = c.agents-a-end.ensures.value in let t = c.loop-a-test.true in omega (arith, v, t)))

pub loop-a-preserved : goal.loop-a-preserved
loop-a-preserved c =
    let q = c.args.q.now in
    let t = c.args.before.now.table in
    let n = subst (IsLoneLink q t c.loop-a.a c.args.c.n c.args.d.n c.loop-a.lines c.lone_link.new.lines) c.in_default.is c.in_ok-j.ensures.found in
    let m = subst (IsLoneLink q t c.loop-a.a c.args.d.n c.args.c.n c.lone_link.new.lines c.lone_link-in-loop-a.new.lines) c.in_default-2.is c.in_ok-j-2.ensures.found in
    record {
      same = m.0 ∙ n.0 ∙ c.loop-a.invariant.same;
      first = answered_more q t c.loop-a.a c.args.c.n c.args.d.n c.loop-a.invariant.first n.1;
      second = answered_more q t c.loop-a.a c.args.d.n c.args.c.n c.loop-a.invariant.second m.1;
    }

pub returns-clause-told : goal.returns-clause-told
returns-clause-told c =
    let q = c.args.q.now in
    let t = c.args.before.now.table in
    let l = (let v = c.agents-a-end.ensures.value in let b = c.loop-a-test.false in let r : q.agents ≤ c.loop-a.a = omega (arith, v, b) in r) in (
      all_answered q c.agents-a-end.ensures.valid t c.loop-a.a c.args.c.n c.args.d.n l c.loop-a.invariant.first,
      all_answered q c.agents-a-end.ensures.valid t c.loop-a.a c.args.d.n c.args.c.n l c.loop-a.invariant.second,
    )
