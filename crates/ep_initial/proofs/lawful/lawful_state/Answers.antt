use Rattle.std.proofs.Common.{◌≡◌, ◌<◌, ◌≤◌, length, ap, sym, subst, ◌∙◌, arith, get_or, []}
use Rattle.std.specs.List.{AllByRecursion}
use Rattle.ep_theory.specs.Kripke.{IsState}
use Rattle.ep_logic.specs.Numbers.{table}
use Rattle.ep_kripke.specs.States.{IsBounded, state_of}
use Rattle.ep_base.specs.Refusals.{Reports}
use Rattle.ep_initial.specs.declared.fault.InitialError.TheVariants.{OutOfMemory}
use Rattle.ep_initial.specs.Faults.{fault_by, lawful_fault}
use Rattle.ep_initial.specs.Lawful.{worlds_where, lawful_from, lawful_worlds}
use Rattle.ep_initial.specs.Seeing.{alike, alike_rows, seen}
use Rattle.ep_initial.specs.Meeting.{meets, state_where}
use Rattle.ep_initial.specs.Valuations.{varied}
use Rattle.ep_initial.proofs.FaultLemmas.{handed_on}
use Rattle.ep_initial.proofs.SeeingLemmas.{alike_links}
use Rattle.ep_initial.proofs.StateLemmas.{chosen_worlds, have_rows, is_bounded, is_state, state_is}
use Rattle.ep_initial.proofs.lawful.lawful_state.Goals as goal

pub returns-in_err-worlds-clause-refused : goal.returns-in_err-worlds-clause-refused
returns-in_err-worlds-clause-refused c =
    let d = c.args.universe.now.names in
    let rows = lawful_worlds d c.args.form.now.vary.now c.args.form.now.facts.now c.args.form.now.law.now in
    handed_on (Reports OutOfMemory (lawful_fault d c.args.form.now.vary.now c.args.form.now.facts.now c.args.form.now.law.now c.args.form.now.designated.now)) c.from_residual.result c.in_err-worlds.field-0.0 c.from_residual.ensures.1
    (c.in_err-worlds.ensures.refused (length (worlds_where d c.args.form.now.designated.now rows)))

related : (c : goal.In_ok-relations) → c.in_ok-relations.relations ≡ table (λ a. alike_rows c.in_ok-worlds.worlds (seen c.args.universe.now.names c.args.form.now.sees.now a)) c.agents-agents.result
related c =
    let see = seen c.args.universe.now.names c.args.form.now.sees.now in
    c.in_ok-relations.ensures ∙ (λ i. table (λ a. alike_rows (c.as_slice-2.ensures i) (see a)) (sym c.agents-agents.ensures.value i))

pub from_rows-requires-clause-rows : goal.from_rows-requires-clause-rows
from_rows-requires-clause-rows c =
    let d = c.args.universe.now.names in
    let rows = c.in_ok-worlds.worlds in
    let see = seen d c.args.form.now.sees.now in
    let ids = worlds_where d c.args.form.now.designated.now rows in
    have_rows c.agents-agents.result c.atoms-atoms.result rows (λ a. alike rows (see a)) ids (λ a. alike_rows rows (see a)) (alike_links c.agents-agents.result c.atoms-atoms.result rows see ids)
    rows c.in_ok-relations.relations (λ i. rows) (related c)

points : (c : goal.In_ok-relations) → c.in_ok-points.points ≡ worlds_where c.args.universe.now.names c.args.form.now.designated.now c.in_ok-worlds.worlds
points c = c.in_ok-points.ensures.places ∙ ap (worlds_where c.args.universe.now.names c.args.form.now.designated.now) c.as_slice.ensures

made : (c : goal.In_ok-relations) →
    state_of c.agents-agents.result c.atoms-atoms.result c.in_ok-worlds.worlds c.in_ok-relations.relations c.in_ok-points.points
    ≡ state_where c.agents-agents.result c.atoms-atoms.result c.in_ok-worlds.worlds (λ a. alike c.in_ok-worlds.worlds (seen c.args.universe.now.names c.args.form.now.sees.now a)) (worlds_where c.args.universe.now.names c.args.form.now.designated.now c.in_ok-worlds.worlds)
made c =
    let d = c.args.universe.now.names in
    let rows = c.in_ok-worlds.worlds in
    let see = seen d c.args.form.now.sees.now in
    let ids = worlds_where d c.args.form.now.designated.now rows in
    state_is c.agents-agents.result c.atoms-atoms.result rows (λ a. alike rows (see a)) ids (λ a. alike_rows rows (see a)) (alike_links c.agents-agents.result c.atoms-atoms.result rows see ids)
    rows c.in_ok-relations.relations c.in_ok-points.points (λ i. rows) (related c) (points c)

pub from_rows-requires-clause-valid : goal.from_rows-requires-clause-valid
from_rows-requires-clause-valid c =
    let d = c.args.universe.now.names in
    let rows = c.in_ok-worlds.worlds in
    let see = seen d c.args.form.now.sees.now in
    let long = subst (λ n. AllByRecursion (λ row. length row ≡ n) rows) (sym c.atoms-atoms.ensures.value) c.in_ok-worlds.ensures.long in
    let some : 0 < length (worlds_where d c.args.form.now.designated.now rows) = subst (λ ns. 0 < length ns) (points c) c.in_ok-points.ensures.some in
    subst IsState (sym (made c))
    (is_state c.agents-agents.result c.atoms-atoms.result rows (λ a. alike rows (see a)) (worlds_where d c.args.form.now.designated.now rows)
    (chosen_worlds c.atoms-atoms.result rows (λ w. meets d c.args.form.now.designated.now (get_or rows w [])) long some))

pub from_rows-requires-clause-bounded : goal.from_rows-requires-clause-bounded
from_rows-requires-clause-bounded c =
    let d = c.args.universe.now.names in
    let rows = c.in_ok-worlds.worlds in
    let see = seen d c.args.form.now.sees.now in
    let few : length rows ≤ 4096 = omega (arith, c.in_ok-worlds.ensures.few) in
    let agents : c.agents-agents.result ≤ 8 = c.agents-agents.ensures.few in
    let atoms : c.atoms-atoms.result ≤ 256 = c.atoms-atoms.ensures.few in
    subst IsBounded (sym (made c)) (is_bounded c.agents-agents.result c.atoms-atoms.result rows (λ a. alike rows (see a)) (worlds_where d c.args.form.now.designated.now rows) few agents atoms)

pub returns-clause-state : goal.returns-clause-state
returns-clause-state c =
    let d = c.args.universe.now.names in
    let rows = c.in_ok-worlds.worlds in
    let see = seen d c.args.form.now.sees.now in
    let ids = worlds_where d c.args.form.now.designated.now rows in
    let points = c.in_ok-points.ensures.places ∙ ap (worlds_where d c.args.form.now.designated.now) c.as_slice.ensures in
    c.in_ok-state.ensures
    ∙ state_is c.agents-agents.result c.atoms-atoms.result rows (λ a. alike rows (see a)) ids (λ a. alike_rows rows (see a)) (alike_links c.agents-agents.result c.atoms-atoms.result rows see ids)
    rows c.in_ok-relations.relations c.in_ok-points.points (λ i. rows) (c.in_ok-relations.ensures ∙ (λ i. table (λ a. alike_rows (c.as_slice-2.ensures i) (see a)) (sym c.agents-agents.ensures.value i))) points
    ∙ (λ i. state_where (c.agents-agents.ensures.value i) (c.atoms-atoms.ensures.value i) rows (λ a. alike rows (see a)) ids)
    ∙ ap (lawful_from d c.args.form.now.sees.now c.args.form.now.designated.now) c.in_ok-worlds.ensures.rows

pub returns-in_err-points-clause-refused : goal.returns-in_err-points-clause-refused
returns-in_err-points-clause-refused c =
    let d = c.args.universe.now.names in
    let form = c.args.form.now in
    let rows = lawful_worlds d form.vary.now form.facts.now form.law.now in
    let same : c.as_slice.result.now ≡ rows = c.as_slice.ensures ∙ c.in_ok-worlds.ensures.rows in
    let e = c.in_err-points.field-0.0 in
    let n = length (varied d form.vary.now) in
    handed_on (Reports OutOfMemory (lawful_fault d form.vary.now form.facts.now form.law.now form.designated.now)) c.from_residual-in_err-points.result e c.from_residual-in_err-points.ensures.1
    (subst (λ ws. Reports OutOfMemory (fault_by n (length ws) (length (worlds_where d form.designated.now ws))) e) same (c.in_err-points.ensures.refused n c.in_ok-worlds.ensures.varied))
