use Rattle.std.proofs.Common.{◌≡◌, ◌≤◌, ◌<◌, ℕ, length, subst, sym}
use Rattle.std.specs.List.{AllByRecursion}
use Rattle.ep_base.specs.Refusals.{Reports}
use Rattle.ep_universe.specs.Atoms.{atoms_of}
use Rattle.ep_initial.specs.declared.fault.InitialError.TheVariants.{OutOfMemory}
use Rattle.ep_initial.specs.Faults.{fault_by}
use Rattle.ep_initial.specs.Lawful.{lawful_worlds}
use Rattle.ep_initial.specs.Meeting.{meets}
use Rattle.ep_initial.specs.Valuations.{numbers_of, varied}
use Rattle.ep_initial.proofs.FaultLemmas.{handed_on}
use Rattle.ep_initial.proofs.ValuationLemmas.{some_rows, few_rows, long_rows, long_kept, long_ok}
use Rattle.ep_initial.proofs.lawful.lawful_worlds.Goals as goal

pub returns-in_err-varied-clause-refused : goal.returns-in_err-varied-clause-refused
returns-in_err-varied-clause-refused c =
    let d = c.args.universe.now.names in
    let worlds = length (lawful_worlds d c.args.vary.now c.args.facts.now c.args.law.now) in
    handed_on (λ e. (n : ℕ) → Reports OutOfMemory (fault_by (length (varied d c.args.vary.now)) worlds n) e) c.from_residual.result c.in_err-varied.field-0.0 c.from_residual.ensures.1
    (λ n. c.in_err-varied.ensures.refused worlds n)

pub keep_meeting-requires-clause-some : goal.keep_meeting-requires-clause-some
keep_meeting-requires-clause-some c =
    subst (λ rows. 0 < length rows) (sym c.as_slice-2.ensures) (some_rows (length (atoms_of c.args.universe.now.names)) c.as_slice.result.now (numbers_of c.args.universe.now.names c.args.facts.now) c.in_ok-rows.rows c.in_ok-rows.ensures)

pub keep_meeting-requires-clause-few : goal.keep_meeting-requires-clause-few
keep_meeting-requires-clause-few c =
    subst (λ rows. length rows ≤ 4096) (sym c.as_slice-2.ensures)
    (few_rows (length (atoms_of c.args.universe.now.names)) c.as_slice.result.now (numbers_of c.args.universe.now.names c.args.facts.now) c.in_ok-rows.rows c.in_ok-rows.ensures
    (subst (λ ns. length ns ≤ 12) (sym c.as_slice.ensures) c.in_ok-varied.ensures.few))

pub keep_meeting-requires-clause-long : goal.keep_meeting-requires-clause-long
keep_meeting-requires-clause-long c =
    subst (AllByRecursion (λ row. length row ≡ (length (atoms_of c.args.universe.now.names)))) (sym c.as_slice-2.ensures)
    (long_rows (length (atoms_of c.args.universe.now.names)) c.as_slice.result.now (numbers_of c.args.universe.now.names c.args.facts.now) c.in_ok-rows.rows c.in_ok-rows.ensures)

pub returns-clause-long : goal.returns-clause-long
returns-clause-long c =
    let rows = c.as_slice-2.result.now in
    let long = subst (AllByRecursion (λ row. length row ≡ (length (atoms_of c.args.universe.now.names)))) (sym c.as_slice-2.ensures)
    (long_rows (length (atoms_of c.args.universe.now.names)) c.as_slice.result.now (numbers_of c.args.universe.now.names c.args.facts.now) c.in_ok-rows.rows c.in_ok-rows.ensures) in
    long_ok (length (atoms_of c.args.universe.now.names)) c.in_ok-worlds.worlds
    (subst (AllByRecursion (λ row. length row ≡ (length (atoms_of c.args.universe.now.names)))) (sym c.in_ok-worlds.ensures) (long_kept (length (atoms_of c.args.universe.now.names)) (meets c.args.universe.now.names c.args.law.now) rows long))
    c.check_few_worlds.result c.check_few_worlds.ensures.same
