use Rattle.std.proofs.Common.{◌≡◌, [], length, IsTrue, sym, subst}
use Rattle.std.specs.List.{AllByRecursion}
use Rattle.ep_logic.specs.declared.formula.Node.{Node}
use Rattle.ep_theory.specs.Fits.{Fits, fits_in}
use Rattle.ep_theory.specs.Kripke.{Kripke}
use Rattle.ep_universe.specs.Formulas.{ground_of}
use Rattle.ep_universe.specs.Objects.{agents_of}
use Rattle.ep_initial.specs.Meeting.{unlinked}
use Rattle.ep_initial.proofs.MeetingLemmas.{labelled}
use Rattle.ep_initial.proofs.meeting.label_rows.Goals as goal

pub build_unlinked-requires-clause-long : goal.build_unlinked-requires-clause-long
build_unlinked-requires-clause-long c = subst (λ n. AllByRecursion (λ row. length row ≡ n) c.args.rows.now) (sym c.atoms-atoms.ensures.value) c.requires.long

pub label-requires : goal.label-requires
label-requires c =
    let d = c.args.universe.now.names in
    let f = ground_of d c.args.formula.now [] in
    let agents = c.agents-agents.result in
    let atoms = c.atoms-atoms.result in
    let fits : IsTrue (fits_in agents atoms f) =
    subst (λ k. IsTrue (fits_in k atoms f)) (sym c.agents-agents.ensures.value)
    (subst (λ k. IsTrue (fits_in (length (agents_of d)) k f)) (sym c.atoms-atoms.ensures.value) c.requires.formula.fits) in
    subst (λ (S : Kripke). Fits S c.in_ok-form.form) (sym c.in_ok-state.ensures)
    (subst (λ (g : Node). Fits (unlinked agents atoms c.args.rows.now) g) (sym c.in_ok-form.ensures) fits)

pub returns : goal.returns
returns c =
    let long = subst (λ n. AllByRecursion (λ row. length row ≡ n) c.args.rows.now) (sym c.atoms-atoms.ensures.value) c.requires.long in
    labelled c.args.universe.now.names c.args.formula.now c.agents-agents.result c.atoms-atoms.result c.agents-agents.ensures.value c.atoms-atoms.ensures.value c.args.rows.now c.requires.some long
    c.in_ok-state.state c.in_ok-form.form c.in_ok-state.ensures c.in_ok-form.ensures c.label.result c.label.ensures.tested
