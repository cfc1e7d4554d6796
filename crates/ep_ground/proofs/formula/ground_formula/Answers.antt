use Rattle.std.proofs.Common.{◌≡◌, length, IsTrue, ap, sym, ◌∙◌, subst}
use Rattle.std.proofs.lemmas.Result.{IfOk-weaker}
use Rattle.ep_theory.specs.Fits.{fits_in}
use Rattle.ep_universe.specs.Atoms.{atoms_of}
use Rattle.ep_universe.specs.Objects.{agents_of}
use Rattle.ep_universe.specs.Universe.{NamedTask}
use Rattle.ep_ground.proofs.formula.ground_formula.Goals as goal

pub returns-clause-fits : goal.returns-clause-fits
returns-clause-fits c =
    let S = c.args.task.now.problem.initial in
    let u = c.universe.result.now in
    let named = c.universe.ensures.named in
    let names = ap (λ (v : NamedTask). v.names) c.universe.ensures.value in
    let agents : length (agents_of u.names) ≡ S.agents = ap (λ d. length (agents_of d)) names ∙ sym named.declared_agents ∙ named.agents in
    let atoms : length (atoms_of u.names) ≡ S.atoms = ap (λ d. length (atoms_of d)) names ∙ sym named.declared_atoms ∙ named.atoms in
    IfOk-weaker c.ground_in.result _ _ (λ f e. subst (λ n. IsTrue (fits_in n S.atoms f)) agents (subst (λ n. IsTrue (fits_in (length (agents_of u.names)) n f)) atoms e)) c.ground_in.ensures.fits
