use Rattle.std.proofs.Common.{sym, ap, ◌∙◌}
use Rattle.ep_theory.specs.Fits.{fits_in}
use Rattle.ep_truth.proofs.FitLemmas.{fits_in-And, fits_in-Or}
use Rattle.ep_truth.proofs.fit.+fit.Goals as goal

pub fits_node-returns-in-And : goal.fits_node-returns-in-And
fits_node-returns-in-And t c =
    let n = c.args.agents in
    let m = c.args.atoms in
    c.fit_nodes.ensures ∙ sym (fits_in-And n m c.in-And.parts) ∙ ap (fits_in n m) (sym c.in-And.is)

pub fits_node-returns-in-Or : goal.fits_node-returns-in-Or
fits_node-returns-in-Or t c =
    let n = c.args.agents in
    let m = c.args.atoms in
    c.fit_nodes-in-Or.ensures ∙ sym (fits_in-Or n m c.in-Or.parts) ∙ ap (fits_in n m) (sym c.in-Or.is)
