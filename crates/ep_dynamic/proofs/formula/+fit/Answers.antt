use Rattle.std.proofs.Common.{sym, ap, ◌∙◌}
use Rattle.ep_dynamic.specs.DynamicFits.{fits_task}
use Rattle.ep_dynamic.proofs.DynamicLemmas.{fits_task-And, fits_task-Or}
use Rattle.ep_dynamic.proofs.formula.+fit.Goals as goal

pub fits_node-returns-in-And : goal.fits_node-returns-in-And
fits_node-returns-in-And t c =
    let n = c.args.agents in
    let m = c.args.atoms in
    let k = c.args.actions in
    c.fit_nodes.ensures ∙ sym (fits_task-And n m k c.in-And.parts) ∙ ap (fits_task n m k) (sym c.in-And.is)

pub fits_node-returns-in-Or : goal.fits_node-returns-in-Or
fits_node-returns-in-Or t c =
    let n = c.args.agents in
    let m = c.args.atoms in
    let k = c.args.actions in
    c.fit_nodes-in-Or.ensures ∙ sym (fits_task-Or n m k c.in-Or.parts) ∙ ap (fits_task n m k) (sym c.in-Or.is)
