use Rattle.std.proofs.Common.{◌≡◌, drop}
use Rattle.std.specs.List.{list_all}
use Rattle.ep_theory.specs.Fits.{fits_in}
use Rattle.ep_truth.proofs.fit.+fit.Given as goal

abbrev pub invariant-fit_nodes-loop-part : goal.invariant-fit_nodes-loop-part
invariant-fit_nodes-loop-part l = list_all (fits_in l.agents l.atoms) l.parts ≡ list_all (fits_in l.agents l.atoms) (drop l.part-index l.parts)
