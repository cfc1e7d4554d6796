use Rattle.std.proofs.Common.{◌≡◌, drop}
use Rattle.std.specs.List.{list_all}
use Rattle.ep_dynamic.specs.DynamicFits.{fits_task}
use Rattle.ep_dynamic.proofs.formula.+fit.Given as goal

abbrev pub invariant-fit_nodes-loop-part : goal.invariant-fit_nodes-loop-part
invariant-fit_nodes-loop-part l = list_all (fits_task l.agents l.atoms l.actions) l.parts ≡ list_all (fits_task l.agents l.atoms l.actions) (drop l.part-index l.parts)
