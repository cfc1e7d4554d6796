use Rattle.std.proofs.Common.{subst, sym, IsTrue}
use Rattle.std.specs.Prelude.{◌↔◌}
use Rattle.ep_binding.specs.Laminar.{IsLaminar}
use Rattle.ep_binding.proofs.NestedLemmas.{laminar-decides}
use Rattle.ep_binding.proofs.laminar.is_laminar.Goals as goal

pub returns : goal.returns
returns c = subst (λ b. IsTrue b ↔ IsLaminar c.args.sets.now) (sym c.are_nested.ensures) (laminar-decides c.args.sets.now)
