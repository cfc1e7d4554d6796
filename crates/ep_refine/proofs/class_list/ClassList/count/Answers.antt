use Rattle.std.proofs.Common.{List, ℕ, length, ap, subst, arith}
use Rattle.ep_refine.specs.Numbering.{AreNumbers}
use Rattle.ep_refine.proofs.class_list.ClassList.count.Goals as goal

pub returns : goal.returns
returns c = record {
  numbers = subst (λ (l : List ℕ). AreNumbers l c.self.inside.count) c.self.view_is c.self.invariant.0;
  few = let i = c.self.invariant.1 in let v = ap length c.self.view_is in omega (arith, i, v);
}
