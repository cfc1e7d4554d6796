use Rattle.ep_refine.specs.Backward.{Users}
use Rattle.ep_refine.proofs.backward.users_of.Given as goal

abbrev pub invariant-loop-w : goal.invariant-loop-w
invariant-loop-w l = Users l.names l.count l.w l.users
