use Rattle.std.proofs.Common.{[]}
use Rattle.ep_refine.specs.Touching.{Listed, Adds}
use Rattle.ep_refine.proofs.TouchLemmas.{LinksOfFirst}
use Rattle.ep_refine.proofs.touching.touch.Given as goal

abbrev pub invariant-loop-a : goal.invariant-loop-a
invariant-loop-a l = record {
  listed : Listed l.s.worlds l.touched.left l.touched.worlds.items;
  adds : Adds (LinksOfFirst l.s l.moved l.a) [] l.touched.worlds.items;
}
