use Rattle.std.proofs.Common.{◌≡◌, ◌<◌, suc, ⊎_elim, subst, arith}
use Rattle.ep_theory.proofs.CallerLemmas.{last_or_before}
use Rattle.ep_refine.specs.Touching.{Listed}
use Rattle.ep_refine.proofs.TouchLemmas.{in_marked}
use Rattle.ep_refine.proofs.touching.all_worlds.Goals as goal

pub loop-w-preserved : goal.loop-w-preserved
loop-w-preserved c = record {
  listed = subst (λ m. Listed m c.note.new.left c.note.new.list.items) c.loop-w.invariant.listed.long c.in_ok-note.ensures.listed;
  all = λ u l. ⊎_elim (λ (q : u ≡ c.loop-w.w). c.in_ok-note.ensures.adds.adds u q) (λ (m : u < c.loop-w.w). c.in_ok-note.ensures.adds.keeps u (c.loop-w.invariant.all u m))
      (last_or_before u c.loop-w.w (let z : u < suc c.loop-w.w = omega (arith, l) in z));
}

pub returns-clause-all : goal.returns-clause-all
returns-clause-all c = λ w b. in_marked c.args.worlds c.loop-w.left c.loop-w.list.items c.loop-w.invariant.listed w (c.loop-w.invariant.all w (let t = c.loop-w-test.false in omega (arith, t, b)))
