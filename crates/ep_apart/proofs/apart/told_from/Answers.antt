use Rattle.std.proofs.Common.{◌<◌, length, ap, sym, subst, arith}
use Rattle.ep_apart.specs.Lines.{AreLines}
use Rattle.ep_apart.specs.Simplifying.{IsSimpler}
use Rattle.ep_apart.specs.Tables.{AreTold}
use Rattle.ep_apart.proofs.Results.{if_ok, in_all}
use Rattle.ep_apart.proofs.ApartLemmas.{square}
use Rattle.ep_apart.proofs.PruneLemmas.{names_earlier}
use Rattle.ep_apart.proofs.SimplifyLemmas.{told_simpler}
use Rattle.ep_apart.proofs.apart.told_from.Goals as goal

pub simplified-requires-clause-some : goal.simplified-requires-clause-some
simplified-requires-clause-some c =
    let w = c.in_ok-lines.ensures.told.level.2.within in
    let e = ap length c.as_slice.ensures in
    omega (arith, w, e)

pub simplified-requires-clause-earlier : goal.simplified-requires-clause-earlier
simplified-requires-clause-earlier c =
    let q = c.args.q.now in
    names_earlier q.agents q.atoms c.as_slice.result.now (subst (AreLines q.agents q.atoms 0) (sym c.as_slice.ensures) c.in_ok-lines.ensures.told.proper)

pub simplified-requires-clause-few : goal.simplified-requires-clause-few
simplified-requires-clause-few c =
    let f = c.in_ok-lines.ensures.told.few in
    let e = ap length c.as_slice.ensures in
    let s = square c.args.q.now.worlds c.requires.small in
    omega (arith, f, e, s)

pub returns : goal.returns
returns c =
    let q = c.args.q.now in
    let a = c.in_ok-lines.ensures in
    if_ok c.simplified.result (IsSimpler c.as_slice.result.now) (AreTold q c.args.xs.now c.args.others.now)
    (λ new s. record {
      world = a.world;
      missing = a.missing;
      told = told_simpler q c.known.ensures.valid a.world c.args.others.now c.in_ok-lines.lines new
          (in_all (λ x. x < q.worlds) c.args.xs.now c.requires.worlds a.world a.missing.0)
          (in_all (λ y. y < q.worlds) c.args.others.now c.requires.others) a.told
          (subst (λ ls. IsSimpler ls new) c.as_slice.ensures s);
    }) c.simplified.ensures
