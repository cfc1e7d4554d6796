use Rattle.std.proofs.Common.{arith, ◌∙◌}
use Rattle.std.proofs.lemmas.List.{length-set}
use Rattle.ep_canon.proofs.QuotientLemmas.{put_one, class_below, each_stands}
use Rattle.ep_canon.proofs.quotient.one_of_each.Goals as goal

pub index_mut-requires : goal.index_mut-requires
index_mut-requires c =
    let b = class_below c.args.classes.now c.args.count c.loop-w.w c.requires.used c.loop-w-test.true in
    let long = c.loop-w.invariant.long in
    let k = c.loop-w.chosen.ok.0 in
    omega (arith, b, long, k)

pub loop-w-preserved : goal.loop-w-preserved
loop-w-preserved c =
    let long = c.loop-w.invariant.long in
    record {
      long = length-set _ _ _ ∙ long;
      each = put_one c.args.classes.now c.loop-w.chosen.items c.loop-w.w c.loop-w-test.true
          (let b = class_below c.args.classes.now c.args.count c.loop-w.w c.requires.used c.loop-w-test.true in omega (arith, b, long)) c.loop-w.invariant.each;
    }

pub returns-clause-each : goal.returns-clause-each
returns-clause-each c = each_stands c.args.classes.now c.loop-w.chosen.items c.args.count c.loop-w.w c.requires.used c.loop-w-test.false c.loop-w.invariant.each
