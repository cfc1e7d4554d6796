use Rattle.std.proofs.Common.{arith, ◌∙◌}
use Rattle.std.proofs.lemmas.List.{length-set}
use Rattle.ep_refine.specs.declared.numbering.Keyed.{Keyed}
use Rattle.ep_refine.proofs.PlacesLemmas.{put_more, put_all}
use Rattle.ep_refine.proofs.numbering.by_world.Goals as goal

pub loop-i-preserved : goal.loop-i-preserved
loop-i-preserved g c = record {
  long = length-set _ _ _ ∙ c.loop-i.invariant.long;
  put = put_more (λ (x : Keyed g.row.K.Denot). x.world) c.args.places.now c.loop-i.found.items c.args.numbers.now c.loop-i.i c.index-places-i.result
      c.requires.distinct c.requires.within c.loop-i.invariant.long c.loop-i-test.true c.loop-i.invariant.put;
}

pub returns-clause-same : goal.returns-clause-same
returns-clause-same g c =
    put_all (λ (x : Keyed g.row.K.Denot). x.world) c.args.places.now c.loop-i.found.items c.args.numbers.now c.loop-i.i c.requires.one_each (omega arith) c.loop-i.invariant.put
