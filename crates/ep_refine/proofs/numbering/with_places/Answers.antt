use Rattle.std.proofs.Common.{rules, arith, ◌≡◌, ◌∷◌, length, length-append, ◌∙◌, [], sym, ap}
use Rattle.std.proofs.lemmas.Grind.{common_steps}
use Rattle.std.proofs.lemmas.List.{length-map}
use Rattle.ep_refine.specs.declared.numbering.Keyed.{Keyed}
use Rattle.ep_refine.proofs.PlacesLemmas.{numbered_more}
use Rattle.ep_refine.proofs.numbering.with_places.Goals as goal

pub loop-key-preserved : goal.loop-key-preserved
loop-key-preserved g c =
    let before : length c.loop-key.items.items ≡ length c.loop-key.yielded =
    sym (length-map c.loop-key.items.items (λ (x : Keyed g.row.K.Denot). x.key)) ∙ ap length c.loop-key.invariant.keys in
    record {
      can = search rules;
      ends = search rules;
      keys = grind (arith, common_steps);
      worlds = numbered_more (λ (x : Keyed g.row.K.Denot). x.world) c.loop-key.items.items c.push.new.self.items (record { key = c.in-Some.key; world = c.len-world.result }) (length c.loop-key.yielded) _
          c.loop-key.invariant.worlds (let k = c.loop-key.items.ok.0 in let e = c.len-world.ensures in omega (arith, before, k, e)) c.in_ok-push.ensures.items (length-append c.loop-key.yielded (c.in-Some.key ∷ []));
    }
