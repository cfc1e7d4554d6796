use Rattle.std.proofs.Common.{ℕ, ◌∷◌, [], ◌++◌, List, length, length-append, map, slice_index, get_or, sym, ap, ◌∙◌, arith}
use Rattle.std.proofs.lemmas.List.{take_more, map-append}
use Rattle.ep_refine.specs.declared.signing.Key.{Key}
use Rattle.ep_refine.specs.declared.numbering.Keyed.{Keyed}
use Rattle.ep_refine.proofs.ColumnLemmas.{keys_more}
use Rattle.ep_refine.proofs.signing.form_keys.Goals as goal

pub loop-k-preserved : goal.loop-k-preserved
loop-k-preserved g c =
    let k = c.loop-k.k in
    let inv = c.loop-k.invariant in
    let x : Keyed Key = record { key = c.form_key-key.result; world = get_or c.args.worlds.now k 0 } in
    record {
      worlds = ap (map (λ (y : Keyed Key). y.world)) c.in_ok-push.ensures.items ∙ map-append (λ (y : Keyed Key). y.world) c.loop-k.keyed.items (x ∷ [])
          ∙ ap (λ (l : List ℕ). l ++ get_or c.args.worlds.now k 0 ∷ []) inv.worlds ∙ sym (take_more c.args.worlds.now k 0 c.loop-k-test.true);
      long = let e = ap length c.in_ok-push.ensures.items ∙ length-append c.loop-k.keyed.items (x ∷ []) in let l = inv.long in omega (arith, e, l);
      keys = keys_more (slice_index c.args.ranks.now) c.args.worlds.now c.args.columns.now c.loop-k.keyed.items c.push.new.self.items k x inv.long c.in_ok-push.ensures.items c.form_key-key.ensures.key inv.keys;
      few = let s = c.form_key-key.ensures.step in let f = inv.few in omega (arith, s, f);
    }
