use Rattle.std.proofs.Common.{◌≡◌, None, Option, Some, is_some, refl, sym, subst, ◌∙◌}
use Rattle.ep_bytes.specs.Bytes.{bytes_of}
use Rattle.ep_store.specs.Stored.{Stored, Lacks, MayCome, IsBetter, IsKnown}
use Rattle.indexmap.specs.IndexMap.{set_value_at}
use Rattle.ep_store.proofs.KeyLemmas.{found_state, lacks_state}
use Rattle.ep_store.proofs.CaseLemmas.{stored, better_kept, is_better, known_kept, is_known}
use Rattle.ep_store.proofs.store.Store.add.Goals as goal

pub invariant_of-self : goal.invariant_of-self
invariant_of-self c =
    let own : c.as_slice.result.now ≡ bytes_of c.args.canon = c.as_slice.ensures.value ∙ c.into_vec-key.ensures ∙ c.in-Ok.ensures.value in
    let same = found_state c.as_slice.result.now c.args.canon c.in-Ok.ensures.valid own c.self.inside.map.entries c.self.invariant.keyed c.in-Some.at c.index_mut.result.now c.in-Some.ensures.index c.index_mut.ensures.value in
    let comes = subst (λ (s : Stored). MayCome s.entries c.args.weight c.args.from) (sym c.self.view_is) c.requires in
    better_kept c.self.inside.limit c.self.inside.map.entries c.self.invariant c.in-Some.at c.index_mut.result.now
    (record { canon = c.args.canon; weight = c.args.weight; from = c.args.from }) c.improve.new.entry c.index_mut.ensures.value same c.if-improve.ensures.after c.if-improve.ensures.less comes

pub returns-then-improve-clause-added : goal.returns-then-improve-clause-added
returns-then-improve-clause-added c =
    let own : c.as_slice.result.now ≡ bytes_of c.args.canon = c.as_slice.ensures.value ∙ c.into_vec-key.ensures ∙ c.in-Ok.ensures.value in
    let same = found_state c.as_slice.result.now c.args.canon c.in-Ok.ensures.valid own c.self.inside.map.entries c.self.invariant.keyed c.in-Some.at c.index_mut.result.now c.in-Some.ensures.index c.index_mut.ensures.value in
    subst (λ (s : Stored). IsBetter s (record { canon = c.args.canon; weight = c.args.weight; from = c.args.from }) c.in-Some.at (stored c.self.inside.limit (set_value_at c.self.inside.map.entries c.in-Some.at c.improve.new.entry))) c.self.view_is
    (is_better c.self.inside.limit c.self.inside.map.entries c.self.invariant c.in-Some.at c.index_mut.result.now
    (record { canon = c.args.canon; weight = c.args.weight; from = c.args.from }) c.improve.new.entry c.index_mut.ensures.value same c.if-improve.ensures.after c.if-improve.ensures.less)

pub invariant_of-self-in-Some : goal.invariant_of-self-in-Some
invariant_of-self-in-Some c =
    known_kept c.self.inside.limit c.self.inside.map.entries c.self.invariant c.in-Some.at c.index_mut.result.now c.improve.new.entry c.index_mut.ensures.value c.if-improve.ensures.after

pub returns-in-Some-clause-added : goal.returns-in-Some-clause-added
returns-in-Some-clause-added c =
    let own : c.as_slice.result.now ≡ bytes_of c.args.canon = c.as_slice.ensures.value ∙ c.into_vec-key.ensures ∙ c.in-Ok.ensures.value in
    let same = found_state c.as_slice.result.now c.args.canon c.in-Ok.ensures.valid own c.self.inside.map.entries c.self.invariant.keyed c.in-Some.at c.index_mut.result.now c.in-Some.ensures.index c.index_mut.ensures.value in
    subst (λ (s : Stored). IsKnown s (record { canon = c.args.canon; weight = c.args.weight; from = c.args.from }) c.in-Some.at (stored c.self.inside.limit (set_value_at c.self.inside.map.entries c.in-Some.at c.improve.new.entry))) c.self.view_is
    (is_known c.self.inside.limit c.self.inside.map.entries c.self.invariant c.in-Some.at c.index_mut.result.now c.improve.new.entry c.index_mut.ensures.value c.if-improve.ensures.after
    (record { canon = c.args.canon; weight = c.args.weight; from = c.args.from }) same c.if-improve.ensures.less)

none_here : {V : Type 0} (o : Option V) → is_some {T = V} None ≡ is_some o → o ≡ None
none_here None h = refl
none_here (Some v) h = cc

pub put-requires-clause-absent : goal.put-requires-clause-absent
put-requires-clause-absent c =
    let own = c.as_slice.ensures.value ∙ c.into_vec-key.ensures ∙ c.in-Ok.ensures.value in
    subst (λ (s : Stored). Lacks s.entries c.args.canon) c.self.view_is
    (lacks_state c.as_slice.result.now c.args.canon c.in-Ok.ensures.valid own c.self.inside.map.entries c.self.invariant.keyed (none_here _ c.in-None.ensures.found))
