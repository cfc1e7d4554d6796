use Rattle.std.proofs.Common.{List, ◌∙◌, sym, subst, length, ap, arith, map, IsPermutation}
use Rattle.std.proofs.lemmas.Cmp.{on_total}
use Rattle.std.proofs.lemmas.List.{length-map}
use Rattle.std.proofs.lemmas.List.Sorted.{IsPermutation-map, length_permutation}
use Rattle.ep_refine.specs.declared.numbering.Keyed.{Keyed}
use Rattle.ep_refine.specs.Numbering.{OrdersAs}
use Rattle.ep_refine.proofs.GroupLemmas.{grouped_is}
use Rattle.ep_refine.proofs.numbering.group_worlds.Goals as goal

pub number_places-requires-clause-few : goal.number_places-requires-clause-few
number_places-requires-clause-few g c =
    let p = length_permutation c.args.keyed.items c.sorted-sorted.result.items c.sorted-sorted.ensures.moved in
    let k = c.args.keyed.ok.0 in
    let e = ap length c.deref.ensures.value in
    let r = c.requires in
    omega (arith, p, k, e, r)

pub returns-clause-one_each : goal.returns-clause-one_each
returns-clause-one_each g c =
    c.in_ok-places.ensures.ordered.one_each ∙ ap length (c.deref.ensures.value ∙ sym c.deref-2.ensures.value) ∙ sym (ap length c.in_ok-worlds.ensures ∙ length-map c.deref-2.result.now (λ (x : Keyed g.row.K.Denot). x.world))

pub returns-clause-moved : goal.returns-clause-moved
returns-clause-moved g c = subst (IsPermutation (map (λ (x : Keyed g.row.K.Denot). x.world) c.args.keyed.items)) (sym (c.in_ok-worlds.ensures ∙ ap (map (λ (x : Keyed g.row.K.Denot). x.world)) c.deref-2.ensures.value))
    (IsPermutation-map (λ (x : Keyed g.row.K.Denot). x.world) c.args.keyed.items c.sorted-sorted.result.items c.sorted-sorted.ensures.moved)

pub returns-clause-ordered : goal.returns-clause-ordered
returns-clause-ordered g c = λ f orders.
    grouped_is (λ (x y : Keyed g.row.K.Denot). g.K.Ord.cmp x.key y.key) (on_total (λ (x : Keyed g.row.K.Denot). x.key) g.met.K.Ord.total) (λ x. x.world) c.args.keyed.items c.sorted-sorted.result.items
    c.sorted-sorted.ensures.moved c.sorted-sorted.ensures.sorted c.in_ok-places.places.numbers.items c.in_ok-worlds.worlds.items
    (subst (λ (l : List (Keyed g.row.K.Denot)). OrdersAs (λ x y. g.K.Ord.cmp x.key y.key) l c.in_ok-places.places.numbers.items) c.deref.ensures.value c.in_ok-places.ensures.ordered)
    (c.in_ok-worlds.ensures ∙ ap (map (λ (x : Keyed g.row.K.Denot). x.world)) c.deref-2.ensures.value) f orders
