use Rattle.std.proofs.Common.{◌≡◌, ℕ, List, ◌∙◌, sym, subst, length, ap, arith, vec_len, IsPermutation}
use Rattle.std.specs.List.{range_with_len}
use Rattle.ep_refine.specs.declared.numbering.Keyed.{Keyed}
use Rattle.ep_refine.specs.Numbering.{OrdersAs, AreNumbers}
use Rattle.ep_refine.proofs.PlacesLemmas.{distinct, within, found_ordered, found_used}
use Rattle.ep_refine.proofs.numbering.number.Goals as goal

pub by_world-requires-clause-distinct : goal.by_world-requires-clause-distinct
by_world-requires-clause-distinct g c =
    let long : vec_len c.args.keys ≡ length c.args.keys.items = (let k = c.args.keys.ok.0 in omega (arith, k)) in
    distinct (λ (x : Keyed g.row.K.Denot). x.key) (λ x. x.world) c.args.keys.items c.in_ok-sorted.sorted.items c.deref-2.result.now
    c.in_ok-sorted.ensures.keys (c.in_ok-sorted.ensures.worlds ∙ ap (range_with_len 0) long)
    (subst (IsPermutation c.in_ok-sorted.sorted.items) (sym c.deref-2.ensures.value) c.sort_unstable.ensures.permutation)

pub by_world-requires-clause-within : goal.by_world-requires-clause-within
by_world-requires-clause-within g c =
    let long : vec_len c.args.keys ≡ length c.args.keys.items = (let k = c.args.keys.ok.0 in omega (arith, k)) in
    within (λ (x : Keyed g.row.K.Denot). x.key) (λ x. x.world) c.args.keys.items c.in_ok-sorted.sorted.items c.deref-2.result.now
    c.in_ok-sorted.ensures.keys (c.in_ok-sorted.ensures.worlds ∙ ap (range_with_len 0) long)
    (subst (IsPermutation c.in_ok-sorted.sorted.items) (sym c.deref-2.ensures.value) c.sort_unstable.ensures.permutation)

pub returns-clause-dense : goal.returns-clause-dense
returns-clause-dense g c =
    let long : vec_len c.args.keys ≡ length c.args.keys.items = (let k = c.args.keys.ok.0 in omega (arith, k)) in
    found_used (λ (x : Keyed g.row.K.Denot). x.key) (λ x. x.world) c.args.keys.items c.in_ok-sorted.sorted.items c.deref-2.result.now
    c.in_ok-sorted.ensures.keys (c.in_ok-sorted.ensures.worlds ∙ ap (range_with_len 0) long)
    (subst (IsPermutation c.in_ok-sorted.sorted.items) (sym c.deref-2.ensures.value) c.sort_unstable.ensures.permutation)
    g.K.Ord.cmp c.in_ok-numbers.numbers.items c.deref-3.result.now c.in_ok-places.places.count
    c.in_ok-numbers.ensures.long c.in_ok-numbers.ensures.same
    (subst (OrdersAs (λ (x y : Keyed g.row.K.Denot). g.K.Ord.cmp x.key y.key) c.deref-2.result.now) (sym c.deref-3.ensures.value)
    (subst (λ (l : List (Keyed g.row.K.Denot)). OrdersAs (λ x y. g.K.Ord.cmp x.key y.key) l c.in_ok-places.places.numbers.items) (c.deref.ensures.value ∙ sym c.deref-2.ensures.value) c.in_ok-places.ensures.ordered))
    (subst (λ (l : List ℕ). AreNumbers l c.in_ok-places.places.count) (sym c.deref-3.ensures.value) c.in_ok-places.ensures.dense)

pub returns-clause-ordered : goal.returns-clause-ordered
returns-clause-ordered g c =
    let long : vec_len c.args.keys ≡ length c.args.keys.items = (let k = c.args.keys.ok.0 in omega (arith, k)) in
    found_ordered (λ (x : Keyed g.row.K.Denot). x.key) (λ x. x.world) c.args.keys.items c.in_ok-sorted.sorted.items c.deref-2.result.now
    c.in_ok-sorted.ensures.keys (c.in_ok-sorted.ensures.worlds ∙ ap (range_with_len 0) long)
    (subst (IsPermutation c.in_ok-sorted.sorted.items) (sym c.deref-2.ensures.value) c.sort_unstable.ensures.permutation)
    g.K.Ord.cmp c.in_ok-numbers.numbers.items c.deref-3.result.now c.in_ok-places.places.count
    c.in_ok-numbers.ensures.long c.in_ok-numbers.ensures.same
    (subst (OrdersAs (λ (x y : Keyed g.row.K.Denot). g.K.Ord.cmp x.key y.key) c.deref-2.result.now) (sym c.deref-3.ensures.value)
    (subst (λ (l : List (Keyed g.row.K.Denot)). OrdersAs (λ x y. g.K.Ord.cmp x.key y.key) l c.in_ok-places.places.numbers.items) (c.deref.ensures.value ∙ sym c.deref-2.ensures.value) c.in_ok-places.ensures.ordered))
    (subst (λ (l : List ℕ). AreNumbers l c.in_ok-places.places.count) (sym c.deref-3.ensures.value) c.in_ok-places.ensures.dense)
