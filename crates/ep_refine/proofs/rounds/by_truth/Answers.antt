use Rattle.std.proofs.Common.{◌≡◌, [], ℕ, Bool, List, length, map, subst, sym, ap, ◌∙◌, arith, refl, vec_len, Vec, Global}
use Rattle.std.specs.List.{range_with_len}
use Rattle.std.proofs.lemmas.List.{length-map}
use Rattle.ep_theory.specs.Kripke.{truth_of}
use Rattle.ep_refine.specs.declared.numbering.Keyed.{Keyed}
use Rattle.ep_refine.specs.Touching.{is_listed}
use Rattle.ep_refine.specs.Blocks.{AreBlocks, rank_of}
use Rattle.ep_refine.specs.Groups.{IsWithin, AreDistinct}
use Rattle.ep_refine.proofs.RoundLemmas.{rows_long}
use Rattle.ep_refine.proofs.RoundAll.{some_as, order_as}
use Rattle.ep_refine.proofs.StartLemmas.{map_twice, by_places, truth_place, by_truths, worlds_within, worlds_distinct, truth_suits, truth_agrees}
use Rattle.ep_refine.proofs.rounds.by_truth.Goals as goal

pub with_places-requires : goal.with_places-requires
with_places-requires c =
    let long = rows_long (λ (row : Vec Bool Global). row.items) c.args.s.now c.truth_rows.ensures.valid c.in_ok-truth_rows.field-0.items c.in_ok-truth_rows.ensures.rows in
    let few = c.truth_rows.ensures.bounded.worlds in
    let k = c.in_ok-truth_rows.field-0.ok.0 in
    omega (arith, long, few, k)

pub group_worlds-requires : goal.group_worlds-requires
group_worlds-requires c =
    let long = rows_long (λ (row : Vec Bool Global). row.items) c.args.s.now c.truth_rows.ensures.valid c.in_ok-truth_rows.field-0.items c.in_ok-truth_rows.ensures.rows in
    let few = c.truth_rows.ensures.bounded.worlds in
    let e = ap length c.in_ok-keyed.ensures.keys in
    let l = length-map c.in_ok-keyed.keyed.items (λ (x : Keyed (Vec Bool Global)). x.key) in
    let k = c.in_ok-keyed.keyed.ok.0 in
    omega (arith, long, few, e, l, k)

pub split-requires-clause-valid : goal.split-requires-clause-valid
split-requires-clause-valid c = subst (λ m. AreBlocks m c.in_ok-b.b) (sym c.in_ok-b.ensures.valid.orders) c.in_ok-b.ensures.valid

pub split-requires-clause-within : goal.split-requires-clause-within
split-requires-clause-within c =
    let S = c.args.s.now in
    let b = c.in_ok-b.b in
    let v = c.in_ok-b.ensures.valid in
    let o = v.orders in
    let s = c.truth_rows.ensures.valid in
    let mark = c.args.all.now.left in
    let rows = c.in_ok-truth_rows.field-0.items in
    let long = rows_long (λ (row : Vec Bool Global). row.items) S s rows c.in_ok-truth_rows.ensures.rows in
    let k = c.in_ok-truth_rows.field-0.ok.0 in
    let worlds_are : map (λ (x : Keyed (Vec Bool Global)). x.world) c.in_ok-keyed.keyed.items ≡ range_with_len 0 S.worlds =
    c.in_ok-keyed.ensures.worlds ∙ ap (range_with_len 0) (let q : vec_len c.in_ok-truth_rows.field-0 ≡ S.worlds = omega (arith, long, k) in q) in
    let keys_are : map (λ (x : Keyed (Vec Bool Global)). x.key.items) c.in_ok-keyed.keyed.items ≡ map (truth_of S) (range_with_len 0 S.worlds) =
    map_twice (λ (r : Vec Bool Global). r.items) (λ (x : Keyed (Vec Bool Global)). x.key) c.in_ok-keyed.keyed.items
    ∙ ap (map (λ (r : Vec Bool Global). r.items)) c.in_ok-keyed.ensures.keys ∙ c.in_ok-truth_rows.ensures.rows ∙ by_places S.truth [] S.worlds s.truths in
    let worlds = c.in_ok-worlds.field-0.worlds.items in
    let groups = c.in_ok-worlds.field-0.groups.items in
    subst (λ (l : List ℕ). IsWithin (length b.order.items) l) (sym c.deref.ensures.value) (subst (λ m. IsWithin m worlds) (sym o) (worlds_within _ (λ (x : Keyed (Vec Bool Global)). x.world) (λ x. x.key.items) (λ x y. refl) S (rank_of b) c.in_ok-b.ensures.one (is_listed mark) c.requires.all c.in_ok-keyed.keyed.items worlds_are keys_are worlds groups c.in_ok-worlds.ensures.moved c.in_ok-worlds.ensures.ordered))

pub split-requires-clause-distinct : goal.split-requires-clause-distinct
split-requires-clause-distinct c =
    let S = c.args.s.now in
    let b = c.in_ok-b.b in
    let v = c.in_ok-b.ensures.valid in
    let o = v.orders in
    let s = c.truth_rows.ensures.valid in
    let mark = c.args.all.now.left in
    let rows = c.in_ok-truth_rows.field-0.items in
    let long = rows_long (λ (row : Vec Bool Global). row.items) S s rows c.in_ok-truth_rows.ensures.rows in
    let k = c.in_ok-truth_rows.field-0.ok.0 in
    let worlds_are : map (λ (x : Keyed (Vec Bool Global)). x.world) c.in_ok-keyed.keyed.items ≡ range_with_len 0 S.worlds =
    c.in_ok-keyed.ensures.worlds ∙ ap (range_with_len 0) (let q : vec_len c.in_ok-truth_rows.field-0 ≡ S.worlds = omega (arith, long, k) in q) in
    let keys_are : map (λ (x : Keyed (Vec Bool Global)). x.key.items) c.in_ok-keyed.keyed.items ≡ map (truth_of S) (range_with_len 0 S.worlds) =
    map_twice (λ (r : Vec Bool Global). r.items) (λ (x : Keyed (Vec Bool Global)). x.key) c.in_ok-keyed.keyed.items
    ∙ ap (map (λ (r : Vec Bool Global). r.items)) c.in_ok-keyed.ensures.keys ∙ c.in_ok-truth_rows.ensures.rows ∙ by_places S.truth [] S.worlds s.truths in
    let worlds = c.in_ok-worlds.field-0.worlds.items in
    let groups = c.in_ok-worlds.field-0.groups.items in
    subst (λ (l : List ℕ). AreDistinct l) (sym c.deref.ensures.value) (worlds_distinct _ (λ (x : Keyed (Vec Bool Global)). x.world) (λ x. x.key.items) (λ x y. refl) S (rank_of b) c.in_ok-b.ensures.one (is_listed mark) c.requires.all c.in_ok-keyed.keyed.items worlds_are keys_are worlds groups c.in_ok-worlds.ensures.moved c.in_ok-worlds.ensures.ordered)

pub split-requires-clause-some : goal.split-requires-clause-some
split-requires-clause-some c =
    let S = c.args.s.now in
    let b = c.in_ok-b.b in
    let v = c.in_ok-b.ensures.valid in
    let o = v.orders in
    let s = c.truth_rows.ensures.valid in
    let mark = c.args.all.now.left in
    let rows = c.in_ok-truth_rows.field-0.items in
    let long = rows_long (λ (row : Vec Bool Global). row.items) S s rows c.in_ok-truth_rows.ensures.rows in
    let k = c.in_ok-truth_rows.field-0.ok.0 in
    let worlds_are : map (λ (x : Keyed (Vec Bool Global)). x.world) c.in_ok-keyed.keyed.items ≡ range_with_len 0 S.worlds =
    c.in_ok-keyed.ensures.worlds ∙ ap (range_with_len 0) (let q : vec_len c.in_ok-truth_rows.field-0 ≡ S.worlds = omega (arith, long, k) in q) in
    let keys_are : map (λ (x : Keyed (Vec Bool Global)). x.key.items) c.in_ok-keyed.keyed.items ≡ map (truth_of S) (range_with_len 0 S.worlds) =
    map_twice (λ (r : Vec Bool Global). r.items) (λ (x : Keyed (Vec Bool Global)). x.key) c.in_ok-keyed.keyed.items
    ∙ ap (map (λ (r : Vec Bool Global). r.items)) c.in_ok-keyed.ensures.keys ∙ c.in_ok-truth_rows.ensures.rows ∙ by_places S.truth [] S.worlds s.truths in
    let worlds = c.in_ok-worlds.field-0.worlds.items in
    let groups = c.in_ok-worlds.field-0.groups.items in
    some_as (rank_of b) (is_listed mark) (length b.order.items) S.worlds c.deref.result.now worlds c.deref-2.result.now groups o c.deref.ensures.value c.deref-2.ensures.value
    (truth_place _ (λ (x : Keyed (Vec Bool Global)). x.world) (λ x. x.key.items) (λ x y. refl) S (rank_of b) c.in_ok-b.ensures.one (is_listed mark) c.requires.all c.in_ok-keyed.keyed.items worlds_are keys_are worlds groups c.in_ok-worlds.ensures.moved c.in_ok-worlds.ensures.ordered, truth_suits _ (λ (x : Keyed (Vec Bool Global)). x.world) (λ x. x.key.items) (λ x y. refl) S (rank_of b) c.in_ok-b.ensures.one (is_listed mark) c.requires.all c.in_ok-keyed.keyed.items worlds_are keys_are worlds groups c.in_ok-worlds.ensures.moved c.in_ok-worlds.ensures.ordered, truth_agrees _ (λ (x : Keyed (Vec Bool Global)). x.world) (λ x. x.key.items) (λ x y. refl) S (rank_of b) c.in_ok-b.ensures.one (is_listed mark) c.requires.all c.in_ok-keyed.keyed.items worlds_are keys_are worlds groups c.in_ok-worlds.ensures.moved c.in_ok-worlds.ensures.ordered)

pub returns-clause-valid : goal.returns-clause-valid
returns-clause-valid c =
    let v = c.in_ok-b.ensures.valid in
    subst (λ m. AreBlocks m c.split.new.b) v.orders c.split.ensures.valid

pub returns-clause-ordered : goal.returns-clause-ordered
returns-clause-ordered c =
    let S = c.args.s.now in
    let b = c.in_ok-b.b in
    let v = c.in_ok-b.ensures.valid in
    let o = v.orders in
    let s = c.truth_rows.ensures.valid in
    let mark = c.args.all.now.left in
    let rows = c.in_ok-truth_rows.field-0.items in
    let long = rows_long (λ (row : Vec Bool Global). row.items) S s rows c.in_ok-truth_rows.ensures.rows in
    let k = c.in_ok-truth_rows.field-0.ok.0 in
    let worlds_are : map (λ (x : Keyed (Vec Bool Global)). x.world) c.in_ok-keyed.keyed.items ≡ range_with_len 0 S.worlds =
    c.in_ok-keyed.ensures.worlds ∙ ap (range_with_len 0) (let q : vec_len c.in_ok-truth_rows.field-0 ≡ S.worlds = omega (arith, long, k) in q) in
    let keys_are : map (λ (x : Keyed (Vec Bool Global)). x.key.items) c.in_ok-keyed.keyed.items ≡ map (truth_of S) (range_with_len 0 S.worlds) =
    map_twice (λ (r : Vec Bool Global). r.items) (λ (x : Keyed (Vec Bool Global)). x.key) c.in_ok-keyed.keyed.items
    ∙ ap (map (λ (r : Vec Bool Global). r.items)) c.in_ok-keyed.ensures.keys ∙ c.in_ok-truth_rows.ensures.rows ∙ by_places S.truth [] S.worlds s.truths in
    let worlds = c.in_ok-worlds.field-0.worlds.items in
    let groups = c.in_ok-worlds.field-0.groups.items in
    λ u w a e.
    order_as (rank_of b) (is_listed mark) (rank_of c.split.new.b) (length b.order.items) S.worlds c.deref.result.now worlds c.deref-2.result.now groups o c.deref.ensures.value c.deref-2.ensures.value c.split.ensures.ordered
    (truth_place _ (λ (x : Keyed (Vec Bool Global)). x.world) (λ x. x.key.items) (λ x y. refl) S (rank_of b) c.in_ok-b.ensures.one (is_listed mark) c.requires.all c.in_ok-keyed.keyed.items worlds_are keys_are worlds groups c.in_ok-worlds.ensures.moved c.in_ok-worlds.ensures.ordered) (truth_suits _ (λ (x : Keyed (Vec Bool Global)). x.world) (λ x. x.key.items) (λ x y. refl) S (rank_of b) c.in_ok-b.ensures.one (is_listed mark) c.requires.all c.in_ok-keyed.keyed.items worlds_are keys_are worlds groups c.in_ok-worlds.ensures.moved c.in_ok-worlds.ensures.ordered) (truth_agrees _ (λ (x : Keyed (Vec Bool Global)). x.world) (λ x. x.key.items) (λ x y. refl) S (rank_of b) c.in_ok-b.ensures.one (is_listed mark) c.requires.all c.in_ok-keyed.keyed.items worlds_are keys_are worlds groups c.in_ok-worlds.ensures.moved c.in_ok-worlds.ensures.ordered) u w a e
    ∙ by_truths _ (λ (x : Keyed (Vec Bool Global)). x.world) (λ x. x.key.items) (λ x y. refl) S (rank_of b) c.in_ok-b.ensures.one (is_listed mark) c.requires.all c.in_ok-keyed.keyed.items worlds_are keys_are worlds groups c.in_ok-worlds.ensures.moved c.in_ok-worlds.ensures.ordered u w a e
