use Rattle.std.proofs.Common.{◌≡◌, ◌<◌, ◌≤◌, ◌++◌, ℕ, List, length, map, slice_index, get_or, subst, sym, ap, ap₂, ◌∙◌, arith, IsPermutation}
use Rattle.ep_theory.specs.Ranks.{signature}
use Rattle.ep_theory.proofs.CallerLemmas.{IsIn-at}
use Rattle.ep_refine.specs.declared.signing.Key.{Key}
use Rattle.ep_refine.specs.declared.numbering.Keyed.{Keyed}
use Rattle.ep_refine.specs.Signing.{key_cmp, KeysOrder}
use Rattle.ep_refine.specs.Touching.{is_listed, Listed}
use Rattle.ep_refine.specs.Blocks.{AreBlocks, rank_of, start_of, end_of}
use Rattle.ep_refine.specs.Groups.{IsWithin, AreDistinct}
use Rattle.ep_refine.specs.Rounds.{AreRests, IsSpan, AreLeft}
use Rattle.std.proofs.lemmas.List.{length-map}
use Rattle.ep_theory.specs.Rising.{IsIn}
use Rattle.ep_refine.proofs.RoundFacts.{all_within, all_distinct, spans_closed, few_worlds, moved_within, moved_distinct}
use Rattle.ep_refine.proofs.KeyLemmas.{signed_orders}
use Rattle.ep_refine.proofs.RestLemmas.{rest_crowded}
use Rattle.ep_refine.proofs.RoundAll.{some_suits, whole_round, some_as, order_as, twice, at_most_all}
use Rattle.ep_refine.proofs.rounds.round.Goals as goal

pub sign_these-requires-clause-within : goal.sign_these-requires-clause-within
sign_these-requires-clause-within g c =
    let S = c.args.s.now in
    let b = c.args.b.now in
    let row = c.in_ok-touched.touched.left in
    let ws = c.in_ok-touched.touched.worlds.items in
    let o = c.requires.valid.orders in
    let rests = c.in_ok-rests.field-0.worlds.items in
    let listed = subst (λ m. Listed m row ws) o c.in_ok-touched.ensures.listed in
    let are = subst (λ m. AreRests m b row ws rests) o c.in_ok-rests.ensures.rests in
    let d2 : c.deref-2.result.now ≡ rests = c.deref-2.ensures.value in
    let joined : c.in_ok-worlds.worlds.items ≡ ws ++ rests = c.in_ok-worlds.ensures ∙ ap₂ (λ x y. x ++ y) c.deref.ensures.value d2 in
    let d4 : c.deref-4.result.now ≡ ws ++ rests = c.deref-4.ensures.value ∙ joined in
    subst (λ (l : List ℕ). IsWithin S.worlds l) (sym d4) (all_within S.worlds b row ws rests listed are)

pub split-requires-clause-within : goal.split-requires-clause-within
split-requires-clause-within g c =
    let S = c.args.s.now in
    let b = c.args.b.now in
    let row = c.in_ok-touched.touched.left in
    let ws = c.in_ok-touched.touched.worlds.items in
    let o = c.requires.valid.orders in
    let rests = c.in_ok-rests.field-0.worlds.items in
    let listed = subst (λ m. Listed m row ws) o c.in_ok-touched.ensures.listed in
    let are = subst (λ m. AreRests m b row ws rests) o c.in_ok-rests.ensures.rests in
    let d2 : c.deref-2.result.now ≡ rests = c.deref-2.ensures.value in
    let joined : c.in_ok-worlds.worlds.items ≡ ws ++ rests = c.in_ok-worlds.ensures ∙ ap₂ (λ x y. x ++ y) c.deref.ensures.value d2 in
    let d4 : c.deref-4.result.now ≡ ws ++ rests = c.deref-4.ensures.value ∙ joined in
    let worlds_are : map (λ (x : Keyed Key). x.world) c.in_ok-signed.signed.items ≡ ws ++ rests = c.in_ok-signed.ensures.worlds ∙ d4 in
    let orders = signed_orders S (rank_of b) c.in_ok-signed.signed.items (ws ++ rests) worlds_are
    (subst (λ (r : List ℕ). KeysOrder (signature S (slice_index r)) c.in_ok-signed.signed.items) c.deref-3.ensures.value c.in_ok-signed.ensures.keys) (all_within S.worlds b row ws rests listed are) in
    let worlds = c.in_ok-worlds-2.field-0.worlds.items in
    let groups = c.in_ok-worlds-2.field-0.groups.items in
    let moved = c.in_ok-worlds-2.ensures.moved in
    let placed = subst (λ (l : List ℕ). IsPermutation l worlds) worlds_are moved in
    let d5 : c.deref-5.result.now ≡ worlds = c.deref-5.ensures.value in
    let d6 : c.deref-6.result.now ≡ groups = c.deref-6.ensures.value in
    subst (λ (l : List ℕ). IsWithin (length b.order.items) l) (sym d5) (subst (λ m. IsWithin m worlds) (sym o) (moved_within S.worlds (ws ++ rests) worlds placed (all_within S.worlds b row ws rests listed are)))

pub split-requires-clause-distinct : goal.split-requires-clause-distinct
split-requires-clause-distinct g c =
    let S = c.args.s.now in
    let b = c.args.b.now in
    let row = c.in_ok-touched.touched.left in
    let ws = c.in_ok-touched.touched.worlds.items in
    let o = c.requires.valid.orders in
    let rests = c.in_ok-rests.field-0.worlds.items in
    let listed = subst (λ m. Listed m row ws) o c.in_ok-touched.ensures.listed in
    let are = subst (λ m. AreRests m b row ws rests) o c.in_ok-rests.ensures.rests in
    let d2 : c.deref-2.result.now ≡ rests = c.deref-2.ensures.value in
    let joined : c.in_ok-worlds.worlds.items ≡ ws ++ rests = c.in_ok-worlds.ensures ∙ ap₂ (λ x y. x ++ y) c.deref.ensures.value d2 in
    let d4 : c.deref-4.result.now ≡ ws ++ rests = c.deref-4.ensures.value ∙ joined in
    let worlds_are : map (λ (x : Keyed Key). x.world) c.in_ok-signed.signed.items ≡ ws ++ rests = c.in_ok-signed.ensures.worlds ∙ d4 in
    let orders = signed_orders S (rank_of b) c.in_ok-signed.signed.items (ws ++ rests) worlds_are
    (subst (λ (r : List ℕ). KeysOrder (signature S (slice_index r)) c.in_ok-signed.signed.items) c.deref-3.ensures.value c.in_ok-signed.ensures.keys) (all_within S.worlds b row ws rests listed are) in
    let worlds = c.in_ok-worlds-2.field-0.worlds.items in
    let groups = c.in_ok-worlds-2.field-0.groups.items in
    let moved = c.in_ok-worlds-2.ensures.moved in
    let placed = subst (λ (l : List ℕ). IsPermutation l worlds) worlds_are moved in
    let d5 : c.deref-5.result.now ≡ worlds = c.deref-5.ensures.value in
    let d6 : c.deref-6.result.now ≡ groups = c.deref-6.ensures.value in
    subst (λ (l : List ℕ). AreDistinct l) (sym d5) (moved_distinct (ws ++ rests) worlds placed (all_distinct S.worlds b row ws rests listed are))

pub split-requires-clause-some : goal.split-requires-clause-some
split-requires-clause-some g c =
    let S = c.args.s.now in
    let b = c.args.b.now in
    let row = c.in_ok-touched.touched.left in
    let ws = c.in_ok-touched.touched.worlds.items in
    let o = c.requires.valid.orders in
    let rests = c.in_ok-rests.field-0.worlds.items in
    let listed = subst (λ m. Listed m row ws) o c.in_ok-touched.ensures.listed in
    let are = subst (λ m. AreRests m b row ws rests) o c.in_ok-rests.ensures.rests in
    let d2 : c.deref-2.result.now ≡ rests = c.deref-2.ensures.value in
    let joined : c.in_ok-worlds.worlds.items ≡ ws ++ rests = c.in_ok-worlds.ensures ∙ ap₂ (λ x y. x ++ y) c.deref.ensures.value d2 in
    let d4 : c.deref-4.result.now ≡ ws ++ rests = c.deref-4.ensures.value ∙ joined in
    let worlds_are : map (λ (x : Keyed Key). x.world) c.in_ok-signed.signed.items ≡ ws ++ rests = c.in_ok-signed.ensures.worlds ∙ d4 in
    let orders = signed_orders S (rank_of b) c.in_ok-signed.signed.items (ws ++ rests) worlds_are
    (subst (λ (r : List ℕ). KeysOrder (signature S (slice_index r)) c.in_ok-signed.signed.items) c.deref-3.ensures.value c.in_ok-signed.ensures.keys) (all_within S.worlds b row ws rests listed are) in
    let worlds = c.in_ok-worlds-2.field-0.worlds.items in
    let groups = c.in_ok-worlds-2.field-0.groups.items in
    let moved = c.in_ok-worlds-2.ensures.moved in
    let placed = subst (λ (l : List ℕ). IsPermutation l worlds) worlds_are moved in
    let d5 : c.deref-5.result.now ≡ worlds = c.deref-5.ensures.value in
    let d6 : c.deref-6.result.now ≡ groups = c.deref-6.ensures.value in
    some_as (rank_of b) (is_listed row) (length b.order.items) S.worlds c.deref-5.result.now worlds c.deref-6.result.now groups o d5 d6
    (some_suits (λ (x y : Keyed Key). key_cmp x.key y.key) (λ (x : Keyed Key). x.world) S c.requires.state b row ws rests listed are (rest_crowded S b c.args.touched.now.left c.args.touched.now.worlds.items row ws c.requires.valid c.requires.listed listed c.in_ok-touched.ensures.all c.requires.rest)
    c.in_ok-signed.signed.items worlds_are orders worlds groups moved c.in_ok-worlds-2.ensures.ordered)

pub leave-requires-clause-spans : goal.leave-requires-clause-spans
leave-requires-clause-spans g c =
    let S = c.args.s.now in
    let b = c.args.b.now in
    let row = c.in_ok-touched.touched.left in
    let ws = c.in_ok-touched.touched.worlds.items in
    let o = c.requires.valid.orders in
    let rests = c.in_ok-rests.field-0.worlds.items in
    let listed = subst (λ m. Listed m row ws) o c.in_ok-touched.ensures.listed in
    let are = subst (λ m. AreRests m b row ws rests) o c.in_ok-rests.ensures.rests in
    let d2 : c.deref-2.result.now ≡ rests = c.deref-2.ensures.value in
    let joined : c.in_ok-worlds.worlds.items ≡ ws ++ rests = c.in_ok-worlds.ensures ∙ ap₂ (λ x y. x ++ y) c.deref.ensures.value d2 in
    let v1 = subst (λ m. AreBlocks m c.split.new.b) o c.split.ensures.valid in
    let from : (u : ℕ) → u < S.worlds → start_of b u ≤ start_of c.split.new.b u = (λ u l. c.split.ensures.from u (omega (arith, l, o))) in
    let to : (u : ℕ) → u < S.worlds → end_of c.split.new.b u ≤ end_of b u = (λ u l. c.split.ensures.to u (omega (arith, l, o))) in
    let spans = c.in_ok-rests.field-0.spans.items in
    let d7 : c.deref-7.result.now ≡ spans = c.deref-7.ensures.value in
    λ k l.
    let are_spans = c.in_ok-rests.ensures.spans in
    let s = spans_closed S c.requires.state b c.split.new.b c.requires.valid v1 from to row ws listed spans are_spans in
    subst (λ m. IsSpan m c.split.new.b (get_or c.deref-7.result.now k (0, 0))) (sym v1.orders)
    (s (get_or c.deref-7.result.now k (0, 0)) (subst (λ (x : List (ℕ × ℕ)). IsIn (get_or c.deref-7.result.now k (0, 0)) x) d7 (IsIn-at c.deref-7.result.now k (0, 0) l)))

pub returns-clause-round : goal.returns-clause-round
returns-clause-round g c =
    let S = c.args.s.now in
    let b = c.args.b.now in
    let row = c.in_ok-touched.touched.left in
    let ws = c.in_ok-touched.touched.worlds.items in
    let o = c.requires.valid.orders in
    let rests = c.in_ok-rests.field-0.worlds.items in
    let listed = subst (λ m. Listed m row ws) o c.in_ok-touched.ensures.listed in
    let are = subst (λ m. AreRests m b row ws rests) o c.in_ok-rests.ensures.rests in
    let d2 : c.deref-2.result.now ≡ rests = c.deref-2.ensures.value in
    let joined : c.in_ok-worlds.worlds.items ≡ ws ++ rests = c.in_ok-worlds.ensures ∙ ap₂ (λ x y. x ++ y) c.deref.ensures.value d2 in
    let d4 : c.deref-4.result.now ≡ ws ++ rests = c.deref-4.ensures.value ∙ joined in
    let worlds_are : map (λ (x : Keyed Key). x.world) c.in_ok-signed.signed.items ≡ ws ++ rests = c.in_ok-signed.ensures.worlds ∙ d4 in
    let orders = signed_orders S (rank_of b) c.in_ok-signed.signed.items (ws ++ rests) worlds_are
    (subst (λ (r : List ℕ). KeysOrder (signature S (slice_index r)) c.in_ok-signed.signed.items) c.deref-3.ensures.value c.in_ok-signed.ensures.keys) (all_within S.worlds b row ws rests listed are) in
    let worlds = c.in_ok-worlds-2.field-0.worlds.items in
    let groups = c.in_ok-worlds-2.field-0.groups.items in
    let moved = c.in_ok-worlds-2.ensures.moved in
    let placed = subst (λ (l : List ℕ). IsPermutation l worlds) worlds_are moved in
    let d5 : c.deref-5.result.now ≡ worlds = c.deref-5.ensures.value in
    let d6 : c.deref-6.result.now ≡ groups = c.deref-6.ensures.value in
    let v1 = subst (λ m. AreBlocks m c.split.new.b) o c.split.ensures.valid in
    let from : (u : ℕ) → u < S.worlds → start_of b u ≤ start_of c.split.new.b u = (λ u l. c.split.ensures.from u (omega (arith, l, o))) in
    let to : (u : ℕ) → u < S.worlds → end_of c.split.new.b u ≤ end_of b u = (λ u l. c.split.ensures.to u (omega (arith, l, o))) in
    let spans = c.in_ok-rests.field-0.spans.items in
    let d7 : c.deref-7.result.now ≡ spans = c.deref-7.ensures.value in
    let long = v1.orders in
    whole_round (λ (x y : Keyed Key). key_cmp x.key y.key) (λ (x : Keyed Key). x.world) S c.requires.state b row ws rests listed are (rest_crowded S b c.args.touched.now.left c.args.touched.now.worlds.items row ws c.requires.valid c.requires.listed listed c.in_ok-touched.ensures.all c.requires.rest)
    c.in_ok-signed.signed.items worlds_are orders worlds groups moved c.in_ok-worlds-2.ensures.ordered
    c.split.new.b c.requires.valid v1 from to
    (order_as (rank_of b) (is_listed row) (rank_of c.split.new.b) (length b.order.items) S.worlds c.deref-5.result.now worlds c.deref-6.result.now groups o d5 d6 c.split.ensures.ordered)
    spans c.in_ok-rests.ensures.spans c.in_ok-moved.moved.items
    (subst (λ m. IsWithin m c.in_ok-moved.moved.items) long c.in_ok-moved.ensures.within) c.in_ok-moved.ensures.distinct
    (subst (λ (x : List (ℕ × ℕ)). AreLeft c.split.new.b x c.in_ok-moved.moved.items) d7 c.in_ok-moved.ensures.left)

pub returns-clause-few : goal.returns-clause-few
returns-clause-few g c =
    let S = c.args.s.now in
    let b = c.args.b.now in
    let row = c.in_ok-touched.touched.left in
    let ws = c.in_ok-touched.touched.worlds.items in
    let o = c.requires.valid.orders in
    let rests = c.in_ok-rests.field-0.worlds.items in
    let listed = subst (λ m. Listed m row ws) o c.in_ok-touched.ensures.listed in
    let are = subst (λ m. AreRests m b row ws rests) o c.in_ok-rests.ensures.rests in
    let d2 : c.deref-2.result.now ≡ rests = c.deref-2.ensures.value in
    let joined : c.in_ok-worlds.worlds.items ≡ ws ++ rests = c.in_ok-worlds.ensures ∙ ap₂ (λ x y. x ++ y) c.deref.ensures.value d2 in
    let d4 : c.deref-4.result.now ≡ ws ++ rests = c.deref-4.ensures.value ∙ joined in
    let t = twice S.worlds b row ws rests c.deref-4.result.now listed are d4 c.in_ok-rests.ensures.few c.args.steps.now c.sign_these.new.steps c.sign_these.ensures.few in
    let l = c.in_ok-touched.ensures.few in
    omega (arith, t, l)

pub returns-clause-all : goal.returns-clause-all
returns-clause-all g c =
    let S = c.args.s.now in
    let b = c.args.b.now in
    let row = c.in_ok-touched.touched.left in
    let ws = c.in_ok-touched.touched.worlds.items in
    let o = c.requires.valid.orders in
    let rests = c.in_ok-rests.field-0.worlds.items in
    let listed = subst (λ m. Listed m row ws) o c.in_ok-touched.ensures.listed in
    let are = subst (λ m. AreRests m b row ws rests) o c.in_ok-rests.ensures.rests in
    let d2 : c.deref-2.result.now ≡ rests = c.deref-2.ensures.value in
    let joined : c.in_ok-worlds.worlds.items ≡ ws ++ rests = c.in_ok-worlds.ensures ∙ ap₂ (λ x y. x ++ y) c.deref.ensures.value d2 in
    let d4 : c.deref-4.result.now ≡ ws ++ rests = c.deref-4.ensures.value ∙ joined in
    at_most_all S.worlds b row ws rests c.deref-4.result.now listed are d4 c.args.steps.now c.sign_these.new.steps c.sign_these.ensures.few

pub returns-in_err-signed-clause-few : goal.returns-in_err-signed-clause-few
returns-in_err-signed-clause-few g c =
    let S = c.args.s.now in
    let b = c.args.b.now in
    let row = c.in_ok-touched.touched.left in
    let ws = c.in_ok-touched.touched.worlds.items in
    let o = c.requires.valid.orders in
    let rests = c.in_ok-rests.field-0.worlds.items in
    let listed = subst (λ m. Listed m row ws) o c.in_ok-touched.ensures.listed in
    let are = subst (λ m. AreRests m b row ws rests) o c.in_ok-rests.ensures.rests in
    let d2 : c.deref-2.result.now ≡ rests = c.deref-2.ensures.value in
    let joined : c.in_ok-worlds.worlds.items ≡ ws ++ rests = c.in_ok-worlds.ensures ∙ ap₂ (λ x y. x ++ y) c.deref.ensures.value d2 in
    let d4 : c.deref-4.result.now ≡ ws ++ rests = c.deref-4.ensures.value ∙ joined in
    let t = twice S.worlds b row ws rests c.deref-4.result.now listed are d4 c.in_ok-rests.ensures.few c.args.steps.now c.sign_these.new.steps c.sign_these.ensures.few in
    let l = c.in_ok-touched.ensures.few in
    omega (arith, t, l)

pub returns-in_err-signed-clause-all : goal.returns-in_err-signed-clause-all
returns-in_err-signed-clause-all g c =
    let S = c.args.s.now in
    let b = c.args.b.now in
    let row = c.in_ok-touched.touched.left in
    let ws = c.in_ok-touched.touched.worlds.items in
    let o = c.requires.valid.orders in
    let rests = c.in_ok-rests.field-0.worlds.items in
    let listed = subst (λ m. Listed m row ws) o c.in_ok-touched.ensures.listed in
    let are = subst (λ m. AreRests m b row ws rests) o c.in_ok-rests.ensures.rests in
    let d2 : c.deref-2.result.now ≡ rests = c.deref-2.ensures.value in
    let joined : c.in_ok-worlds.worlds.items ≡ ws ++ rests = c.in_ok-worlds.ensures ∙ ap₂ (λ x y. x ++ y) c.deref.ensures.value d2 in
    let d4 : c.deref-4.result.now ≡ ws ++ rests = c.deref-4.ensures.value ∙ joined in
    at_most_all S.worlds b row ws rests c.deref-4.result.now listed are d4 c.args.steps.now c.sign_these.new.steps c.sign_these.ensures.few

pub returns-in_err-worlds-2-clause-few : goal.returns-in_err-worlds-2-clause-few
returns-in_err-worlds-2-clause-few g c =
    let S = c.args.s.now in
    let b = c.args.b.now in
    let row = c.in_ok-touched.touched.left in
    let ws = c.in_ok-touched.touched.worlds.items in
    let o = c.requires.valid.orders in
    let rests = c.in_ok-rests.field-0.worlds.items in
    let listed = subst (λ m. Listed m row ws) o c.in_ok-touched.ensures.listed in
    let are = subst (λ m. AreRests m b row ws rests) o c.in_ok-rests.ensures.rests in
    let d2 : c.deref-2.result.now ≡ rests = c.deref-2.ensures.value in
    let joined : c.in_ok-worlds.worlds.items ≡ ws ++ rests = c.in_ok-worlds.ensures ∙ ap₂ (λ x y. x ++ y) c.deref.ensures.value d2 in
    let d4 : c.deref-4.result.now ≡ ws ++ rests = c.deref-4.ensures.value ∙ joined in
    let t = twice S.worlds b row ws rests c.deref-4.result.now listed are d4 c.in_ok-rests.ensures.few c.args.steps.now c.sign_these.new.steps c.sign_these.ensures.few in
    let l = c.in_ok-touched.ensures.few in
    omega (arith, t, l)

pub returns-in_err-worlds-2-clause-all : goal.returns-in_err-worlds-2-clause-all
returns-in_err-worlds-2-clause-all g c =
    let S = c.args.s.now in
    let b = c.args.b.now in
    let row = c.in_ok-touched.touched.left in
    let ws = c.in_ok-touched.touched.worlds.items in
    let o = c.requires.valid.orders in
    let rests = c.in_ok-rests.field-0.worlds.items in
    let listed = subst (λ m. Listed m row ws) o c.in_ok-touched.ensures.listed in
    let are = subst (λ m. AreRests m b row ws rests) o c.in_ok-rests.ensures.rests in
    let d2 : c.deref-2.result.now ≡ rests = c.deref-2.ensures.value in
    let joined : c.in_ok-worlds.worlds.items ≡ ws ++ rests = c.in_ok-worlds.ensures ∙ ap₂ (λ x y. x ++ y) c.deref.ensures.value d2 in
    let d4 : c.deref-4.result.now ≡ ws ++ rests = c.deref-4.ensures.value ∙ joined in
    at_most_all S.worlds b row ws rests c.deref-4.result.now listed are d4 c.args.steps.now c.sign_these.new.steps c.sign_these.ensures.few

pub returns-in_err-moved-clause-few : goal.returns-in_err-moved-clause-few
returns-in_err-moved-clause-few g c =
    let S = c.args.s.now in
    let b = c.args.b.now in
    let row = c.in_ok-touched.touched.left in
    let ws = c.in_ok-touched.touched.worlds.items in
    let o = c.requires.valid.orders in
    let rests = c.in_ok-rests.field-0.worlds.items in
    let listed = subst (λ m. Listed m row ws) o c.in_ok-touched.ensures.listed in
    let are = subst (λ m. AreRests m b row ws rests) o c.in_ok-rests.ensures.rests in
    let d2 : c.deref-2.result.now ≡ rests = c.deref-2.ensures.value in
    let joined : c.in_ok-worlds.worlds.items ≡ ws ++ rests = c.in_ok-worlds.ensures ∙ ap₂ (λ x y. x ++ y) c.deref.ensures.value d2 in
    let d4 : c.deref-4.result.now ≡ ws ++ rests = c.deref-4.ensures.value ∙ joined in
    let t = twice S.worlds b row ws rests c.deref-4.result.now listed are d4 c.in_ok-rests.ensures.few c.args.steps.now c.sign_these.new.steps c.sign_these.ensures.few in
    let l = c.in_ok-touched.ensures.few in
    omega (arith, t, l)

pub returns-in_err-moved-clause-all : goal.returns-in_err-moved-clause-all
returns-in_err-moved-clause-all g c =
    let S = c.args.s.now in
    let b = c.args.b.now in
    let row = c.in_ok-touched.touched.left in
    let ws = c.in_ok-touched.touched.worlds.items in
    let o = c.requires.valid.orders in
    let rests = c.in_ok-rests.field-0.worlds.items in
    let listed = subst (λ m. Listed m row ws) o c.in_ok-touched.ensures.listed in
    let are = subst (λ m. AreRests m b row ws rests) o c.in_ok-rests.ensures.rests in
    let d2 : c.deref-2.result.now ≡ rests = c.deref-2.ensures.value in
    let joined : c.in_ok-worlds.worlds.items ≡ ws ++ rests = c.in_ok-worlds.ensures ∙ ap₂ (λ x y. x ++ y) c.deref.ensures.value d2 in
    let d4 : c.deref-4.result.now ≡ ws ++ rests = c.deref-4.ensures.value ∙ joined in
    at_most_all S.worlds b row ws rests c.deref-4.result.now listed are d4 c.args.steps.now c.sign_these.new.steps c.sign_these.ensures.few

pub group_worlds-requires : goal.group_worlds-requires
group_worlds-requires g c =
    let S = c.args.s.now in
    let b = c.args.b.now in
    let row = c.in_ok-touched.touched.left in
    let ws = c.in_ok-touched.touched.worlds.items in
    let o = c.requires.valid.orders in
    let rests = c.in_ok-rests.field-0.worlds.items in
    let listed = subst (λ m. Listed m row ws) o c.in_ok-touched.ensures.listed in
    let are = subst (λ m. AreRests m b row ws rests) o c.in_ok-rests.ensures.rests in
    let d2 : c.deref-2.result.now ≡ rests = c.deref-2.ensures.value in
    let joined : c.in_ok-worlds.worlds.items ≡ ws ++ rests = c.in_ok-worlds.ensures ∙ ap₂ (λ x y. x ++ y) c.deref.ensures.value d2 in
    let d4 : c.deref-4.result.now ≡ ws ++ rests = c.deref-4.ensures.value ∙ joined in
    let e = ap length (c.in_ok-signed.ensures.worlds ∙ d4) in
    let l = length-map c.in_ok-signed.signed.items (λ (x : Keyed Key). x.world) in
    let w = few_worlds S.worlds (ws ++ rests) (all_within S.worlds b row ws rests listed are) (all_distinct S.worlds b row ws rests listed are) in
    let f = c.requires.valid.few in
    let k = c.in_ok-signed.signed.ok.0 in
    omega (arith, e, l, w, f, k)

pub sign_these-requires-clause-few : goal.sign_these-requires-clause-few
sign_these-requires-clause-few g c =
    let S = c.args.s.now in
    let b = c.args.b.now in
    let row = c.in_ok-touched.touched.left in
    let ws = c.in_ok-touched.touched.worlds.items in
    let o = c.requires.valid.orders in
    let rests = c.in_ok-rests.field-0.worlds.items in
    let listed = subst (λ m. Listed m row ws) o c.in_ok-touched.ensures.listed in
    let are = subst (λ m. AreRests m b row ws rests) o c.in_ok-rests.ensures.rests in
    let d2 : c.deref-2.result.now ≡ rests = c.deref-2.ensures.value in
    let joined : c.in_ok-worlds.worlds.items ≡ ws ++ rests = c.in_ok-worlds.ensures ∙ ap₂ (λ x y. x ++ y) c.deref.ensures.value d2 in
    let d4 : c.deref-4.result.now ≡ ws ++ rests = c.deref-4.ensures.value ∙ joined in
    let e = ap length d4 in
    let w = few_worlds S.worlds (ws ++ rests) (all_within S.worlds b row ws rests listed are) (all_distinct S.worlds b row ws rests listed are) in
    let f = c.requires.valid.few in
    omega (arith, e, w, f)
