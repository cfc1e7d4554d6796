use Rattle.std.proofs.Common.{◌≡◌, [], ℕ, List, take, take_all, get_or, subst, sym, arith, refl}
use Rattle.ep_kripke.specs.Sources.{row_at}
use Rattle.ep_refine.specs.Touching.{Adds, InSome}
use Rattle.ep_refine.proofs.TouchLemmas.{listed_none, some_none, some_more, taken_as}
use Rattle.ep_refine.proofs.touching.touched_rows.Goals as goal

pub loop-v-init : goal.loop-v-init
loop-v-init c = record {
  listed = listed_none c.args.back.now.count c.args.back.now.count c.in_ok-left.left c.new-rows.result.items c.in_ok-left.ensures c.new-rows.ensures.items refl;
  adds = subst (λ (zs : List ℕ). Adds (InSome (row_at c.args.back.now.holders) (take 0 c.args.moved.now)) [] zs) (sym c.new-rows.ensures.items) (some_none (row_at c.args.back.now.holders) c.args.moved.now []);
}

pub take_out-requires-clause-world : goal.take_out-requires-clause-world
take_out-requires-clause-world c = c.requires.moved c.loop-v.v-index c.loop-v-test.true

pub take_out-requires-clause-within : goal.take_out-requires-clause-within
take_out-requires-clause-within c = λ r i. let l = c.loop-v.invariant.listed.long in let b = c.requires.shaped.rows_within (get_or c.args.moved.now c.loop-v.v-index 0) r i in omega (arith, l, b)

pub loop-v-preserved : goal.loop-v-preserved
loop-v-preserved c =
    let v = get_or c.args.moved.now c.loop-v.v-index 0 in
    let t = taken_as c.args.back.now.count (row_at c.args.back.now.holders v) c.loop-v.left c.loop-v.rows.items c.take_out.new.row c.take_out.new.waiting.items
    (c.requires.shaped.rows_within v) c.loop-v.invariant.listed c.in_ok-take_out.ensures.row c.in_ok-take_out.ensures.waiting in
    record {
      listed = t.0;
      adds = some_more (row_at c.args.back.now.holders) c.args.moved.now c.loop-v.v-index [] c.loop-v.rows.items c.take_out.new.waiting.items c.loop-v-test.true c.loop-v.invariant.adds t.1;
    }

pub returns : goal.returns
returns c =
    let all : take c.loop-v.v-index c.args.moved.now ≡ c.args.moved.now = take_all _ _ c.loop-v-test.false in
    subst (λ (vs : List ℕ). Adds (InSome (row_at c.args.back.now.holders) vs) [] c.loop-v.rows.items) all c.loop-v.invariant.adds
