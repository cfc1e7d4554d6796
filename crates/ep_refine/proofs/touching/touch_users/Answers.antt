use Rattle.std.proofs.Common.{◌≡◌, ℕ, List, length, take, take_all, get_or, subst, arith}
use Rattle.ep_kripke.specs.Sources.{row_at}
use Rattle.ep_refine.specs.Touching.{Adds, InSome}
use Rattle.ep_refine.proofs.TouchLemmas.{some_none, some_more, taken_as}
use Rattle.ep_refine.proofs.touching.touch_users.Goals as goal

pub loop-r-init : goal.loop-r-init
loop-r-init c = record {
  listed = c.requires.listed;
  adds = some_none (row_at c.args.back.now.users) c.args.rows.now c.args.touched.now.worlds.items;
}

pub take_out-requires-clause-world : goal.take_out-requires-clause-world
take_out-requires-clause-world c = let a = c.requires.rows c.loop-r.r-index c.loop-r-test.true in let b = c.requires.shaped.rows in omega (arith, a, b)

pub take_out-requires-clause-within : goal.take_out-requires-clause-within
take_out-requires-clause-within c = λ w i. let l = c.loop-r.invariant.listed.long in let b = c.requires.shaped.worlds_within (get_or c.args.rows.now c.loop-r.r-index 0) w i in omega (arith, l, b)

pub loop-r-preserved : goal.loop-r-preserved
loop-r-preserved c =
    let r = get_or c.args.rows.now c.loop-r.r-index 0 in
    let t = taken_as (length c.args.touched.now.left) (row_at c.args.back.now.users r) c.loop-r.touched.left c.loop-r.touched.worlds.items c.take_out.new.row c.take_out.new.waiting.items
    (c.requires.shaped.worlds_within r) c.loop-r.invariant.listed c.in_ok-take_out.ensures.row c.in_ok-take_out.ensures.waiting in
    record {
      listed = t.0;
      adds = some_more (row_at c.args.back.now.users) c.args.rows.now c.loop-r.r-index c.args.touched.now.worlds.items c.loop-r.touched.worlds.items c.take_out.new.waiting.items c.loop-r-test.true c.loop-r.invariant.adds t.1;
    }

pub returns-clause-adds : goal.returns-clause-adds
returns-clause-adds c =
    let all : take c.loop-r.r-index c.args.rows.now ≡ c.args.rows.now = take_all _ _ c.loop-r-test.false in
    subst (λ (rs : List ℕ). Adds (InSome (row_at c.args.back.now.users) rs) c.args.touched.now.worlds.items c.loop-r.touched.worlds.items) all c.loop-r.invariant.adds
