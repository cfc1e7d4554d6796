use Rattle.std.proofs.Common.{◌<◌, ℕ, List, length, subst, sym, arith}
use Rattle.ep_theory.specs.Kripke.{links_of}
use Rattle.ep_kripke.specs.Sources.{row_at}
use Rattle.ep_refine.specs.Groups.{IsWithin}
use Rattle.ep_refine.specs.Backward.{IsShaped, LeadsBack}
use Rattle.ep_refine.specs.Touching.{Listed, Adds, InSome}
use Rattle.ep_refine.proofs.TouchLemmas.{agent_more, first_links_none, links_of_all, rows_touched}
use Rattle.ep_refine.proofs.touching.touch.Goals as goal

pub loop-a-init : goal.loop-a-init
loop-a-init c = record {
  listed = subst (λ n. Listed n c.in_ok-touched.touched.left c.in_ok-touched.touched.worlds.items) c.worlds.ensures.value c.in_ok-touched.ensures.listed;
  adds = first_links_none c.args.s.now c.args.moved.now c.in_ok-touched.touched.worlds.items c.in_ok-touched.ensures.none;
}

pub touched_rows-requires-clause-shaped : goal.touched_rows-requires-clause-shaped
touched_rows-requires-clause-shaped c =
    let b = c.index-backward-a.result in
    let l : c.loop-a.a < length c.args.backward.now = (let o = c.requires.back.one_each in let t = c.loop-a-test.true in let v = c.agents-a-end.ensures.value in omega (arith, o, t, v)) in
    let shaped = subst (IsShaped c.args.s.now.worlds) (sym c.index-backward-a.is) (c.requires.back.shaped c.loop-a.a b l) in
    subst (λ n. IsShaped n b) (sym shaped.worlds) shaped

pub touched_rows-requires-clause-moved : goal.touched_rows-requires-clause-moved
touched_rows-requires-clause-moved c = λ k m.
    let b = c.index-backward-a.result in
    let l : c.loop-a.a < length c.args.backward.now = (let o = c.requires.back.one_each in let t = c.loop-a-test.true in let v = c.agents-a-end.ensures.value in omega (arith, o, t, v)) in
    let shaped = subst (IsShaped c.args.s.now.worlds) (sym c.index-backward-a.is) (c.requires.back.shaped c.loop-a.a b l) in
    let n = shaped.worlds in
    let w = c.requires.moved k m in
    omega (arith, n, w)

pub touch_users-requires-clause-shaped : goal.touch_users-requires-clause-shaped
touch_users-requires-clause-shaped c =
    let b = c.index-backward-a.result in
    let l : c.loop-a.a < length c.args.backward.now = (let o = c.requires.back.one_each in let t = c.loop-a-test.true in let v = c.agents-a-end.ensures.value in omega (arith, o, t, v)) in
    let shaped = subst (IsShaped c.args.s.now.worlds) (sym c.index-backward-a.is) (c.requires.back.shaped c.loop-a.a b l) in
    subst (λ n. IsShaped n b) (sym c.loop-a.invariant.listed.long) shaped

pub touch_users-requires-clause-rows : goal.touch_users-requires-clause-rows
touch_users-requires-clause-rows c =
    let b = c.index-backward-a.result in
    let l : c.loop-a.a < length c.args.backward.now = (let o = c.requires.back.one_each in let t = c.loop-a-test.true in let v = c.agents-a-end.ensures.value in omega (arith, o, t, v)) in
    let shaped = subst (IsShaped c.args.s.now.worlds) (sym c.index-backward-a.is) (c.requires.back.shaped c.loop-a.a b l) in
    subst (λ (rs : List ℕ). IsWithin b.count rs) (sym c.deref.ensures.value) (rows_touched c.args.s.now.worlds b c.args.moved.now c.in_ok-rows.rows.items shaped c.in_ok-rows.ensures)

pub loop-a-preserved : goal.loop-a-preserved
loop-a-preserved c =
    let S = c.args.s.now in
    let b = c.index-backward-a.result in
    let l : c.loop-a.a < length c.args.backward.now = (let o = c.requires.back.one_each in let t = c.loop-a-test.true in let v = c.agents-a-end.ensures.value in omega (arith, o, t, v)) in
    let leads = subst (LeadsBack (links_of S c.loop-a.a)) (sym c.index-backward-a.is) (c.requires.back.back c.loop-a.a b l) in
    record {
      listed = subst (λ n. Listed n c.touch_users.new.touched.left c.touch_users.new.touched.worlds.items) c.loop-a.invariant.listed.long c.in_ok-touch_users.ensures.listed;
      adds = agent_more S c.args.moved.now c.loop-a.a b c.in_ok-rows.rows.items c.loop-a.touched.worlds.items c.touch_users.new.touched.worlds.items leads c.in_ok-rows.ensures c.loop-a.invariant.adds
          (subst (λ (rs : List ℕ). Adds (InSome (row_at b.users) rs) c.loop-a.touched.worlds.items c.touch_users.new.touched.worlds.items) c.deref.ensures.value c.in_ok-touch_users.ensures.adds);
    }

pub returns-clause-touched : goal.returns-clause-touched
returns-clause-touched c = links_of_all c.args.s.now c.agents-a-end.ensures.valid c.args.moved.now c.loop-a.a c.loop-a.touched.worlds.items (let t = c.loop-a-test.false in let v = c.agents-a-end.ensures.value in omega (arith, t, v)) c.loop-a.invariant.adds
