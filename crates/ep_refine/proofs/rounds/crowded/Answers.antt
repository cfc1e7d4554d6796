use Rattle.std.proofs.Common.{◌≡◌, ◌<◌, inl, inr, ⊎_elim, ℕ, List, length, take, take_all, get_or, subst, sym, ap, ◌∙◌, arith}
use Rattle.ep_theory.specs.Rising.{IsIn}
use Rattle.ep_refine.specs.Touching.{Listed}
use Rattle.ep_refine.specs.Rounds.{IsAlone}
use Rattle.ep_refine.proofs.TouchLemmas.{listed_none, in_take}
use Rattle.ep_refine.proofs.rounds.crowded.Goals as goal

pub loop-w-init : goal.loop-w-init
loop-w-init c = record {
  listed = listed_none c.len.result (length c.args.b.now.order.items) c.in_ok-left.left c.new-list.result.items c.in_ok-left.ensures c.new-list.ensures.items (c.len.ensures ∙ c.requires.listed.long);
  all = λ u i. absurd i;
  few = let e = ap length c.new-list.ensures.items in omega (arith, e);
}

pub loop-w-preserved : goal.loop-w-preserved
loop-w-preserved c =
    let worlds = c.args.touched.now.worlds.items in
    let i = c.loop-w.w-index in
    let e = c.deref-w-items.ensures.value in
    let l : i < length worlds = (let t = c.loop-w-test.true in let k = ap length e in omega (arith, t, k)) in
    let w = get_or c.deref-w-items.result.now i 0 in
    let done = c.in_ok-note_crowded.ensures in
    record {
      listed = subst (λ m. Listed m c.note_crowded.new.left c.note_crowded.new.list.items) c.loop-w.invariant.listed.long done.listed;
      all = λ u j. ⊎_elim
          (λ (k : IsIn u (take i worlds)). ⊎_elim (λ (m : IsIn u c.loop-w.list.items). inl (done.keeps u m)) (λ (a : IsAlone c.args.b.now u). inr a) (c.loop-w.invariant.all u k))
          (λ (q : u ≡ get_or worlds i 0).
          let p : w ≡ u = ap (λ (ws : List ℕ). get_or ws i 0) e ∙ sym q in
          ⊎_elim (λ (m : IsIn w c.note_crowded.new.list.items). inl (subst (λ v. IsIn v c.note_crowded.new.list.items) p m)) (λ (a : IsAlone c.args.b.now w). inr (subst (IsAlone c.args.b.now) p a)) done.adds)
          (in_take worlds i u l j);
      few = let a = done.few in let b = c.loop-w.invariant.few in omega (arith, a, b);
    }

pub returns-clause-all : goal.returns-clause-all
returns-clause-all c = λ u i.
    let all : take c.loop-w.w-index c.args.touched.now.worlds.items ≡ c.args.touched.now.worlds.items = take_all _ _ (let t = c.loop-w-test.false in let k = ap length c.deref-w-items.ensures.value in omega (arith, t, k)) in
    c.loop-w.invariant.all u (subst (λ (ws : List ℕ). IsIn u ws) (sym all) i)
