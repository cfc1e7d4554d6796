use Rattle.std.proofs.Common.{◌≡◌, [], ◌∷◌, ◌++◌, ◌<◌, sym, subst, arith, inl, refl, rules}
use Rattle.ep_theory.specs.Rising.{IsIn}
use Rattle.ep_theory.proofs.CallerLemmas.{in_right}
use Rattle.ep_kripke.specs.Sources.{row_at}
use Rattle.ep_kripke.specs.Taking.{without, taken}
use Rattle.ep_truth.proofs.CommonLemmas.{IsSpreading, spreading_none, spreading_more, spreading_all, weight, weight_falls, source_within}
use Rattle.ep_truth.proofs.common.walk_back.Goals as goal

pub loop-v-init : goal.loop-v-init
loop-v-init c = spreading_none c.args.s.now c.in_ok-sources.ensures.valid c.args.group.now c.args.inner.now c.in_ok-good.good c.in_ok-waiting.waiting.items c.requires.long
    c.in_ok-good.ensures c.in_ok-waiting.ensures

pub take_out-requires-clause-world : goal.take_out-requires-clause-world
take_out-requires-clause-world c =
    let s = c.args.s.now in
    let last : c.in-Some.v < s.worlds = (c.loop-v.invariant.out c.in-Some.v (subst (IsIn c.in-Some.v) (sym c.in-Some.ensures.items) (in_right c.in-Some.v c.pop.new.self.items (c.in-Some.v ∷ []) (inl refl)))).0 in
    omega (arith, c.in_ok-sources.ensures.long, last)

pub take_out-requires-clause-within : goal.take_out-requires-clause-within
take_out-requires-clause-within c =
    let s = c.args.s.now in
    let last : c.in-Some.v < s.worlds = (c.loop-v.invariant.out c.in-Some.v (subst (IsIn c.in-Some.v) (sym c.in-Some.ensures.items) (in_right c.in-Some.v c.pop.new.self.items (c.in-Some.v ∷ []) (inl refl)))).0 in
    λ w i. omega (arith, c.loop-v.invariant.long, source_within s c.in_ok-sources.ensures.valid c.args.group.now c.args.inner.now c.in_ok-sources.sources c.in_ok-sources.ensures.back w c.in-Some.v last i)

pub loop-v-smaller : goal.loop-v-smaller
loop-v-smaller c =
    let ws = row_at c.in_ok-sources.sources c.in-Some.v in
    let good = c.loop-v.good in
    let rest = c.pop.new.self.items in
    subst (λ r. weight r c.take_out.new.waiting.items < weight good c.loop-v.waiting.items) (sym c.in_ok-take_out.ensures.row)
    (subst (λ q. weight (without ws good) q < weight good c.loop-v.waiting.items) (sym c.in_ok-take_out.ensures.waiting)
    (subst (λ q. weight (without ws good) (rest ++ taken ws good) < weight good q) (sym c.in-Some.ensures.items) (weight_falls ws rest c.in-Some.v good)))

pub loop-v-preserved : goal.loop-v-preserved
loop-v-preserved c =
    let s = c.args.s.now in
    let g = c.args.group.now in
    let inner = c.args.inner.now in
    let ws = row_at c.in_ok-sources.sources c.in-Some.v in
    let good = c.loop-v.good in
    let rest = c.pop.new.self.items in
    subst (λ r. IsSpreading s g inner r c.take_out.new.waiting.items) (sym c.in_ok-take_out.ensures.row)
    (subst (IsSpreading s g inner (without ws good)) (sym c.in_ok-take_out.ensures.waiting)
    (spreading_more s c.in_ok-sources.ensures.valid g inner c.in_ok-sources.sources good rest c.in-Some.v c.in_ok-sources.ensures.back
    (subst (IsSpreading s g inner good) c.in-Some.ensures.items c.loop-v.invariant)))

pub returns-clause-each : goal.returns-clause-each
returns-clause-each c =
    let none : c.loop-v.waiting.items ≡ [] = search rules in
    λ w l. spreading_all c.args.s.now c.in_ok-sources.ensures.valid c.args.group.now c.args.inner.now c.loop-v.good c.loop-v.waiting.items none c.loop-v.invariant w
