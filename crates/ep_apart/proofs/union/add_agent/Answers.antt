use Rattle.std.proofs.Common.{◌≡◌, suc, ◌+◌, ◌++◌, ap, ◌∙◌, arith, append_assoc, map}
use Rattle.ep_kripke.specs.Parts.{link}
use Rattle.ep_refine.proofs.CallerLemmas.{targets_within}
use Rattle.ep_apart.specs.Union.{agent_links, links_from}
use Rattle.ep_apart.proofs.union.add_agent.Goals as goal

pub add_targets-requires : goal.add_targets-requires
add_targets-requires c = λ k d l.
    let b = targets_within c.args.s.now c.in_ok-read_targets.ensures.valid c.loop-w.w c.args.agent.n c.deref.result.now (c.deref.ensures.value ∙ c.in_ok-read_targets.ensures.value) k d l in
    let r = c.requires.room in
    omega (arith, b, r)

pub loop-w-preserved : goal.loop-w-preserved
loop-w-preserved c =
    let s = c.args.s.now in
    let a = c.args.agent.n in
    let n = c.loop-w.w in
    let k = c.args.shift in
    let q : suc n ≡ n + 1 = omega arith in
    c.in_ok-add_targets.ensures
    ∙ ap (λ l. l ++ map (λ v. link a (k + n) (k + v)) c.deref.result.now) c.loop-w.invariant
    ∙ ap (λ vs. (c.args.links.now ++ agent_links s k a n) ++ map (λ v. link a (k + n) (k + v)) vs) (c.deref.ensures.value ∙ c.in_ok-read_targets.ensures.value)
    ∙ append_assoc c.args.links.now (agent_links s k a n) (links_from s k a n)
    ∙ ap (λ m. c.args.links.now ++ agent_links s k a m) q
