use Rattle.std.proofs.Common.{◌≡◌, subst, ◌∙◌, arith, inl, inr}
use Rattle.std.proofs.lemmas.Bool.{cases_lt}
use Rattle.ep_theory.specs.Kripke.{links_of, successors}
use Rattle.ep_audit.specs.Related.{Relates}
use Rattle.ep_audit.proofs.MapLemmas.{targets_within}
use Rattle.ep_audit.proofs.map.maps_world.Goals as goal

pub answers-requires-clause-from : goal.answers-requires-clause-from
answers-requires-clause-from c = λ k d b.
    let is = c.deref.ensures.value ∙ c.in_ok-read_targets.ensures.value in
    let within = targets_within c.args.s.now c.read_targets.ensures.valid c.args.w.n c.loop-n.n c.deref.result.now is k d b in
    omega (arith, within, c.requires.long)

pub answers-requires-clause-to : goal.answers-requires-clause-to
answers-requires-clause-to c = λ k d b.
    let is = c.deref-in-loop-n.ensures.value ∙ c.in_ok-read_targets-2.ensures.value in
    let within = targets_within c.args.r.now c.read_targets-in-loop-n.ensures.valid c.args.v.n c.loop-n.n c.deref-in-loop-n.result.now is k d b in
    omega (arith, within, c.worlds.ensures.value)

pub loop-n-preserved : goal.loop-n-preserved
loop-n-preserved c = λ b l.
    let m = c.args.map.now in
    let from = c.deref.ensures.value ∙ c.in_ok-read_targets.ensures.value in
    let to = c.deref-in-loop-n.ensures.value ∙ c.in_ok-read_targets-2.ensures.value in
    elim (cases_lt b c.loop-n.n) as (λ _. Relates m (successors (links_of c.args.s.now b) c.args.w.n) (successors (links_of c.args.r.now b) c.args.v.n)) [
      | inl less ↦ c.loop-n.invariant b less
      | inr ge ↦
          let same : c.loop-n.n ≡ b = omega (arith, l, ge) in
          let here = c.in_ok-answers.ensures.0 c.if-not-branch.false in
          subst (λ a. Relates m (successors (links_of c.args.s.now a) c.args.w.n) (successors (links_of c.args.r.now a) c.args.v.n)) same
          (subst (λ xs. Relates m xs (successors (links_of c.args.r.now c.loop-n.n) c.args.v.n)) from (subst (Relates m c.deref.result.now) to here))
    ]
