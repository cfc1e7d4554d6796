use Rattle.std.proofs.Common.{◌∙◌, ◌==◌, ℕ, ◌∷◌, map, take, get_or, ap}
use Rattle.std.specs.List.{find}
use Rattle.ep_logic.specs.declared.formula.Node.{Node}
use Rattle.ep_theory.specs.Events.{event_at}
use Rattle.ep_dynamic.specs.Composition.{assigned_atoms, events_in_turn, value_in_turn}
use Rattle.ep_dynamic.specs.ComposeAnswers.{greatest_size}
use Rattle.ep_dynamic.proofs.ReducedLemmas.{taken}
use Rattle.ep_dynamic.proofs.GreatestLemmas.{greatest_more, values_more, seconds}
use Rattle.ep_dynamic.proofs.greatest.greatest.Goals as goal

pub loop-p-preserved : goal.loop-p-preserved
loop-p-preserved c =
    let value : ℕ → Node = λ p. value_in_turn c.args.a.now c.args.at.0 p (find (λ set. set.0 == p) (event_at c.args.b.now c.args.at.1).sets) in
    let first : Node = (events_in_turn c.args.a.now c.args.b.now c.args.at).pre in
    let ps = c.as_slice-p-items.result.now in
    let i = c.loop-p.p-index in
    c.greater-size.ensures ∙ greatest_more (first ∷ map value (take i ps)) (value (get_or ps i 0)) c.loop-p.size c.in_ok-next.next c.loop-p.invariant c.in_ok-next.ensures
    ∙ ap greatest_size (values_more first value ps i c.loop-p-test.true)

pub returns : goal.returns
returns c =
    let value : ℕ → Node = λ p. value_in_turn c.args.a.now c.args.at.0 p (find (λ set. set.0 == p) (event_at c.args.b.now c.args.at.1).sets) in
    let first : Node = (events_in_turn c.args.a.now c.args.b.now c.args.at).pre in
    let ps = c.as_slice-p-items.result.now in
    let i = c.loop-p.p-index in
    let atoms = assigned_atoms (event_at c.args.a.now c.args.at.0) (event_at c.args.b.now c.args.at.1) in
    c.loop-p.invariant ∙ ap greatest_size (ap (λ ps. first ∷ map value ps) (taken ps i c.loop-p-test.false ∙ c.as_slice-p-items.ensures ∙ c.in_ok-atoms.ensures) ∙ ap (λ fs. first ∷ fs) (seconds value atoms))
