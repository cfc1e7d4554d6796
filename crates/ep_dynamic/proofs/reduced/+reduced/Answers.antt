use Rattle.std.proofs.Common.{◌∙◌, ◌≤◌, length, IsTrue, sym, ap, subst, rules}
use Rattle.std.proofs.lemmas.Result.{IfOk-weaker}
use Rattle.ep_logic.specs.declared.formula.Node.TheFolds.{the_lemmas}
use Rattle.ep_logic.specs.declared.formula.Node.TheVariants.{Not, And, Or, Common}
use Rattle.ep_logic.specs.Nodes.{is_formed}
use Rattle.ep_dynamic.specs.Reduction.{conjunction, reduce}
use Rattle.ep_dynamic.proofs.SizeLemmas.{reduce-True, reduce-False, reduce-Atom, reduce-Not, reduce-And, reduce-Or, reduce-Knows, reduce-Common, target_within}
use Rattle.ep_dynamic.proofs.ReducedLemmas.{parts_of_And, parts_of_Or, many_mapped}
use Rattle.ep_dynamic.proofs.reduced.+reduced.Goals as goal

pub reduced-reduced_parts-requires : goal.reduced-reduced_parts-requires
reduced-reduced_parts-requires t c = (search (rules, the_lemmas), (c.requires.event, (parts_of_And c.in-And.parts c.args.node.now c.in-And.is c.requires.formed).1))

pub reduced-all_of-requires : goal.reduced-all_of-requires
reduced-all_of-requires t c = subst (λ fs. 2 ≤ length fs) (sym c.in_ok-parts-in-And.ensures)
    (many_mapped (reduce c.args.a.now c.args.e.n) c.in-And.parts (parts_of_And c.in-And.parts c.args.node.now c.in-And.is c.requires.formed).0)

pub reduced-reduced_parts-requires-in-Or : goal.reduced-reduced_parts-requires-in-Or
reduced-reduced_parts-requires-in-Or t c = (search (rules, the_lemmas), (c.requires.event, (parts_of_Or c.in-Or.parts c.args.node.now c.in-Or.is c.requires.formed).1))

pub reduced-one_of-requires : goal.reduced-one_of-requires
reduced-one_of-requires t c = subst (λ fs. 2 ≤ length fs) (sym c.in_ok-parts-in-Or.ensures)
    (many_mapped (reduce c.args.a.now c.args.e.n) c.in-Or.parts (parts_of_Or c.in-Or.parts c.args.node.now c.in-Or.is c.requires.formed).0)

pub reduced-returns-in-True : goal.reduced-returns-in-True
reduced-returns-in-True t c = c.truth.ensures ∙ sym (reduce-True c.args.a.now c.args.e.n) ∙ ap (reduce c.args.a.now c.args.e.n) (sym c.in-True.is)

pub reduced-returns-in-False : goal.reduced-returns-in-False
reduced-returns-in-False t c = c.truth-in-False.ensures ∙ sym (reduce-False c.args.a.now c.args.e.n) ∙ ap (reduce c.args.a.now c.args.e.n) (sym c.in-False.is)

pub reduced-returns-in-Atom : goal.reduced-returns-in-Atom
reduced-returns-in-Atom t c = IfOk-weaker c.value_before.result _ _ (λ f h. h ∙ sym (reduce-Atom c.args.a.now c.args.e.n c.in-Atom.p) ∙ ap (reduce c.args.a.now c.args.e.n) (sym c.in-Atom.is)) c.value_before.ensures

pub reduced-returns-in_ok-part-in-Not : goal.reduced-returns-in_ok-part-in-Not
reduced-returns-in_ok-part-in-Not t c = IfOk-weaker c.negated.result _ _ (λ f h.
    h ∙ ap Not (c.in_ok-part-in-Not.ensures ∙ ap (reduce c.args.a.now c.args.e.n) c.get.ensures) ∙ sym (reduce-Not c.args.a.now c.args.e.n c.in-Not.inner) ∙ ap (reduce c.args.a.now c.args.e.n) (sym c.in-Not.is)) c.negated.ensures

pub reduced-returns-in_ok-parts-in-And : goal.reduced-returns-in_ok-parts-in-And
reduced-returns-in_ok-parts-in-And t c = IfOk-weaker c.all_of.result _ _ (λ f h.
    h ∙ ap And c.in_ok-parts-in-And.ensures ∙ sym (reduce-And c.args.a.now c.args.e.n c.in-And.parts) ∙ ap (reduce c.args.a.now c.args.e.n) (sym c.in-And.is)) c.all_of.ensures

pub reduced-returns-in_ok-parts-in-Or : goal.reduced-returns-in_ok-parts-in-Or
reduced-returns-in_ok-parts-in-Or t c = IfOk-weaker c.one_of.result _ _ (λ f h.
    h ∙ ap Or c.in_ok-parts-in-Or.ensures ∙ sym (reduce-Or c.args.a.now c.args.e.n c.in-Or.parts) ∙ ap (reduce c.args.a.now c.args.e.n) (sym c.in-Or.is)) c.one_of.ensures

pub reduced-returns-in_ok-parts-in-Knows : goal.reduced-returns-in_ok-parts-in-Knows
reduced-returns-in_ok-parts-in-Knows t c = IfOk-weaker c.conjoined.result _ _ (λ f h.
    h ∙ ap conjunction c.in_ok-parts-in-Knows.ensures ∙ sym (reduce-Knows c.args.a.now c.args.e.n c.in-Knows.g c.in-Knows.inner) ∙ ap (reduce c.args.a.now c.args.e.n) (sym c.in-Knows.is)) c.conjoined.ensures

pub reduced-returns-in_ok-part-in-Common : goal.reduced-returns-in_ok-part-in-Common
reduced-returns-in_ok-part-in-Common t c = IfOk-weaker c.shared.result _ _ (λ f h.
    h ∙ ap (Common c.in-Common.group) (c.in_ok-part-in-Common.ensures ∙ ap (reduce c.args.a.now c.args.e.n) c.get-in-Common.ensures) ∙ sym (reduce-Common c.args.a.now c.args.e.n c.in-Common.group c.in-Common.inner) ∙ ap (reduce c.args.a.now c.args.e.n) (sym c.in-Common.is)) c.shared.ensures

pub reduced_known-reduced-requires : goal.reduced_known-reduced-requires
reduced_known-reduced-requires t c = (
  search (rules, the_lemmas),
  (
    target_within c.args.a.now c.targets_of-d-items.ensures.action c.args.g.n c.args.e.n c.targets_of-d-items.result.now c.loop-d.d-index c.targets_of-d-items.ensures.value c.loop-d-test.true,
    subst (λ f. IsTrue (is_formed f)) (sym c.get.ensures) c.requires.formed,
  ),
)

pub reduced_known-known_of-requires-clause-event : goal.reduced_known-known_of-requires-clause-event
reduced_known-known_of-requires-clause-event t c = target_within c.args.a.now c.targets_of-d-items.ensures.action c.args.g.n c.args.e.n c.targets_of-d-items.result.now c.loop-d.d-index c.targets_of-d-items.ensures.value c.loop-d-test.true
