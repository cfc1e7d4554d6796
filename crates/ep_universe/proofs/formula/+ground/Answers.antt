use Rattle.std.proofs.Common.{◌≡◌, ℕ, length, map, rules, arith, sym, ap, ◌∙◌, subst}
use Rattle.ep_logic.specs.declared.formula.Node.TheVariants as node
use Rattle.ep_binding.specs.Bindings.{bindings}
use Rattle.ep_tree.specs.declared.tree.FormulaTree.TheFolds.{the_lemmas}
use Rattle.ep_universe.specs.Objects.{agent_at, candidates}
use Rattle.ep_universe.specs.Formulas.{ground_of, conjunction, disjunction, instances}
use Rattle.ep_universe.specs.Sizes.{IsBuildable, AreBuildable, IsRepeatable, IsMakeable}
use Rattle.ep_universe.proofs.GroundLemmas.{small-Not, small-Knows, small-Common, small-Paren, small-Forall, small-Exists, small-And, small-Or, small-instance, some-member, makeable-Not, makeable-Knows, makeable-Common, makeable-Forall, makeable-Exists, makeable-And, makeable-Or, length-instances, length-And, length-Or, ground-parts-And, ground-parts-Or, given}
use Rattle.ep_universe.proofs.TreeLemmas.{ground-True, ground-False, ground-Atom, ground-Not, ground-Knows, ground-Common, ground-Forall, ground-Exists, ground-Equal, ground-Paren}
use Rattle.ep_universe.proofs.formula.+ground.Goals as goal

pub ground_form-ground_form-requires : goal.ground_form-ground_form-requires
ground_form-ground_form-requires t c =
    let d = c.args.universe.now.names in
    let b = c.args.binding.now in
    let small = subst (IsBuildable d) c.in-Not.is c.requires in
    (search (rules, the_lemmas), subst (IsBuildable d) (sym c.get.ensures) (small-Not d c.in-Not.token c.in-Not.inner small))

pub ground_form-ground_form-requires-in-Knows : goal.ground_form-ground_form-requires-in-Knows
ground_form-ground_form-requires-in-Knows t c =
    let d = c.args.universe.now.names in
    let b = c.args.binding.now in
    let small = subst (IsBuildable d) c.in-Knows.is c.requires in
    (search (rules, the_lemmas), subst (IsBuildable d) (sym c.get-in-Knows.ensures) (small-Knows d c.in-Knows.token c.in-Knows.agent c.in-Knows.inner small))

pub ground_form-ground_form-requires-in-Common : goal.ground_form-ground_form-requires-in-Common
ground_form-ground_form-requires-in-Common t c =
    let d = c.args.universe.now.names in
    let b = c.args.binding.now in
    let small = subst (IsBuildable d) c.in-Common.is c.requires in
    (search (rules, the_lemmas), subst (IsBuildable d) (sym c.get-in-Common.ensures) (small-Common d c.in-Common.token c.in-Common.group c.in-Common.inner small))

pub ground_form-ground_form-requires-in-Paren : goal.ground_form-ground_form-requires-in-Paren
ground_form-ground_form-requires-in-Paren t c =
    let d = c.args.universe.now.names in
    let b = c.args.binding.now in
    let small = subst (IsBuildable d) c.in-Paren.is c.requires in
    (search (rules, the_lemmas), subst (IsBuildable d) (sym c.get-in-Paren.ensures) (small-Paren d c.in-Paren.token c.in-Paren.inner small))

pub ground_form-negation-requires : goal.ground_form-negation-requires
ground_form-negation-requires t c =
    let d = c.args.universe.now.names in
    let b = c.args.binding.now in
    let small = subst (IsBuildable d) c.in-Not.is c.requires in
    let was : c.in_ok-f-in-Not.f ≡ ground_of d c.in-Not.inner b = c.in_ok-f-in-Not.ensures ∙ ap (λ z. ground_of d z b) c.get.ensures in
    subst IsMakeable (ap node.Not (sym was)) (makeable-Not d b c.in-Not.token c.in-Not.inner small)

pub ground_form-knowledge-requires-clause-shape : goal.ground_form-knowledge-requires-clause-shape
ground_form-knowledge-requires-clause-shape t c =
    let d = c.args.universe.now.names in
    let b = c.args.binding.now in
    let small = subst (IsBuildable d) c.in-Knows.is c.requires in
    let was : c.in_ok-f-in-Knows.f ≡ ground_of d c.in-Knows.inner b = c.in_ok-f-in-Knows.ensures ∙ ap (λ z. ground_of d z b) c.get-in-Knows.ensures in
    let n : c.agent_at.result.n ≡ agent_at d b c.in-Knows.agent = c.agent_at.ensures.value in
    subst IsMakeable (λ i. node.Knows (record { n = sym n i }) (sym was i)) (makeable-Knows d b c.in-Knows.token c.in-Knows.agent c.in-Knows.inner small)

pub ground_form-common_knowledge-requires-clause-some_member : goal.ground_form-common_knowledge-requires-clause-some_member
ground_form-common_knowledge-requires-clause-some_member t c =
    let d = c.args.universe.now.names in
    let b = c.args.binding.now in
    let small = subst (IsBuildable d) c.in-Common.is c.requires in
    c.group_of.ensures.some (some-member d c.in-Common.token c.in-Common.group c.in-Common.inner small)

pub ground_form-common_knowledge-requires-clause-shape : goal.ground_form-common_knowledge-requires-clause-shape
ground_form-common_knowledge-requires-clause-shape t c =
    let d = c.args.universe.now.names in
    let b = c.args.binding.now in
    let small = subst (IsBuildable d) c.in-Common.is c.requires in
    let was : c.in_ok-f-in-Common.f ≡ ground_of d c.in-Common.inner b = c.in_ok-f-in-Common.ensures ∙ ap (λ z. ground_of d z b) c.get-in-Common.ensures in
    subst IsMakeable (λ i. node.Common (sym c.group_of.ensures.value i) (sym was i)) (makeable-Common d b c.in-Common.token c.in-Common.group c.in-Common.inner small)

pub ground_form-ground_instances-requires : goal.ground_form-ground_instances-requires
ground_form-ground_instances-requires t c =
    let d = c.args.universe.now.names in
    let b = c.args.binding.now in
    let small = subst (IsBuildable d) c.in-Forall.is c.requires in
    (search (rules, the_lemmas), subst (λ ps. IsRepeatable d ps c.get-in-Forall.result.now) (sym c.as_slice.ensures) (subst (IsRepeatable d c.in-Forall.params) (sym c.get-in-Forall.ensures) (small-Forall d c.in-Forall.token c.in-Forall.params c.in-Forall.inner small)))

pub ground_form-conjunction-requires-clause-fits : goal.ground_form-conjunction-requires-clause-fits
ground_form-conjunction-requires-clause-fits t c =
    let d = c.args.universe.now.names in
    let b = c.args.binding.now in
    let small = subst (IsBuildable d) c.in-Forall.is c.requires in
    let was : c.in_ok-fs-in-Forall.fs ≡ instances d (ground_of d c.in-Forall.inner) b c.in-Forall.params = c.in_ok-fs-in-Forall.ensures ∙ (λ i. instances d (ground_of d (c.get-in-Forall.ensures i)) b (c.as_slice.ensures i)) in
    let few = length-instances d b c.in-Forall.params c.in-Forall.inner (small-Forall d c.in-Forall.token c.in-Forall.params c.in-Forall.inner small) in
    let e = ap length was in
    omega (arith, few, e)

pub ground_form-conjunction-requires-clause-shape : goal.ground_form-conjunction-requires-clause-shape
ground_form-conjunction-requires-clause-shape t c =
    let d = c.args.universe.now.names in
    let b = c.args.binding.now in
    let small = subst (IsBuildable d) c.in-Forall.is c.requires in
    let was : c.in_ok-fs-in-Forall.fs ≡ instances d (ground_of d c.in-Forall.inner) b c.in-Forall.params = c.in_ok-fs-in-Forall.ensures ∙ (λ i. instances d (ground_of d (c.get-in-Forall.ensures i)) b (c.as_slice.ensures i)) in
    subst IsMakeable (ap conjunction (sym was)) (makeable-Forall d b c.in-Forall.token c.in-Forall.params c.in-Forall.inner small)

pub ground_form-ground_instances-requires-in-Exists : goal.ground_form-ground_instances-requires-in-Exists
ground_form-ground_instances-requires-in-Exists t c =
    let d = c.args.universe.now.names in
    let b = c.args.binding.now in
    let small = subst (IsBuildable d) c.in-Exists.is c.requires in
    (search (rules, the_lemmas), subst (λ ps. IsRepeatable d ps c.get-in-Exists.result.now) (sym c.as_slice-in-Exists.ensures) (subst (IsRepeatable d c.in-Exists.params) (sym c.get-in-Exists.ensures) (small-Exists d c.in-Exists.token c.in-Exists.params c.in-Exists.inner small)))

pub ground_form-disjunction-requires-clause-fits : goal.ground_form-disjunction-requires-clause-fits
ground_form-disjunction-requires-clause-fits t c =
    let d = c.args.universe.now.names in
    let b = c.args.binding.now in
    let small = subst (IsBuildable d) c.in-Exists.is c.requires in
    let was : c.in_ok-fs-in-Exists.fs ≡ instances d (ground_of d c.in-Exists.inner) b c.in-Exists.params = c.in_ok-fs-in-Exists.ensures ∙ (λ i. instances d (ground_of d (c.get-in-Exists.ensures i)) b (c.as_slice-in-Exists.ensures i)) in
    let few = length-instances d b c.in-Exists.params c.in-Exists.inner (small-Exists d c.in-Exists.token c.in-Exists.params c.in-Exists.inner small) in
    let e = ap length was in
    omega (arith, few, e)

pub ground_form-disjunction-requires-clause-shape : goal.ground_form-disjunction-requires-clause-shape
ground_form-disjunction-requires-clause-shape t c =
    let d = c.args.universe.now.names in
    let b = c.args.binding.now in
    let small = subst (IsBuildable d) c.in-Exists.is c.requires in
    let was : c.in_ok-fs-in-Exists.fs ≡ instances d (ground_of d c.in-Exists.inner) b c.in-Exists.params = c.in_ok-fs-in-Exists.ensures ∙ (λ i. instances d (ground_of d (c.get-in-Exists.ensures i)) b (c.as_slice-in-Exists.ensures i)) in
    subst IsMakeable (ap disjunction (sym was)) (makeable-Exists d b c.in-Exists.token c.in-Exists.params c.in-Exists.inner small)

pub ground_form-ground_parts-requires : goal.ground_form-ground_parts-requires
ground_form-ground_parts-requires t c =
    let d = c.args.universe.now.names in
    let b = c.args.binding.now in
    let small = subst (IsBuildable d) c.in-And.is c.requires in
    (search (rules, the_lemmas), subst (AreBuildable d) (sym c.as_slice-in-And.ensures) (small-And d c.in-And.token c.in-And.parts small))

pub ground_form-conjunction-requires-in-And-clause-fits : goal.ground_form-conjunction-requires-in-And-clause-fits
ground_form-conjunction-requires-in-And-clause-fits t c =
    let d = c.args.universe.now.names in
    let b = c.args.binding.now in
    let small = subst (IsBuildable d) c.in-And.is c.requires in
    let was : c.in_ok-fs-in-And.fs ≡ map (λ f. ground_of d f b) c.in-And.parts = c.in_ok-fs-in-And.ensures ∙ ap (map (λ f. ground_of d f b)) c.as_slice-in-And.ensures in
    let few = length-And d b c.in-And.token c.in-And.parts small in
    let e = ap length was in
    omega (arith, few, e)

pub ground_form-conjunction-requires-in-And-clause-shape : goal.ground_form-conjunction-requires-in-And-clause-shape
ground_form-conjunction-requires-in-And-clause-shape t c =
    let d = c.args.universe.now.names in
    let b = c.args.binding.now in
    let small = subst (IsBuildable d) c.in-And.is c.requires in
    let was : c.in_ok-fs-in-And.fs ≡ map (λ f. ground_of d f b) c.in-And.parts = c.in_ok-fs-in-And.ensures ∙ ap (map (λ f. ground_of d f b)) c.as_slice-in-And.ensures in
    subst IsMakeable (ap conjunction (sym was)) (makeable-And d b c.in-And.token c.in-And.parts small)

pub ground_form-ground_parts-requires-in-Or : goal.ground_form-ground_parts-requires-in-Or
ground_form-ground_parts-requires-in-Or t c =
    let d = c.args.universe.now.names in
    let b = c.args.binding.now in
    let small = subst (IsBuildable d) c.in-Or.is c.requires in
    (search (rules, the_lemmas), subst (AreBuildable d) (sym c.as_slice-in-Or.ensures) (small-Or d c.in-Or.token c.in-Or.parts small))

pub ground_form-disjunction-requires-in-Or-clause-fits : goal.ground_form-disjunction-requires-in-Or-clause-fits
ground_form-disjunction-requires-in-Or-clause-fits t c =
    let d = c.args.universe.now.names in
    let b = c.args.binding.now in
    let small = subst (IsBuildable d) c.in-Or.is c.requires in
    let was : c.in_ok-fs-in-Or.fs ≡ map (λ f. ground_of d f b) c.in-Or.parts = c.in_ok-fs-in-Or.ensures ∙ ap (map (λ f. ground_of d f b)) c.as_slice-in-Or.ensures in
    let few = length-Or d b c.in-Or.token c.in-Or.parts small in
    let e = ap length was in
    omega (arith, few, e)

pub ground_form-disjunction-requires-in-Or-clause-shape : goal.ground_form-disjunction-requires-in-Or-clause-shape
ground_form-disjunction-requires-in-Or-clause-shape t c =
    let d = c.args.universe.now.names in
    let b = c.args.binding.now in
    let small = subst (IsBuildable d) c.in-Or.is c.requires in
    let was : c.in_ok-fs-in-Or.fs ≡ map (λ f. ground_of d f b) c.in-Or.parts = c.in_ok-fs-in-Or.ensures ∙ ap (map (λ f. ground_of d f b)) c.as_slice-in-Or.ensures in
    subst IsMakeable (ap disjunction (sym was)) (makeable-Or d b c.in-Or.token c.in-Or.parts small)

pub ground_form-returns-in-True : goal.ground_form-returns-in-True
ground_form-returns-in-True t c =
    let d = c.args.universe.now.names in
    let b = c.args.binding.now in
    c.truth.ensures ∙ sym (ground-True d b c.in-True.token) ∙ ap (λ z. ground_of d z b) (sym c.in-True.is)

pub ground_form-returns-in-False : goal.ground_form-returns-in-False
ground_form-returns-in-False t c =
    let d = c.args.universe.now.names in
    let b = c.args.binding.now in
    c.truth-in-False.ensures ∙ sym (ground-False d b c.in-False.token) ∙ ap (λ z. ground_of d z b) (sym c.in-False.is)

pub ground_form-returns-in_ok-atom_at-in-Atom : goal.ground_form-returns-in_ok-atom_at-in-Atom
ground_form-returns-in_ok-atom_at-in-Atom t c =
    let d = c.args.universe.now.names in
    let b = c.args.binding.now in
    c.atom.ensures ∙ ap (λ (n : ℕ). node.Atom (record { n = n })) c.in_ok-atom_at-in-Atom.ensures ∙ sym (ground-Atom d b c.in-Atom.atom) ∙ ap (λ z. ground_of d z b) (sym c.in-Atom.is)

pub ground_form-returns-in_ok-f-in-Not : goal.ground_form-returns-in_ok-f-in-Not
ground_form-returns-in_ok-f-in-Not t c =
    let d = c.args.universe.now.names in
    let b = c.args.binding.now in
    let was : c.in_ok-f-in-Not.f ≡ ground_of d c.in-Not.inner b = c.in_ok-f-in-Not.ensures ∙ ap (λ z. ground_of d z b) c.get.ensures in
    given c.negation.result _ _ (ap node.Not was ∙ sym (ground-Not d b c.in-Not.token c.in-Not.inner) ∙ ap (λ z. ground_of d z b) (sym c.in-Not.is)) c.negation.ensures

pub ground_form-returns-in_ok-f-in-Knows : goal.ground_form-returns-in_ok-f-in-Knows
ground_form-returns-in_ok-f-in-Knows t c =
    let d = c.args.universe.now.names in
    let b = c.args.binding.now in
    let was : c.in_ok-f-in-Knows.f ≡ ground_of d c.in-Knows.inner b = c.in_ok-f-in-Knows.ensures ∙ ap (λ z. ground_of d z b) c.get-in-Knows.ensures in
    given c.knowledge.result _ _ ((λ i. node.Knows (record { n = c.agent_at.ensures.value i }) (was i)) ∙ sym (ground-Knows d b c.in-Knows.token c.in-Knows.agent c.in-Knows.inner) ∙ ap (λ z. ground_of d z b) (sym c.in-Knows.is)) c.knowledge.ensures

pub ground_form-returns-in_ok-f-in-Common : goal.ground_form-returns-in_ok-f-in-Common
ground_form-returns-in_ok-f-in-Common t c =
    let d = c.args.universe.now.names in
    let b = c.args.binding.now in
    let was : c.in_ok-f-in-Common.f ≡ ground_of d c.in-Common.inner b = c.in_ok-f-in-Common.ensures ∙ ap (λ z. ground_of d z b) c.get-in-Common.ensures in
    given c.common_knowledge.result _ _ ((λ i. node.Common (c.group_of.ensures.value i) (was i)) ∙ sym (ground-Common d b c.in-Common.token c.in-Common.group c.in-Common.inner) ∙ ap (λ z. ground_of d z b) (sym c.in-Common.is)) c.common_knowledge.ensures

pub ground_form-returns-in_ok-fs-in-Forall : goal.ground_form-returns-in_ok-fs-in-Forall
ground_form-returns-in_ok-fs-in-Forall t c =
    let d = c.args.universe.now.names in
    let b = c.args.binding.now in
    let was : c.in_ok-fs-in-Forall.fs ≡ instances d (ground_of d c.in-Forall.inner) b c.in-Forall.params = c.in_ok-fs-in-Forall.ensures ∙ (λ i. instances d (ground_of d (c.get-in-Forall.ensures i)) b (c.as_slice.ensures i)) in
    given c.conjunction.result _ _ (ap conjunction was ∙ sym (ground-Forall d b c.in-Forall.token c.in-Forall.params c.in-Forall.inner) ∙ ap (λ z. ground_of d z b) (sym c.in-Forall.is)) c.conjunction.ensures

pub ground_form-returns-in_ok-fs-in-Exists : goal.ground_form-returns-in_ok-fs-in-Exists
ground_form-returns-in_ok-fs-in-Exists t c =
    let d = c.args.universe.now.names in
    let b = c.args.binding.now in
    let was : c.in_ok-fs-in-Exists.fs ≡ instances d (ground_of d c.in-Exists.inner) b c.in-Exists.params = c.in_ok-fs-in-Exists.ensures ∙ (λ i. instances d (ground_of d (c.get-in-Exists.ensures i)) b (c.as_slice-in-Exists.ensures i)) in
    given c.disjunction.result _ _ (ap disjunction was ∙ sym (ground-Exists d b c.in-Exists.token c.in-Exists.params c.in-Exists.inner) ∙ ap (λ z. ground_of d z b) (sym c.in-Exists.is)) c.disjunction.ensures

pub ground_form-returns-in_ok-fs-in-And : goal.ground_form-returns-in_ok-fs-in-And
ground_form-returns-in_ok-fs-in-And t c =
    let d = c.args.universe.now.names in
    let b = c.args.binding.now in
    let small = subst (IsBuildable d) c.in-And.is c.requires in
    let was : c.in_ok-fs-in-And.fs ≡ map (λ f. ground_of d f b) c.in-And.parts = c.in_ok-fs-in-And.ensures ∙ ap (map (λ f. ground_of d f b)) c.as_slice-in-And.ensures in
    given c.conjunction-in-And.result _ _ (ap conjunction was ∙ ground-parts-And d b c.in-And.token c.in-And.parts small ∙ ap (λ z. ground_of d z b) (sym c.in-And.is)) c.conjunction-in-And.ensures

pub ground_form-returns-in_ok-fs-in-Or : goal.ground_form-returns-in_ok-fs-in-Or
ground_form-returns-in_ok-fs-in-Or t c =
    let d = c.args.universe.now.names in
    let b = c.args.binding.now in
    let small = subst (IsBuildable d) c.in-Or.is c.requires in
    let was : c.in_ok-fs-in-Or.fs ≡ map (λ f. ground_of d f b) c.in-Or.parts = c.in_ok-fs-in-Or.ensures ∙ ap (map (λ f. ground_of d f b)) c.as_slice-in-Or.ensures in
    given c.disjunction-in-Or.result _ _ (ap disjunction was ∙ ground-parts-Or d b c.in-Or.token c.in-Or.parts small ∙ ap (λ z. ground_of d z b) (sym c.in-Or.is)) c.disjunction-in-Or.ensures

pub ground_form-returns-in-Paren : goal.ground_form-returns-in-Paren
ground_form-returns-in-Paren t c =
    let d = c.args.universe.now.names in
    let b = c.args.binding.now in
    given c.ground_form-in-Paren.result _ _ (ap (λ z. ground_of d z b) c.get-in-Paren.ensures ∙ sym (ground-Paren d b c.in-Paren.token c.in-Paren.inner) ∙ ap (λ z. ground_of d z b) (sym c.in-Paren.is)) c.ground_form-in-Paren.ensures

pub ground_form-returns-in-Equal : goal.ground_form-returns-in-Equal
ground_form-returns-in-Equal t c =
    let d = c.args.universe.now.names in
    let b = c.args.binding.now in
    c.equality.ensures ∙ sym (ground-Equal d b c.in-Equal.token c.in-Equal.left c.in-Equal.right) ∙ ap (λ z. ground_of d z b) (sym c.in-Equal.is)

pub ground_instances-ground_form-requires : goal.ground_instances-ground_form-requires
ground_instances-ground_form-requires t c =
    let d = c.args.universe.now.names in
    let ps = c.args.params.now in
    let items : c.as_slice-objects-items.result.now ≡ bindings (candidates d ps) =
    c.as_slice-objects-items.ensures ∙ c.in_ok-bindings.ensures ∙ ap bindings (c.as_slice.ensures ∙ c.in_ok-candidates.ensures.value) in
    let long = ap length items in
    (search (rules, the_lemmas), small-instance d ps c.args.inner.now c.loop-objects.objects-index c.requires (omega (arith, long)))
