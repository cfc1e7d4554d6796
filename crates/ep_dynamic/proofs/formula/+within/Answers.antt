use Rattle.std.proofs.Common.{◌-◌, nat_le, true, sym, ap, ◌∙◌}
use Rattle.ep_dynamic.specs.declared.node.DynNode.TheVariants.{True, False, Atom, Not, And, Or, Knows, Common, After}
use Rattle.ep_dynamic.specs.Depths.{dynamic_depth}
use Rattle.ep_dynamic.proofs.DepthLemmas.{never_within, within_step, within-True, within-False, within-Atom, within-Not, within-And, within-Or, within-Knows, within-Common, within-After}
use Rattle.ep_dynamic.proofs.formula.+within.Goals as goal

pub is_within-returns-then-depth-eq0 : goal.is_within-returns-then-depth-eq0
is_within-returns-then-depth-eq0 t c = sym (never_within c.args.node.now) ∙ ap (λ d. nat_le (dynamic_depth c.args.node.now) d) (sym c.if-depth-eq0.true)

pub is_within-returns-in-True : goal.is_within-returns-in-True
is_within-returns-in-True t c = within_step c.args.node.now True c.args.depth true c.in-True.is c.if-depth-eq0.false (sym (within-True (c.args.depth - 1)))

pub is_within-returns-in-False : goal.is_within-returns-in-False
is_within-returns-in-False t c = within_step c.args.node.now False c.args.depth true c.in-False.is c.if-depth-eq0.false (sym (within-False (c.args.depth - 1)))

pub is_within-returns-in-Atom : goal.is_within-returns-in-Atom
is_within-returns-in-Atom t c = within_step c.args.node.now (Atom c.in-Atom.field-0) c.args.depth true c.in-Atom.is c.if-depth-eq0.false (sym (within-Atom c.in-Atom.field-0 (c.args.depth - 1)))

pub is_within-returns-in-Not : goal.is_within-returns-in-Not
is_within-returns-in-Not t c = within_step c.args.node.now (Not c.in-Not.inner) c.args.depth c.is_within.result c.in-Not.is c.if-depth-eq0.false
    (c.is_within.ensures ∙ ap (λ f. nat_le (dynamic_depth f) (c.args.depth - 1)) c.get.ensures ∙ sym (within-Not c.in-Not.inner (c.args.depth - 1)))

pub is_within-returns-in-Knows : goal.is_within-returns-in-Knows
is_within-returns-in-Knows t c = within_step c.args.node.now (Knows c.in-Knows.field-0 c.in-Knows.inner) c.args.depth c.is_within-in-Knows.result c.in-Knows.is c.if-depth-eq0.false
    (c.is_within-in-Knows.ensures ∙ ap (λ f. nat_le (dynamic_depth f) (c.args.depth - 1)) c.get-in-Knows.ensures ∙ sym (within-Knows c.in-Knows.field-0 c.in-Knows.inner (c.args.depth - 1)))

pub is_within-returns-in-Common : goal.is_within-returns-in-Common
is_within-returns-in-Common t c = within_step c.args.node.now (Common c.in-Common.field-0 c.in-Common.inner) c.args.depth c.is_within-in-Common.result c.in-Common.is c.if-depth-eq0.false
    (c.is_within-in-Common.ensures ∙ ap (λ f. nat_le (dynamic_depth f) (c.args.depth - 1)) c.get-in-Common.ensures ∙ sym (within-Common c.in-Common.field-0 c.in-Common.inner (c.args.depth - 1)))

pub is_within-returns-in-After : goal.is_within-returns-in-After
is_within-returns-in-After t c = within_step c.args.node.now (After c.in-After.field-0 c.in-After.inner) c.args.depth c.is_within-in-After.result c.in-After.is c.if-depth-eq0.false
    (c.is_within-in-After.ensures ∙ ap (λ f. nat_le (dynamic_depth f) (c.args.depth - 1)) c.get-in-After.ensures ∙ sym (within-After c.in-After.field-0 c.in-After.inner (c.args.depth - 1)))

pub is_within-returns-in-And : goal.is_within-returns-in-And
is_within-returns-in-And t c = within_step c.args.node.now (And c.in-And.parts) c.args.depth c.are_within.result c.in-And.is c.if-depth-eq0.false
    (c.are_within.ensures ∙ sym (within-And c.in-And.parts (c.args.depth - 1)))

pub is_within-returns-in-Or : goal.is_within-returns-in-Or
is_within-returns-in-Or t c = within_step c.args.node.now (Or c.in-Or.parts) c.args.depth c.are_within-in-Or.result c.in-Or.is c.if-depth-eq0.false
    (c.are_within-in-Or.ensures ∙ sym (within-Or c.in-Or.parts (c.args.depth - 1)))
