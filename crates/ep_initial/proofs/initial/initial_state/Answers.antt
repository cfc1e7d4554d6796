use Rattle.std.proofs.Common.{◌≡◌, sym, subst, rules, IfOk}
use Rattle.ep_tree.specs.declared.tree.InitTree.TheVariants.{Explicit, Lawful}
use Rattle.ep_types.specs.Tasks.{declarations}
use Rattle.ep_types.specs.declared.scope.Declared.{Declared}
use Rattle.ep_universe.specs.Sizes.{AreBuildable}
use Rattle.ep_initial.specs.Initial.{init_formulas, initial_of}
use Rattle.ep_initial.specs.Meeting.{IsGroundable}
use Rattle.ep_initial.proofs.FormLemmas.{explicit_buildable, forms_ground}
use Rattle.ep_initial.proofs.initial.initial_state.Goals as goal

pub build_explicit-requires : goal.build_explicit-requires
build_explicit-requires c =
    let t = c.args.universe.now.tree in
    let known = c.tree.ensures.known in
    let e : t.init ≡ Explicit c.as_slice-in-Explicit-2.result.now c.as_slice.result.now c.as_slice-in-Explicit.result.now =
    search (rules, c.in-Explicit.is, c.tree.ensures.tree, c.as_slice.ensures, c.as_slice-in-Explicit.ensures, c.as_slice-in-Explicit-2.ensures) in
    explicit_buildable t known.typed known.read _ _ _ e

pub lawful_state-requires-clause-law : goal.lawful_state-requires-clause-law
lawful_state-requires-clause-law c =
    let t = c.args.universe.now.tree in
    let known = c.tree.ensures.known in
    let e : t.init ≡ Lawful c.in-Lawful.vary c.in-Lawful.facts c.in-Lawful.law c.in-Lawful.sees c.in-Lawful.designated = search (rules, c.in-Lawful.is, c.tree.ensures.tree) in
    let built = subst (λ (d : Declared). AreBuildable d (init_formulas t.init)) known.declared c.requires in
    let here : IsGroundable (declarations t) c.in-Lawful.law = (forms_ground t known.typed built _ _ _ _ _ e).0 in
    subst (λ (d : Declared). IsGroundable d c.in-Lawful.law) (sym known.declared) here

pub lawful_state-requires-clause-designated : goal.lawful_state-requires-clause-designated
lawful_state-requires-clause-designated c =
    let t = c.args.universe.now.tree in
    let known = c.tree.ensures.known in
    let e : t.init ≡ Lawful c.in-Lawful.vary c.in-Lawful.facts c.in-Lawful.law c.in-Lawful.sees c.in-Lawful.designated = search (rules, c.in-Lawful.is, c.tree.ensures.tree) in
    let built = subst (λ (d : Declared). AreBuildable d (init_formulas t.init)) known.declared c.requires in
    let here : IsGroundable (declarations t) c.in-Lawful.designated = (forms_ground t known.typed built _ _ _ _ _ e).1 in
    subst (λ (d : Declared). IsGroundable d c.in-Lawful.designated) (sym known.declared) here

pub returns-in-Explicit-clause-value : goal.returns-in-Explicit-clause-value
returns-in-Explicit-clause-value c =
    let t = c.args.universe.now.tree in
    let e : t.init ≡ Explicit c.as_slice-in-Explicit-2.result.now c.as_slice.result.now c.as_slice-in-Explicit.result.now =
    search (rules, c.in-Explicit.is, c.tree.ensures.tree, c.as_slice.ensures, c.as_slice-in-Explicit.ensures, c.as_slice-in-Explicit-2.ensures) in
    subst (λ i. IfOk c.build_explicit.result (λ s. s ≡ initial_of c.args.universe.now.names i)) (sym e) c.build_explicit.ensures.value
