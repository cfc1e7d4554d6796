use Rattle.std.proofs.Common.{◌≡◌, ◌≤◌, All, length, map, get_or, ap, sym, ◌∙◌, subst, arith}
use Rattle.std.proofs.lemmas.List.{length-map}
use Rattle.ep_binding.specs.Bindings.{bindings}
use Rattle.ep_types.specs.Atoms.{texts}
use Rattle.ep_types.specs.Tasks.{declarations}
use Rattle.ep_universe.specs.Objects.{objects_of}
use Rattle.ep_universe.proofs.AtomLemmas.{atoms_to, atoms-all, length-more, few_objects}
use Rattle.ep_universe.proofs.TypedLemmas.{few_kinds}
use Rattle.ep_universe.proofs.atoms.atom_count.Goals as goal

pub binding_count-count-requires-clause-few : goal.binding_count-count-requires-clause-few
binding_count-count-requires-clause-few c =
    let t = c.args.typed.now in
    let e = c.fluent-item.result in
    let items : c.as_slice-fluent-items.result.now ≡ t.fluents = c.as_slice-fluent-items.ensures ∙ ap (λ z. z.fluents) c.tree.ensures.tree in
    let here : get_or t.fluents c.loop-fluent.fluent-index e ≡ e = ap (λ z. get_or z c.loop-fluent.fluent-index e) (sym items) ∙ sym c.fluent-item.is in
    let long = ap length items in
    let few = few_kinds t c.tree.ensures.typed c.loop-fluent.fluent-index e (omega (arith, long)) in
    let kinds = ap (λ z. length z.kinds) here in
    let lists = ap length (c.as_slice-in-loop-fluent.ensures ∙ c.in_ok-lists.ensures) in
    let one = length-map (texts c.as_slice.result.now) (objects_of (declarations t)) in
    let two = length-map c.as_slice.result.now (λ x. x.text) in
    let three = ap length c.as_slice.ensures in
    omega (arith, few, kinds, lists, one, two, three)

pub binding_count-count-requires-clause-objects : goal.binding_count-count-requires-clause-objects
binding_count-count-requires-clause-objects c =
    subst (All (λ os. length os ≤ 64)) (sym (c.as_slice-in-loop-fluent.ensures ∙ c.in_ok-lists.ensures))
    (few_objects (declarations c.args.typed.now) 64 c.requires.objects (texts c.as_slice.result.now))

pub loop-fluent-preserved : goal.loop-fluent-preserved
loop-fluent-preserved c =
    let t = c.args.typed.now in
    let d = declarations t in
    let i = c.loop-fluent.fluent-index in
    let e = c.fluent-item.result in
    let items : c.as_slice-fluent-items.result.now ≡ t.fluents = c.as_slice-fluent-items.ensures ∙ ap (λ z. z.fluents) c.tree.ensures.tree in
    let here : get_or t.fluents i e ≡ e = ap (λ z. get_or z i e) (sym items) ∙ sym c.fluent-item.is in
    let long = ap length items in
    let more = length-more d t.fluents i e (omega (arith, long)) in
    let same : c.as_slice-in-loop-fluent.result.now ≡ map (objects_of d) (texts (get_or t.fluents i e).kinds) =
    c.as_slice-in-loop-fluent.ensures ∙ c.in_ok-lists.ensures ∙ ap (λ (z : _). map (objects_of d) (texts z)) (c.as_slice.ensures ∙ ap (λ z. z.kinds) (sym here)) in
    let new = ap (λ z. length (bindings z)) same in
    let exact = c.binding_count-count.ensures.exact in
    let most = c.binding_count-count.ensures.most in
    let was = c.loop-fluent.invariant.count in
    let bound = c.loop-fluent.invariant.most in
    record { count = omega (arith, more, new, exact, was); most = omega (arith, most, bound) }

pub returns : goal.returns
returns c =
    let t = c.args.typed.now in
    let items : c.as_slice-fluent-items.result.now ≡ t.fluents = c.as_slice-fluent-items.ensures ∙ ap (λ z. z.fluents) c.tree.ensures.tree in
    let end : c.loop-fluent.fluent-index ≡ length t.fluents = let long = ap length items in omega (arith, long) in
    c.loop-fluent.invariant.count ∙ ap (λ n. length (atoms_to (declarations t) t.fluents n)) end ∙ ap length (atoms-all t)
