use Rattle.std.proofs.Common.{◌≡◌, ◌++◌, length, map, get_or, ap, sym, ◌∙◌, arith}
use Rattle.ep_binding.specs.Bindings.{bindings}
use Rattle.ep_types.specs.Atoms.{texts}
use Rattle.ep_types.specs.Tasks.{declarations}
use Rattle.ep_universe.specs.Objects.{objects_of}
use Rattle.ep_universe.proofs.AtomLemmas.{atoms_to, atoms-all, atoms-more}
use Rattle.ep_universe.proofs.atoms.atoms_of.Goals as goal

pub loop-number-preserved : goal.loop-number-preserved
loop-number-preserved c =
    let t = c.args.typed.now in
    let d = declarations t in
    let i = c.loop-number.number in
    let e = c.fluent-item.result in
    let items : c.as_slice-fluent-items.result.now ≡ t.fluents = c.as_slice-fluent-items.ensures ∙ ap (λ z. z.fluents) c.tree.ensures.tree in
    let here : get_or t.fluents i e ≡ e = ap (λ z. get_or z i e) (sym items) ∙ sym c.fluent-item.is in
    let long = ap length items in
    let more = atoms-more d t.fluents i e (omega (arith, long)) in
    let same : c.as_slice-in-loop-number.result.now ≡ map (objects_of d) (texts (get_or t.fluents i e).kinds) =
    c.as_slice-in-loop-number.ensures ∙ c.in_ok-lists.ensures ∙ ap (λ (z : _). map (objects_of d) (texts z)) (c.as_slice.ensures ∙ ap (λ z. z.kinds) (sym here)) in
    c.in_ok-push_atoms.ensures
    ∙ (λ j. c.loop-number.invariant j ++ map (λ objects. record { fluent = i; objects = objects }) (bindings (same j)))
    ∙ sym more

pub returns : goal.returns
returns c =
    let t = c.args.typed.now in
    let items : c.as_slice-fluent-items.result.now ≡ t.fluents = c.as_slice-fluent-items.ensures ∙ ap (λ z. z.fluents) c.tree.ensures.tree in
    let end : c.loop-number.number ≡ length t.fluents = let long = ap length items in omega (arith, long) in
    c.loop-number.invariant ∙ ap (atoms_to (declarations t) t.fluents) end ∙ atoms-all t
