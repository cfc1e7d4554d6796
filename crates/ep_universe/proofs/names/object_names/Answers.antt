use Rattle.std.proofs.Common.{◌≡◌, length, ap, sym, ◌∙◌, arith}
use Rattle.std.specs.List.{flat_map}
use Rattle.std.proofs.lemmas.List.{take_all}
use Rattle.ep_tree.specs.declared.tree.ObjectTree.{ObjectTree}
use Rattle.ep_types.specs.Atoms.{texts}
use Rattle.ep_universe.proofs.NameLemmas.{objects-declared}
use Rattle.ep_universe.proofs.names.object_names.Goals as goal

pub returns : goal.returns
returns c =
    let t = c.args.typed.now in
    let items : c.as_slice-entry-items.result.now ≡ t.objects = c.as_slice-entry-items.ensures ∙ ap (λ z. z.objects) c.tree.ensures.tree in
    c.loop-entry.invariant
    ∙ ap (flat_map (λ (e : ObjectTree). texts e.names)) (take_all c.loop-entry.entry-index t.objects (let long = ap length items in let end = c.loop-entry-test.false in omega arith))
    ∙ sym (objects-declared t)
