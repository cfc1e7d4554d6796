use Rattle.std.proofs.Common.{◌≡◌, length, get_or, ap, sym, ◌∙◌, arith}
use Rattle.std.proofs.lemmas.Result.{IfOk-weaker}
use Rattle.ep_name.specs.Names.{printed_at}
use Rattle.ep_universe.proofs.NameLemmas.{many_fluents, fluent_named}
use Rattle.ep_universe.proofs.names.atom_name.Goals as goal

pub offset_bounds-as_slice-atom : goal.offset_bounds-as_slice-atom
offset_bounds-as_slice-atom c = omega (arith, many_fluents c.args.typed.now, c.requires.fluent, c.requires.few)

pub bounds-as_slice-atom : goal.bounds-as_slice-atom
bounds-as_slice-atom c =
    let t = c.args.typed.now in
    let items : c.as_slice.result.now ≡ t.fluents = c.as_slice.ensures ∙ ap (λ z. z.fluents) c.tree.ensures.tree in
    let long = ap length items in
    omega (arith, long, many_fluents t, c.requires.fluent)

pub returns : goal.returns
returns c =
    let t = c.args.typed.now in
    let k = c.args.atom.now.fluent in
    let x = c.index-as_slice-atom.result in
    let items : c.as_slice.result.now ≡ t.fluents = c.as_slice.ensures ∙ ap (λ z. z.fluents) c.tree.ensures.tree in
    let here : x ≡ get_or t.fluents k x = c.index-as_slice-atom.is ∙ ap (λ z. get_or z k x) items in
    let name = fluent_named t k x (omega (arith, many_fluents t, c.requires.fluent)) here in
    IfOk-weaker c.print_name.result _ _ (λ n e. e ∙ (λ i. printed_at (sym name i) (c.requires.names i) (c.as_slice-2.ensures i))) c.print_name.ensures
