use Rattle.std.proofs.Common.{◌≡◌, length, get_or, ap, sym, ◌∙◌, subst, arith}
use Rattle.std.proofs.lemmas.List.Elements.{All-get_or}
use Rattle.ep_types.specs.Tasks.{declarations}
use Rattle.ep_universe.specs.Atoms.{atoms_of}
use Rattle.ep_universe.proofs.NameLemmas.{IsAtom, all_atoms}
use Rattle.ep_universe.proofs.names.atom_names.Goals as goal

pub atom_name-requires-clause-fluent : goal.atom_name-requires-clause-fluent
atom_name-requires-clause-fluent c =
    let d = declarations c.args.typed.now in
    let i = c.loop-atom.atom-index in
    let a = c.atom-item.result in
    let here : a ≡ get_or (atoms_of d) i a = c.atom-item.is ∙ ap (λ z. get_or z i a) c.requires.atoms in
    let long = ap length c.requires.atoms in
    (subst (IsAtom d) (sym here) (All-get_or (IsAtom d) (atoms_of d) i a (let l = c.loop-atom-test.true in omega (arith, l, long)) (all_atoms d))).fluent

pub atom_name-requires-clause-objects : goal.atom_name-requires-clause-objects
atom_name-requires-clause-objects c =
    let d = declarations c.args.typed.now in
    let i = c.loop-atom.atom-index in
    let a = c.atom-item.result in
    let here : a ≡ get_or (atoms_of d) i a = c.atom-item.is ∙ ap (λ z. get_or z i a) c.requires.atoms in
    let long = ap length c.requires.atoms in
    (subst (IsAtom d) (sym here) (All-get_or (IsAtom d) (atoms_of d) i a (let l = c.loop-atom-test.true in omega (arith, l, long)) (all_atoms d))).objects
