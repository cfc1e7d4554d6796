use Rattle.std.proofs.Common.{ap, ◌∙◌, position, unwrap_or}
use Rattle.ep_universe.specs.Atoms.{atoms_of, ground_atom, is_same}
use Rattle.ep_universe.specs.Universe.{NamedTask}
use Rattle.ep_universe.proofs.universe.Universe.atom_at.Goals as goal

pub returns : goal.returns
returns c =
    let names = ap (λ (u : NamedTask). u.names) c.self.view_is in
    let wanted = c.in_ok-wanted.ensures ∙ ap (λ d. ground_atom d c.args.binding.now c.args.atom.now) names in
    let atoms = c.as_slice.ensures ∙ c.self.invariant.1.atoms_are ∙ ap atoms_of names in
    c.unwrap_or-place.ensures ∙ ap (λ o. unwrap_or o 0) c.find_atom.ensures.place ∙ (λ i. unwrap_or (position (is_same (wanted i)) (atoms i)) 0)
