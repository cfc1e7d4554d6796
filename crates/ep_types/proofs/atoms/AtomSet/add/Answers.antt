use Rattle.std.proofs.Common.{ap, map, ◌∙◌}
use Rattle.ep_types.specs.Atoms.{with_atom, key_texts}
use Rattle.ep_types.proofs.AtomLemmas.{key_added}
use Rattle.ep_types.proofs.atoms.AtomSet.add.Goals as goal

pub returns : goal.returns
returns c =
    ap (map key_texts) c.in_ok-insert.ensures.keys ∙ key_added c.in_ok-key.key c.self.inside.keys.keys
    ∙ (λ i. with_atom (c.self.view_is i) (c.in_ok-key.ensures i))
