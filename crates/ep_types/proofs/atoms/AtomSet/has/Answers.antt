use Rattle.std.proofs.Common.{◌∙◌}
use Rattle.ep_types.specs.Atoms.{has_atom}
use Rattle.ep_types.proofs.AtomLemmas.{has_key}
use Rattle.ep_types.proofs.atoms.AtomSet.has.Goals as goal

pub returns : goal.returns
returns c =
    c.contains.ensures ∙ has_key c.in_ok-key.key c.self.inside.keys.keys
    ∙ (λ i. has_atom (c.in_ok-key.ensures i) (c.self.view_is i))
