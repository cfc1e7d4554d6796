use Rattle.std.proofs.Common.{◌≡◌, ◌∷◌, take}
use Rattle.ep_types.specs.Atoms.{texts, key_texts}
use Rattle.ep_types.proofs.atoms.make_key.Given as goal

abbrev pub invariant-loop-arg : goal.invariant-loop-arg
invariant-loop-arg l = key_texts l.key ≡ l.atom.name.text ∷ texts (take l.arg-index l.arg-items)
