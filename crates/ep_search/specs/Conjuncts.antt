-- The parts of a goal, which a guide is told of. This project's own.
use Rattle.std.specs.Prelude.{◌≡◌, ◌⊎◌, List, [], ◌∷◌}
use Rattle.ep_logic.specs.declared.formula.Node.{Node}
use Rattle.ep_logic.specs.declared.formula.Node.TheVariants.{And}

-- the conjuncts of the formula as they are written, or the formula itself where it is no conjunction
abbrev pub AreParts : Node → List Node → Type 0
AreParts f fs = (f ≡ And fs) ⊎ (((gs : List Node) → f ≡ And gs → ⊥) × (fs ≡ f ∷ []))
