-- How many truth lists a state has.
use Rattle.std.proofs.Common.{◌≡◌, Bool, List, length, map, sym, ap, ◌∙◌}
use Rattle.std.proofs.lemmas.List.{length-map}
use Rattle.ep_theory.specs.Kripke.{Kripke, IsState}

pub rows_long : {X : Type 0} (value : X → List Bool) (S : Kripke) → IsState S → (rows : List X) → map value rows ≡ S.truth → length rows ≡ S.worlds
rows_long value S s rows e = sym (length-map rows value) ∙ ap length e ∙ s.truths
