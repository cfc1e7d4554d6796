-- Which formulas a state does not satisfy.
use Rattle.std.specs.Prelude.{ℕ, Bool, not, List, count_by}
use Rattle.std.specs.List.{list_all}
use Rattle.ep_logic.specs.declared.formula.Node.{Node}
use Rattle.ep_theory.specs.Kripke.{Kripke}
use Rattle.ep_theory.specs.Tested.{is_true}

-- whether the formula is true at every designated world
abbrev pub is_satisfied : Kripke → Node → Bool
is_satisfied S f = list_all (λ w. is_true S w f) S.designated

-- how many of the formulas are not
abbrev pub unmet_count : Kripke → List Node → ℕ
unmet_count S fs = count_by (λ f. not (is_satisfied S f)) fs
