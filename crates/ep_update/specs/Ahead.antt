-- Where an action may happen. This project's own.
use Rattle.std.specs.Prelude.{ℕ, List}
use Rattle.std.specs.List.{list_any}
use Rattle.ep_logic.specs.Numbers.{numbers_where}
use Rattle.ep_theory.specs.Kripke.{Kripke}
use Rattle.ep_theory.specs.Events.{EventModel}
use Rattle.ep_theory.specs.Product.{applies}

-- the worlds where the precondition of some designated event is true
abbrev pub openings : Kripke → EventModel → List ℕ
openings S A = numbers_where (λ w. list_any (applies S A w) A.designated) S.worlds
