-- The entries of a store as weighed states.
use Rattle.std.specs.Prelude.{ℕ, List, map}
use Rattle.ep_theory.specs.Kripke.{Kripke}
use Rattle.ep_store.specs.declared.entry.Entry.{Entry}

abbrev pub weighed_state : Entry → Kripke × ℕ
weighed_state e = (e.canon, e.weight)

abbrev pub weighed : List Entry → List (Kripke × ℕ)
weighed es = map weighed_state es
