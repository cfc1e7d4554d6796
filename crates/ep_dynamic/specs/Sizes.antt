-- The sizes of reduced formulas. This project's own.
use Rattle.std.specs.Prelude.{ℕ, zero, suc, ◌+◌, min, max, List, length, map, sum, slice_index_or}
use Rattle.ep_logic.specs.declared.ids.AtomId.{AtomId}
use Rattle.ep_logic.specs.declared.formula.Node.{Node}
use Rattle.ep_logic.specs.Nodes.{node_count, depth_of, largest}
use Rattle.ep_logic.specs.Numbers.{table}
use Rattle.ep_theory.specs.Kripke.{successors}
use Rattle.ep_theory.specs.Events.{EventModel, event_at, event_links}
use Rattle.ep_dynamic.specs.declared.sizes.Size.{Size}
use Rattle.ep_dynamic.specs.Reduction.{value_of, reduce}

-- the numbers, no further than one past the limits of a formula
abbrev pub capped : ℕ → ℕ → Size
capped n d = record { nodes = min n 131073; depth = min d 129 }

abbrev pub size_of : Node → Size
size_of f = capped (node_count f) (depth_of f)

abbrev pub leaf : Size
leaf = record { nodes = 1; depth = 1 }

-- with one node more above
abbrev pub more : Size → Size
more s = capped (s.nodes + 1) (s.depth + 1)

abbrev pub join : Size → Size → Size
join s t = capped (s.nodes + t.nodes) (max s.depth t.depth)

-- the size of a list of parts together
abbrev pub joined : List Size → Size
joined ss = capped (sum (map (λ s. s.nodes) ss)) (largest (map (λ s. s.depth) ss))

-- the size of a conjunction of so many parts, by their size together
abbrev pub conjoined : ℕ → Size → Size
conjoined zero s = leaf
conjoined (suc zero) s = s
conjoined (suc (suc n)) s = more s

abbrev pub value_size : EventModel → AtomId → ℕ → Size
value_size A p e = size_of (value_of (event_at A e) p)

-- the size at a place of a row
abbrev pub size_at : List Size → ℕ → Size
size_at row e = slice_index_or row e (record { nodes = 0; depth = 0 })

-- what the agent knows of event d, where the row has the sizes of what is said of each event
abbrev pub known_part : EventModel → List Size → ℕ → Size
known_part A row d = capped (node_count (event_at A d).pre + (size_at row d).nodes + 3) (max (depth_of (event_at A d).pre + 1) (size_at row d).depth + 2)

abbrev pub known_size : EventModel → ℕ → List Size → ℕ → Size
known_size A a row e = conjoined (length (successors (event_links A a) e)) (joined (map (known_part A row) (successors (event_links A a) e)))

abbrev pub reduced_size : EventModel → Node → ℕ → Size
reduced_size A f e = size_of (reduce A e f)

-- the sizes of a formula that is reduced at each event
abbrev pub reduced_sizes : EventModel → Node → List Size
reduced_sizes A f = table (reduced_size A f) (length A.events)

-- the sizes of formulas together that are reduced at each event
abbrev pub part_sizes : EventModel → List Node → List Size
part_sizes A fs = table (λ e. joined (map (λ f. reduced_size A f e) fs)) (length A.events)
