-- The text of a state: its lines in order, each with a line feed. Numbers are in decimal.
use Rattle.std.specs.Prelude.{ℕ, Bool, List, [], ◌∷◌, ◌++◌, map, slice_index_or, codes, if◌then◌else◌, nat_eq}
use Rattle.std.specs.List.{flat_map}
use Rattle.std.specs.Fmt.{decimal}
use Rattle.ep_base.specs.Texts.{lines}
use Rattle.ep_theory.specs.Kripke.{Kripke, atom_at, links_of, successors}
use Rattle.ep_logic.specs.Numbers.{has_number, table}
use Rattle.ep_ground.specs.Task.{GroundTask}

abbrev pub digit : Bool → List ℕ
digit holds = if holds then codes "1" else codes "0"

-- one digit for each atom
abbrev pub digits : Kripke → ℕ → List ℕ
digits S w = flat_map digit (table (atom_at S w) S.atoms)

-- the digits, or a dash where there are no atoms
abbrev pub bits : Kripke → ℕ → List ℕ
bits S w = if nat_eq S.atoms 0 then codes "-" else digits S w

abbrev pub designation : Kripke → ℕ → List ℕ
designation S w = if has_number S.designated w then codes " designated" else []

abbrev pub atom_line : List ℕ → List ℕ
atom_line name = codes "atom " ++ name

abbrev pub world_line : Kripke → ℕ → List ℕ
world_line S w = codes "world " ++ decimal w ++ codes " " ++ bits S w ++ designation S w

-- a number behind a space
abbrev pub next_number : ℕ → List ℕ
next_number n = codes " " ++ decimal n

-- the links of an agent with a name from a world to these
abbrev pub targets_line : List ℕ → ℕ → List ℕ → List ℕ
targets_line name w targets = codes "links " ++ name ++ codes " " ++ decimal w ++ codes ":" ++ flat_map next_number targets

-- the links of an agent with a name from a world
abbrev pub link_line : Kripke → ℕ → List ℕ → ℕ → List ℕ
link_line S a name w = targets_line name w (successors (links_of S a) w)

abbrev pub agent_lines : Kripke → List (List ℕ) → ℕ → List (List ℕ)
agent_lines S agents a = table (link_line S a (slice_index_or agents a [])) S.worlds

abbrev pub state_lines : List (List ℕ) → List (List ℕ) → Kripke → List (List ℕ)
state_lines agents atoms S =
    (codes "worlds " ++ decimal S.worlds)
    ∷ (map atom_line atoms ++ table (world_line S) S.worlds ++ flat_map (agent_lines S agents) (table (λ a. a) S.agents))

-- the text of a state of a ground task
abbrev pub state_text : GroundTask → Kripke → List ℕ
state_text g S = lines (state_lines g.agents g.atoms S)
