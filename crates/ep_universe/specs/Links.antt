-- Links and designated names, of worlds and of events, as they are written.
use Rattle.std.specs.Prelude.{ℕ, zero, suc, Bool, ◌<◌, ◌≤◌, true, List, [], ◌∷◌, ◌++◌, length, map, position, unwrap_or, if◌then◌else◌, All as Each}
use Rattle.ep_binding.specs.Bindings.{IsApart}
use Rattle.ep_lex.specs.declared.limits.TheConstants.{MOST_TOKENS}
use Rattle.ep_logic.specs.declared.limits.TheConstants.{MOST_INITIAL_WORLDS}
use Rattle.ep_logic.specs.Rows.{value_at}
use Rattle.ep_logic.specs.Numbers.{numbers_where, pairs_where, has_number, has_pair, table}
use Rattle.ep_tree.specs.declared.tree.Name.{Name}
use Rattle.ep_tree.specs.declared.tree.PairTree.{PairTree}
use Rattle.ep_tree.specs.declared.tree.PairsTree.{PairsTree}
use Rattle.ep_tree.specs.declared.tree.PairsTree.TheVariants.{All, Same, Listed}
use Rattle.ep_tree.specs.declared.tree.LinkTree.{LinkTree}
use Rattle.ep_types.specs.Names.{Text, is_text}
use Rattle.ep_types.specs.declared.scope.Declared.{Declared}
use Rattle.ep_universe.specs.Objects.{Binding, agents_of, group_of}

abbrev pub agent_count : Declared → ℕ
agent_count d = length (agents_of d)

-- the number of a name in a list
abbrev pub place_of : List Text → Name → ℕ
place_of names x = unwrap_or (position (is_text x.text) names) 0

-- the designated numbers
abbrev pub designated_numbers : List Text → List Name → List ℕ
designated_numbers names designated = numbers_where (has_number (map (place_of names) designated)) (length names)

abbrev pub pair_of : List Text → PairTree → ℕ × ℕ
pair_of names p = (place_of names p.from, place_of names p.to)

-- the pairs of numbers that are written
abbrev pub written_pairs : List Text → PairsTree → List (ℕ × ℕ)
written_pairs names All = pairs_where (λ i j. true) (length names)
written_pairs names Same = table (λ i. (i, i)) (length names)
written_pairs names (Listed pairs) = map (pair_of names) pairs

-- the pairs of numbers that are linked, each once
abbrev pub linked : List Text → PairsTree → List (ℕ × ℕ)
linked names pairs = pairs_where (has_pair (written_pairs names pairs)) (length names)

-- what the last item says that passes, or else what came before
abbrev pub last_said : {X A : Type 0} → (X → Bool) → (X → A) → A → List X → A
last_said passes says before [] = before
last_said passes says before (x ∷ xs) = last_said passes says (if passes x then says x else before) xs

-- the pairs of the last item with the agent in its group, or else those that came before
abbrev pub last_pairs : Declared → Binding → ℕ → PairsTree → List LinkTree → PairsTree
last_pairs d b a = last_said (λ (l : LinkTree). value_at (group_of d b l.group) a) (λ (l : LinkTree). l.pairs)

-- the links of each agent: an agent that no item names has one from each number to itself
abbrev pub links_of : Declared → Binding → List Text → List LinkTree → List (List (ℕ × ℕ))
links_of d b names links = table (λ a. linked names (last_pairs d b a Same links)) (agent_count d)

-- ---- as they are made, agent by agent

-- the pairs that are written for an agent
abbrev pub agent_pairs : Declared → Binding → List Text → List LinkTree → ℕ → List (ℕ × ℕ)
agent_pairs d b names links a = written_pairs names (last_pairs d b a Same links)

-- the links of the first n agents, who have these pairs
abbrev pub made_links : {X : Type 0} → (ℕ → ℕ × ℕ → X) → (ℕ → List (ℕ × ℕ)) → ℕ → List X
made_links make pairs zero = []
made_links make pairs (suc n) = made_links make pairs n ++ map (make n) (pairs n)

-- ---- what can be built

-- no more pairs than a text may have tokens
abbrev pub AreFewPairs : PairsTree → Type 0
AreFewPairs All = Unit {0}
AreFewPairs Same = Unit {0}
AreFewPairs (Listed pairs) = length pairs ≤ MOST_TOKENS

-- names of worlds or events, of which some are designated, and links between them
pub record AreEnds (names : List Text) (designated : List Name) (links : List LinkTree) : Type 0 where
  pub some_name : 0 < length names
  pub few_names : length names ≤ MOST_INITIAL_WORLDS
  pub apart : IsApart names
  pub some_designated : 0 < length designated
  pub few_designated : length designated ≤ MOST_TOKENS
  pub few_pairs : Each (λ l. AreFewPairs l.pairs) links
