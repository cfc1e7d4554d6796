-- Objects and agents by number, in order of declaration, and what names stand for.
use Rattle.std.specs.Prelude.{ℕ, Bool, ◌==◌, List, [], ◌∷◌, length, map, position, unwrap_or, slice_index_or, codes}
use Rattle.std.specs.Option.{option_or}
use Rattle.ep_logic.specs.AgentSets.{first_agents}
use Rattle.ep_logic.specs.Numbers.{numbers_where, has_number}
use Rattle.ep_tree.specs.declared.tree.Name.{Name}
use Rattle.ep_tree.specs.declared.tree.GroupTree.{GroupTree}
use Rattle.ep_tree.specs.declared.tree.GroupTree.TheVariants.{All, Members}
use Rattle.ep_tree.specs.declared.tree.ParamTree.{ParamTree}
use Rattle.ep_types.specs.Names.{Text, is_text, names_of, values_of, declared, is_below}
use Rattle.ep_types.specs.declared.scope.Declared.{Declared}

-- the type that is declared for an object
abbrev pub type_at : Declared → ℕ → Text
type_at d o = slice_index_or (values_of d.objects) o []

-- whether an object has a type, or one below it
abbrev pub has_type : Declared → Text → ℕ → Bool
has_type d kind o = is_below d.types (type_at d o) kind

-- the objects of a type
abbrev pub objects_of : Declared → Text → List ℕ
objects_of d kind = numbers_where (has_type d kind) (length d.objects)

abbrev pub agents_of : Declared → List ℕ
agents_of d = objects_of d (codes "agent")

-- the parameters in force, with the objects that they stand for
abbrev pub Binding : Type 0
Binding = List (Text × ℕ)

-- the object for which a name stands: that of a parameter, or else itself
abbrev pub object_at : Declared → Binding → Text → ℕ
object_at d b x = unwrap_or (option_or (declared x b) (position (is_text x) (names_of d.objects))) 0

-- the number of an object among the agents
abbrev pub agent_of : Declared → ℕ → ℕ
agent_of d o = unwrap_or (position (λ x. x == o) (agents_of d)) 0

-- the agent for which a name stands
abbrev pub agent_at : Declared → Binding → Name → ℕ
agent_at d b x = agent_of d (object_at d b x.text)

-- a test at each number that an agent may have
abbrev pub eight : (ℕ → Bool) → List Bool
eight p = map p (0 ∷ 1 ∷ 2 ∷ 3 ∷ 4 ∷ 5 ∷ 6 ∷ 7 ∷ [])

-- the agents of a group
abbrev pub group_of : Declared → Binding → GroupTree → List Bool
group_of d b (All token) = first_agents (length (agents_of d))
group_of d b (Members token names) = eight (has_number (map (agent_at d b) names))

-- the objects to which each parameter may be bound
abbrev pub candidates : Declared → List ParamTree → List (List ℕ)
candidates d params = map (λ p. objects_of d p.kind.text) params

-- the parameters with objects
abbrev pub bound : List ParamTree → List ℕ → Binding
bound [] objects = []
bound (p ∷ ps) [] = []
bound (p ∷ ps) (o ∷ os) = (p.name.text, o) ∷ bound ps os
