-- What stands at the tokens of atoms, groups, parameters and formulas.
use Rattle.std.specs.Prelude.{ℕ, ◌+◌, List, [], ◌∷◌, length, unwrap_or}
use Rattle.ep_types.specs.Names.{Text, declared, names_of}
use Rattle.ep_types.specs.Atoms.{texts}
use Rattle.ep_types.specs.Places.{Scope, with_param, with_params, UsedName, NewParam, UsedObject, UsedFluent, Fact, Argument, Agent, Group, Knowledge, Uses, nothing, both, at, each}
use Rattle.ep_tree.specs.declared.tree.Name.{Name}
use Rattle.ep_tree.specs.declared.tree.AtomTree.{AtomTree}
use Rattle.ep_tree.specs.declared.tree.GroupTree.{GroupTree}
use Rattle.ep_tree.specs.declared.tree.GroupTree.TheVariants.{All, Members}
use Rattle.ep_tree.specs.declared.tree.ParamTree.{ParamTree}
use Rattle.ep_tree.specs.declared.tree.FormulaTree.{FormulaTree}
use Rattle.ep_tree.specs.declared.tree.FormulaTree.TheOpen.{FormulaTree-F}
use Rattle.ep_tree.specs.declared.tree.FormulaTree.TheFolds.{fold-FormulaTree}

-- a list of parameters, from this number on
abbrev pub param_uses : ℕ → List ParamTree → Scope → Uses
param_uses n [] s = nothing
param_uses n (p ∷ ps) s =
    both (at p.name.token (NewParam n p.name.text s))
    (both (at p.kind.token (UsedName p.kind.text (names_of s.names.types))) (param_uses (n + 1) ps (with_param s p)))

-- arguments, each with the type at its place
abbrev pub argument_uses : List Name → List Text → Scope → Uses
argument_uses [] kinds s = nothing
argument_uses (x ∷ xs) [] s = nothing
argument_uses (x ∷ xs) (kind ∷ kinds) s = both (at x.token (Argument x.text kind s)) (argument_uses xs kinds s)

-- the types that are declared for the arguments of a fluent
abbrev pub kinds_of : Text → Scope → List Text
kinds_of x s = unwrap_or (declared x s.names.fluents) []

abbrev pub atom_uses : AtomTree → Scope → Uses
atom_uses a s = both (at a.name.token (UsedFluent a.name.text (length a.args) s)) (argument_uses a.args (kinds_of a.name.text s) s)

abbrev pub fact_uses : List (List Text) → AtomTree → Scope → Uses
fact_uses varied a s = both (at a.name.token (Fact a.name.text (texts a.args) varied s)) (argument_uses a.args (kinds_of a.name.text s) s)

abbrev pub agent_uses : List Name → Scope → Uses
agent_uses xs s = each (λ x. at x.token (Agent x.text s)) xs

abbrev pub group_uses : GroupTree → Scope → Uses
group_uses (All t) s = nothing
group_uses (Members t xs) s = both (at t (Group (length xs))) (agent_uses xs s)

-- `knows` and the name behind it
abbrev pub knower_uses : ℕ → Name → Scope → Uses
knower_uses t x s = both (at t (Knowledge s.knowledge)) (at x.token (Agent x.text s))

-- `common` and the group behind it
abbrev pub knowers_uses : ℕ → GroupTree → Scope → Uses
knowers_uses t g s = both (at t (Knowledge s.knowledge)) (group_uses g s)

abbrev pub equality_uses : Name → Name → Scope → Uses
equality_uses left right s = both (at left.token (UsedObject left.text s)) (at right.token (UsedObject right.text s))

-- one case for each production
abbrev pub production : FormulaTree-F (Scope → Uses) → Scope → Uses
production (FormulaTree-F.True t) s = nothing
production (FormulaTree-F.False t) s = nothing
production (FormulaTree-F.Atom a) s = atom_uses a s
production (FormulaTree-F.Not t inner) s = inner s
production (FormulaTree-F.Knows t a inner) s = both (knower_uses t a s) (inner s)
production (FormulaTree-F.Common t g inner) s = both (knowers_uses t g s) (inner s)
production (FormulaTree-F.Forall t ps inner) s = both (param_uses 0 ps s) (inner (with_params s ps))
production (FormulaTree-F.Exists t ps inner) s = both (param_uses 0 ps s) (inner (with_params s ps))
production (FormulaTree-F.Equal t left right) s = equality_uses left right s
production (FormulaTree-F.Paren t inner) s = inner s
production (FormulaTree-F.And t parts) s = each (λ part. part s) parts
production (FormulaTree-F.Or t parts) s = each (λ part. part s) parts

abbrev pub formula_uses : FormulaTree → Scope → Uses
formula_uses = fold-FormulaTree (Scope → Uses) production

-- formulas, one after another
abbrev pub formulas_uses : List FormulaTree → Scope → Uses
formulas_uses fs s = each (λ f. formula_uses f s) fs
