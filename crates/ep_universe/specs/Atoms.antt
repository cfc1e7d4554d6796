-- Ground atoms, in order.
use Rattle.std.specs.Prelude.{ℕ, ◌+◌, Bool, ◌&&◌, ◌==◌, nat_eq, List, [], ◌∷◌, ◌++◌, map, position, unwrap_or}
use Rattle.std.specs.Cmp.Lexicographic.{pointwise}
use Rattle.ep_binding.specs.Bindings.{bindings}
use Rattle.ep_tree.specs.declared.tree.AtomTree.{AtomTree}
use Rattle.ep_types.specs.Names.{Text, is_text, names_of, values_of}
use Rattle.ep_types.specs.declared.scope.Declared.{Declared}
use Rattle.ep_universe.specs.declared.atoms.GroundAtom.{GroundAtom}
use Rattle.ep_universe.specs.Objects.{Binding, objects_of, object_at}

-- a fluent at all bindings of its parameters, of these types
abbrev pub atoms_at : Declared → ℕ → List Text → List GroundAtom
atoms_at d n kinds = map (λ objects. record { fluent = n; objects = objects }) (bindings (map (objects_of d) kinds))

-- the atoms of fluents, by the types of their parameters, from a number on
abbrev pub atoms_from : Declared → ℕ → List (List Text) → List GroundAtom
atoms_from d n [] = []
atoms_from d n (kinds ∷ rest) = atoms_at d n kinds ++ atoms_from d (n + 1) rest

-- fluents in order of declaration, each at all bindings
abbrev pub atoms_of : Declared → List GroundAtom
atoms_of d = atoms_from d 0 (values_of d.fluents)

-- whether two ground atoms are one
abbrev pub is_same : GroundAtom → GroundAtom → Bool
is_same x y = (x.fluent == y.fluent) && pointwise nat_eq x.objects y.objects

-- the number of the fluent with a name
abbrev pub fluent_at : Declared → Text → ℕ
fluent_at d x = unwrap_or (position (is_text x) (names_of d.fluents)) 0

-- the ground atom that an atom becomes
abbrev pub ground_atom : Declared → Binding → AtomTree → GroundAtom
ground_atom d b a = record {
  fluent = fluent_at d a.name.text;
  objects = map (λ x. object_at d b x.text) a.args;
}

-- and its number
abbrev pub atom_at : Declared → Binding → AtomTree → ℕ
atom_at d b a = unwrap_or (position (is_same (ground_atom d b a)) (atoms_of d)) 0
