-- Sets of atoms, each as its fluent and its arguments.
use Rattle.std.specs.Prelude.{◌≡◌, ℕ, Bool, List, [], ◌∷◌, ◌++◌, map, if◌then◌else◌}
use Rattle.std.specs.Global.{Vec}
use Rattle.std.specs.Cmp.Lexicographic.{pointwise}
use Rattle.std.specs.List.{list_any}
use Rattle.ep_types.specs.Names.{Text, is_text}
use Rattle.ep_tree.specs.declared.tree.Name.{Name}
use Rattle.ep_tree.specs.declared.tree.AtomTree.{AtomTree}

abbrev pub texts : List Name → List Text
texts xs = map (λ x. x.text) xs

-- the fluent and the arguments: two atoms are one where these are
abbrev pub atom_texts : AtomTree → List Text
atom_texts a = a.name.text ∷ texts a.args

-- whether two atoms are one
abbrev pub is_atom : List Text → List Text → Bool
is_atom = pointwise is_text

-- whether an atom is in a list
abbrev pub has_atom : List Text → List (List Text) → Bool
has_atom a atoms = list_any (is_atom a) atoms

-- a list with an atom behind it that it lacks
abbrev pub with_atom : List (List Text) → List Text → List (List Text)
with_atom atoms a = if has_atom a atoms then atoms else atoms ++ a ∷ []

-- the texts of a key
abbrev pub key_texts : Vec (Vec ℕ) → List Text
key_texts key = map (λ t. t.items) key.items

-- a set has the atoms of a list
abbrev pub IsSetOf : List AtomTree → List (List Text) → Type 0
IsSetOf atoms set = (a : List Text) → has_atom a set ≡ has_atom a (map atom_texts atoms)
