-- Keys of atoms, and what is in a set of atoms.
use Rattle.std.proofs.Common.{◌≡◌, ℕ, ◌+◌, ◌<◌, length, get_or, take, Bool, true, false, ◌||◌, List, [], ◌∷◌, ◌++◌, map, option_map, Result, Ok, Err, nat_eq, if◌then◌else◌, refl, ap, sym, subst, ◌∙◌}
use Rattle.std.proofs.lemmas.Cmp.{nat_list_eq_equiv, lists_equiv}
use Rattle.std.proofs.lemmas.List.{map-append, take_more}
use Rattle.std.specs.Cmp.{IsEquivalence}
use Rattle.std.specs.Cmp.Derive.Mapped.{pointwise-map}
use Rattle.std.specs.Cmp.Lexicographic.{pointwise}
use Rattle.std.specs.Global.{Vec}
use Rattle.std.specs.List.{list_any}
use Rattle.indexmap.specs.IndexSet.{insert_key}
use Rattle.std.specs.Option.{option_or}
use Rattle.ep_types.specs.Names.{Text, is_text}
use Rattle.ep_types.specs.Places.{Scope, each}
use Rattle.ep_types.specs.declared.fault.TypeError.{TypeError}
use Rattle.ep_types.specs.declared.fault.TypeError.TheVariants.{OutOfMemory}
use Rattle.ep_types.specs.Uses.{fact_uses}
use Rattle.ep_types.specs.Tasks.{facts_uses}
use Rattle.ep_types.specs.Atoms.{atom_texts, is_atom, has_atom, with_atom, key_texts, IsSetOf}
use Rattle.ep_tree.specs.declared.tree.AtomTree.{AtomTree}
use Rattle.ep_base.specs.Refusals.{Reports}
use Rattle.ep_types.specs.Faults.{error_at, first_fault, IsJudged}

-- whether two keys are one
abbrev pub is_key : Vec (Vec ℕ) → Vec (Vec ℕ) → Bool
is_key k j = pointwise (λ x y. pointwise nat_eq x.items y.items) k.items j.items

key_alike : (k j : Vec (Vec ℕ)) → is_key k j ≡ is_atom (key_texts k) (key_texts j)
key_alike k j = sym (pointwise-map (λ (t : Vec ℕ). t.items) is_text k.items j.items)

pub has_key : (k : Vec (Vec ℕ)) (ks : List (Vec (Vec ℕ))) → list_any (is_key k) ks ≡ has_atom (key_texts k) (map key_texts ks)
has_key k [] = refl
has_key k (j ∷ js) = λ i. key_alike k j i || has_key k js i

chosen : (b : Bool) (k : Vec (Vec ℕ)) (ks : List (Vec (Vec ℕ))) → map key_texts (if b then ks else ks ++ k ∷ []) ≡ (if b then map key_texts ks else map key_texts ks ++ key_texts k ∷ [])
chosen true k ks = refl
chosen false k ks = map-append key_texts ks (k ∷ [])

pub key_added : (k : Vec (Vec ℕ)) (ks : List (Vec (Vec ℕ))) → map key_texts (insert_key is_key ks k) ≡ with_atom (map key_texts ks) (key_texts k)
key_added k ks = chosen (list_any (is_key k) ks) k ks ∙ ap (λ b. if b then map key_texts ks else map key_texts ks ++ key_texts k ∷ []) (has_key k ks)

-- ---- what is in a set

atoms_equiv : IsEquivalence is_atom
atoms_equiv = lists_equiv nat_list_eq_equiv

same_atoms : (q a : List Text) (atoms : List (List Text)) → is_atom q a ≡ true → has_atom q atoms ≡ has_atom a atoms
same_atoms q a [] e = refl
same_atoms q a (b ∷ bs) e = λ i. atoms_equiv.congr q a b e i || same_atoms q a bs e i

has_behind : (q a : List Text) (atoms : List (List Text)) → has_atom q (atoms ++ a ∷ []) ≡ (is_atom q a || has_atom q atoms)
has_behind q a [] = refl
has_behind q a (b ∷ bs) = ap (λ z. is_atom q b || z) (has_behind q a bs) ∙ swapped (is_atom q b) (is_atom q a) (has_atom q bs)
  where
    swapped : (b c d : Bool) → (b || (c || d)) ≡ (c || (b || d))
    swapped true true d = refl
    swapped true false d = refl
    swapped false c d = refl

-- the added atom, and those before
pub has_added : (q a : List Text) (atoms : List (List Text)) → has_atom q (with_atom atoms a) ≡ (is_atom q a || has_atom q atoms)
has_added q a atoms = by (has_atom a atoms) refl
  where
    there : (b : Bool) → is_atom q a ≡ b → has_atom a atoms ≡ true → has_atom q atoms ≡ (b || has_atom q atoms)
    there true e h = same_atoms q a atoms e ∙ h
    there false e h = refl

    by : (b : Bool) → has_atom a atoms ≡ b → has_atom q (if b then atoms else atoms ++ a ∷ []) ≡ (is_atom q a || has_atom q atoms)
    by true h = there (is_atom q a) refl h
    by false h = has_behind q a atoms

pub set_grown : (xs : List AtomTree) (i : ℕ) (x : AtomTree) (set : List (List Text)) → i < length xs → x ≡ get_or xs i x → IsSetOf (take i xs) set → IsSetOf (take (i + 1) xs) (with_atom set (atom_texts x))
set_grown xs i x set h e is q =
    has_added q (atom_texts x) set ∙ ap (λ z. is_atom q (atom_texts x) || z) (is q) ∙ sym (has_behind q (atom_texts x) (map atom_texts (take i xs)))
    ∙ ap (has_atom q) (sym (map-append atom_texts (take i xs) (x ∷ [])))
    ∙ ap (λ z. has_atom q (map atom_texts (take i xs ++ z ∷ []))) e
    ∙ ap (λ z. has_atom q (map atom_texts z)) (sym (take_more xs i x h))

-- ---- facts behind a list and behind its set

fact_alike : (vary : List AtomTree) (set : List (List Text)) (x : AtomTree) (s : Scope) → IsSetOf vary set → first_fault (fact_uses set x s) ≡ first_fault (fact_uses (map atom_texts vary) x s)
fact_alike vary set x s is = rw (is (atom_texts x)) refl

pub facts_alike : (vary : List AtomTree) (set : List (List Text)) (xs : List AtomTree) (s : Scope) → IsSetOf vary set → first_fault (each (λ a. fact_uses set a s) xs) ≡ first_fault (facts_uses vary xs s)
facts_alike vary set [] s is = refl
facts_alike vary set (x ∷ xs) s is = λ i. option_or (fact_alike vary set x s is i) (facts_alike vary set xs s is i)

pub facts_judged : (vary : List AtomTree) (set : List (List Text)) (xs : List AtomTree) (s : Scope) (r : Result (Unit {0}) TypeError) → IsSetOf vary set → IsJudged (each (λ a. fact_uses set a s) xs) r → IsJudged (facts_uses vary xs s) r
facts_judged vary set xs s (Ok u) is h = sym (facts_alike vary set xs s is) ∙ h
facts_judged vary set xs s (Err e) is h = subst (λ o. Reports OutOfMemory (option_map error_at o) e) (facts_alike vary set xs s is) h
