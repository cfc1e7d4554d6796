-- Ground atoms, one fluent more at a time.
use Rattle.std.proofs.Common.{◌≡◌, ℕ, zero, suc, ◌+◌, ◌<◌, ◌≤◌, Bool, true, false, cond, List, [], ◌∷◌, ◌++◌, All, length, map, take, get_or, ap, sym, ◌∙◌, arith, append_assoc, append-nil}
use Rattle.std.proofs.lemmas.List.{take_more, take_all, length-append, length-map, length-take-le, map-append}
use Rattle.std.proofs.lemmas.List.Elements.{All-nil, All-cons}
use Rattle.ep_binding.specs.Bindings.{bindings}
use Rattle.ep_logic.specs.Numbers.{numbers_where}
use Rattle.ep_tree.specs.declared.tree.FluentTree.{FluentTree}
use Rattle.ep_tree.specs.declared.tree.TaskTree.{TaskTree}
use Rattle.ep_types.specs.Atoms.{texts}
use Rattle.ep_types.specs.Names.{Text}
use Rattle.ep_types.specs.Tasks.{declarations}
use Rattle.ep_types.specs.declared.scope.Declared.{Declared}
use Rattle.ep_universe.specs.declared.atoms.GroundAtom.{GroundAtom}
use Rattle.ep_universe.specs.Objects.{objects_of, has_type}
use Rattle.ep_universe.specs.Atoms.{atoms_at, atoms_from, atoms_of}
use Rattle.ep_universe.proofs.TypedLemmas.{kinds_of, fluents-declared}

pub atoms-append : (d : Declared) (n : ℕ) (ks : List (List Text)) (k : List Text) → atoms_from d n (ks ++ k ∷ []) ≡ atoms_from d n ks ++ atoms_at d (n + length ks) k
atoms-append d n [] k = let e : n + 0 ≡ n = omega arith in append-nil (atoms_at d n k) ∙ ap (λ m. atoms_at d m k) (sym e)
atoms-append d n (j ∷ ks) k =
    let e : n + 1 + length ks ≡ n + suc (length ks) = omega arith in
    ap (λ z. atoms_at d n j ++ z) (atoms-append d (n + 1) ks k)
    ∙ sym (append_assoc (atoms_at d n j) (atoms_from d (n + 1) ks) (atoms_at d (n + 1 + length ks) k))
    ∙ ap (λ m. atoms_at d n j ++ atoms_from d (n + 1) ks ++ atoms_at d m k) e

-- the atoms of the first fluents
abbrev pub atoms_to : Declared → List FluentTree → ℕ → List GroundAtom
atoms_to d es i = atoms_from d 0 (kinds_of (take i es))

pub atoms-more : (d : Declared) (es : List FluentTree) (i : ℕ) (e : FluentTree) → i < length es →
    atoms_to d es (i + 1) ≡ atoms_to d es i ++ atoms_at d i (texts (get_or es i e).kinds)
atoms-more d es i e h =
    let long : 0 + length (kinds_of (take i es)) ≡ i =
    let one = length-map (take i es) (λ e. texts e.kinds) in let two = length-take-le i es (omega arith) in omega (arith, one, two) in
    ap (λ z. atoms_from d 0 (kinds_of z)) (take_more es i e h)
    ∙ ap (atoms_from d 0) (map-append (λ e. texts e.kinds) (take i es) (get_or es i e ∷ []))
    ∙ atoms-append d 0 (kinds_of (take i es)) (texts (get_or es i e).kinds)
    ∙ ap (λ n. atoms_to d es i ++ atoms_at d n (texts (get_or es i e).kinds)) long

pub atoms-all : (t : TaskTree) → atoms_to (declarations t) t.fluents (length t.fluents) ≡ atoms_of (declarations t)
atoms-all t = ap (λ z. atoms_from (declarations t) 0 (kinds_of z)) (take_all (length t.fluents) t.fluents (omega arith)) ∙ ap (atoms_from (declarations t) 0) (sym (fluents-declared t))

-- how many there are
pub length-more : (d : Declared) (es : List FluentTree) (i : ℕ) (e : FluentTree) → i < length es →
    length (atoms_to d es (i + 1)) ≡ length (atoms_to d es i) + length (bindings (map (objects_of d) (texts (get_or es i e).kinds)))
length-more d es i e h =
    let ks = texts (get_or es i e).kinds in
    ap length (atoms-more d es i e h) ∙ length-append (atoms_to d es i) (atoms_at d i ks)
    ∙ ap (λ n. length (atoms_to d es i) + n) (length-map (bindings (map (objects_of d) ks)) (λ objects. record { fluent = i; objects = objects }))

-- no type has more objects than there are
pub few_numbers : (p : ℕ → Bool) (n : ℕ) → length (numbers_where p n) ≤ n
few_numbers p zero = omega arith
few_numbers p (suc n) =
    let long = length-append (numbers_where p n) (cond (p n) (n ∷ []) []) in
    let rest = few_numbers p n in
    let one = one_more (p n) n in
    omega (arith, long, rest, one)
  where
    one_more : (b : Bool) (n : ℕ) → length (cond b (n ∷ []) []) ≤ 1
    one_more true n = omega arith
    one_more false n = omega arith

pub few_objects : (d : Declared) (m : ℕ) → length d.objects ≤ m → (ks : List Text) → All (λ c. length c ≤ m) (map (objects_of d) ks)
few_objects d m h [] = All-nil (λ c. length c ≤ m)
few_objects d m h (k ∷ ks) =
    let few = few_numbers (has_type d k) (length d.objects) in
    All-cons (λ c. length c ≤ m) (objects_of d k) (map (objects_of d) ks) (omega (arith, few)) (few_objects d m h ks)
