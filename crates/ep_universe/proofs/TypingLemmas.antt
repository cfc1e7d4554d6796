-- Formulas without a type fault ground to forms whose agents and atoms are in range.
use Rattle.std.proofs.Common.{◌≡◌, ℕ, zero, suc, ◌+◌, ◌<◌, ◌≤◌, Bool, true, false, cond, not, ◌||◌, ◌&&◌, nat_eq, nat_lt, List, [], ◌∷◌, ◌++◌, Option, Some, None, is_none, unwrap_or, position, codes, length, map, drop, get_or, slice_get, refl, ap, sym, ◌∙◌, subst, arith, append_assoc, append-nil}
use Rattle.std.specs.Prelude.{◌==◌}
use Rattle.std.specs.Cmp.Lexicographic.{pointwise, bytes_decides}
use Rattle.std.specs.List.{list_any, list_all, position_or_len}
use Rattle.std.proofs.lemmas.Bool.Decides.{nat_tests}
use Rattle.std.proofs.lemmas.List.{length-map}
use Rattle.std.proofs.lemmas.List.Folds.{list_any-append}
use Rattle.std.proofs.lemmas.List.Quantifiers.{position-Some}
use Rattle.ep_logic.specs.AgentSets.{is_nobody}
use Rattle.ep_logic.specs.declared.formula.Node.{Node}
use Rattle.ep_logic.specs.declared.formula.Node.TheVariants as node
use Rattle.ep_theory.specs.Fits.{fits_in}
use Rattle.ep_logic.specs.Numbers.{has_number}
use Rattle.ep_binding.specs.Bindings.{bindings}
use Rattle.ep_tree.specs.declared.tree.Name.{Name}
use Rattle.ep_tree.specs.declared.tree.AtomTree.{AtomTree}
use Rattle.ep_tree.specs.declared.tree.GroupTree.{GroupTree}
use Rattle.ep_tree.specs.declared.tree.GroupTree.TheVariants.{All, Members}
use Rattle.ep_tree.specs.declared.tree.ParamTree.{ParamTree}
use Rattle.ep_tree.specs.declared.tree.FormulaTree.{FormulaTree, roll-FormulaTree}
use Rattle.ep_tree.specs.declared.tree.FormulaTree.TheOpen.{FormulaTree-F}
use Rattle.ep_tree.specs.declared.tree.FormulaTree.TheFolds.{map-FormulaTree, fold-roll-FormulaTree, ind-FormulaTree}
use Rattle.ep_types.specs.Faults.{first_fault, first_row, table, is_apart, has_other_count}
use Rattle.ep_types.specs.Names.{Text, Typings, declared, is_text, is_below, names_of, values_of}
use Rattle.std.specs.Option.{option_or}
use Rattle.ep_types.specs.Places.{Scope, Uses, with_params, type_of, at, each, UsedFluent, Argument, Agent, Group, Knowledge}
use Rattle.ep_types.specs.Uses.{param_uses, argument_uses, kinds_of, atom_uses, agent_uses, group_uses, knower_uses, knowers_uses, production, formula_uses}
use Rattle.ep_types.specs.declared.scope.Declared.{Declared}
use Rattle.ep_universe.specs.declared.atoms.GroundAtom.{GroundAtom}
use Rattle.ep_universe.specs.Objects.{Binding, type_at, has_type, objects_of, agents_of, object_at, agent_at, group_of, candidates, bound}
use Rattle.ep_universe.specs.Atoms.{atoms_at, atoms_from, atoms_of, is_same, fluent_at, ground_atom, atom_at}
use Rattle.ep_universe.specs.Formulas.{ground_of, ground_layer, instances}
use Rattle.ep_universe.specs.Typing.{StandsFor, Suits}
use Rattle.ep_universe.proofs.BindingLemmas.{HasEach, or_left, or_right, itself, any_map, all_map, any_bindings, all_bindings, in_numbers, from_numbers}
use Rattle.ep_universe.proofs.FitLemmas.{fits-True, fits-False, fits-Atom, fits-Not, fits-And, fits-Or, fits-Knows, fits-Common, conjunction-fits, disjunction-fits}
use Rattle.ep_universe.proofs.GroupLemmas.{nobody}
use Rattle.ep_universe.proofs.LookupLemmas.{by_bool, declared-front, declared-behind, found, place_or, at_place, some_same}
use Rattle.ep_universe.proofs.TreeLemmas.{ground-roll}
use Rattle.ep_universe.proofs.TypedLemmas.{both-none, located-none, row-none}

less : (i n : ℕ) → i < n → nat_lt i n ≡ true
less i n h = grind (arith, nat_tests)

not_less : (i n : ℕ) → n ≤ i → nat_lt i n ≡ false
not_less i n h = grind (arith, nat_tests)

unlike : (i j : ℕ) → i < j → (i == j) ≡ false
unlike i j h = grind arith

not_false : (b : Bool) → not b ≡ false → b ≡ true
not_false true h = refl
not_false false h = cc

-- ---- what no fault at a token says

-- a name has a type, and it is this one or below it
record IsTyped (s : Scope) (x wanted : Text) : Type 0 where
  kind : Text
  is : type_of s x ≡ Some kind
  below : is_below s.names.types kind wanted ≡ true

typed_from : (s : Scope) (x wanted : Text) (o : Option Text) → type_of s x ≡ o → is_none o ≡ false → is_apart s.names.types wanted o ≡ false → IsTyped s x wanted
typed_from s x wanted None e h k = absurd (cc)
typed_from s x wanted (Some kind) e h k = record { kind = kind; is = e; below = not_false (is_below s.names.types kind wanted) k }

argument_fine : (t : ℕ) (x wanted : Text) (s : Scope) → first_fault (at t (Argument x wanted s)) ≡ None → IsTyped s x wanted
argument_fine t x wanted s h =
    let known = row-none (is_none (type_of s x)) _ _ (located-none t (first_row (table (Argument x wanted s))) h) in
    let like = row-none (is_apart s.names.types wanted (type_of s x)) _ _ known.1 in
    typed_from s x wanted (type_of s x) refl known.0 like.0

agent_fine : (t : ℕ) (x : Text) (s : Scope) → first_fault (at t (Agent x s)) ≡ None → IsTyped s x (codes "agent")
agent_fine t x s h =
    let known = row-none (is_none (type_of s x)) _ _ (located-none t (first_row (table (Agent x s))) h) in
    let like = row-none (is_apart s.names.types (codes "agent") (type_of s x)) _ _ known.1 in
    typed_from s x (codes "agent") (type_of s x) refl known.0 like.0

-- a fluent is declared with so many parameters
record IsFluent (s : Scope) (x : Text) (n : ℕ) : Type 0 where
  kinds : List Text
  is : declared x s.names.fluents ≡ Some kinds
  long : n ≡ length kinds

same_count : (n m : ℕ) → not (nat_eq n m) ≡ false → n ≡ m
same_count n m h = grind arith

fluent_from : (s : Scope) (x : Text) (n : ℕ) (o : Option (List Text)) → declared x s.names.fluents ≡ o → is_none o ≡ false → has_other_count n o ≡ false → IsFluent s x n
fluent_from s x n None e h k = absurd (cc)
fluent_from s x n (Some kinds) e h k = record { kinds = kinds; is = e; long = same_count n (length kinds) k }

fluent_fine : (t : ℕ) (x : Text) (n : ℕ) (s : Scope) → first_fault (at t (UsedFluent x n s)) ≡ None → IsFluent s x n
fluent_fine t x n s h =
    let known = row-none (is_none (declared x s.names.fluents)) _ _ (located-none t (first_row (table (UsedFluent x n s))) h) in
    let count = row-none (has_other_count n (declared x s.names.fluents)) _ _ known.1 in
    fluent_from s x n (declared x s.names.fluents) refl known.0 count.0

-- ---- places

pub get_at : {X : Type 0} (xs : List X) (i : ℕ) (d : X) → i < length xs → slice_get xs i ≡ Some (get_or xs i d)
get_at [] i d h = absurd (omega arith)
get_at (x ∷ xs) zero d h = refl
get_at (x ∷ xs) (suc i) d h = get_at xs i d (omega arith)

place_of : {X : Type 0} (p : X → Bool) (xs : List X) → list_any p xs ≡ true → unwrap_or (position p xs) 0 < length xs
place_of p xs h = subst (λ n. n < length xs) (sym (ap (λ o. unwrap_or o 0) (found p xs h))) (place_or p xs h)

-- where only one value passes, it stands there
stands_at : {X : Type 0} (p : X → Bool) (xs : List X) (y : X) → ((x : X) → p x ≡ true → x ≡ y) → list_any p xs ≡ true → slice_get xs (unwrap_or (position p xs) 0) ≡ Some y
stands_at p xs y only h =
    let i = position_or_len p xs in
    let first = position-Some p xs i y (found p xs h) in
    ap (λ o. slice_get xs (unwrap_or o 0)) (found p xs h) ∙ get_at xs i y first.0 ∙ ap Some (only (get_or xs i y) first.1)

equal : (i j : ℕ) → (i == j) ≡ true → i ≡ j
equal i j h = grind arith

both_left : (a b : Bool) → (a && b) ≡ true → a ≡ true
both_left true b h = refl
both_left false b h = h

both_right : (a b : Bool) → (a && b) ≡ true → b ≡ true
both_right true b h = h
both_right false b h = absurd (cc)

same_atom : (x y : GroundAtom) → is_same x y ≡ true → y ≡ x
same_atom x y h =
    let fluent : y.fluent ≡ x.fluent = sym (equal x.fluent y.fluent (both_left (x.fluent == y.fluent) (pointwise nat_eq x.objects y.objects) h)) in
    let objects : y.objects ≡ x.objects = sym ((bytes_decides x.objects y.objects).0 (both_right (x.fluent == y.fluent) (pointwise nat_eq x.objects y.objects) h)) in
    λ i. record { fluent = fluent i; objects = objects i }

-- ---- more parameters in force

listed : List ParamTree → Typings
listed [] = []
listed (p ∷ ps) = (p.name.text, p.kind.text) ∷ listed ps

module _ (d : Declared) where
  abbrev pub in_scope : Typings → Bool → Scope
  in_scope ps k = record { names = d; params = ps; knowledge = k }

  appended : (ps : Typings) (k : Bool) (qs : List ParamTree) → with_params (in_scope ps k) qs ≡ in_scope (ps ++ listed qs) k
  unfolding listed
  appended ps k [] = ap (λ z. in_scope z k) (sym (append-nil ps))
  appended ps k (q ∷ qs) = appended (ps ++ (q.name.text, q.kind.text) ∷ []) k qs ∙ ap (λ z. in_scope z k) (append_assoc ps ((q.name.text, q.kind.text) ∷ []) (listed qs))

  -- the objects of a binding are those of the parameters
  bound_params : (qs : List ParamTree) (os : List ℕ) → HasEach (candidates d qs) os → (x kind : Text) → declared x (listed qs) ≡ Some kind → StandsFor d (bound qs os) x kind
  unfolding listed
  bound_params [] os h x kind e = cc
  bound_params (q ∷ qs) [] h x kind e = absurd h
  bound_params (q ∷ qs) (o ∷ os) h x kind e =
      by_bool (is_text x q.name.text)
      (λ l.
      let passes = from_numbers (has_type d q.kind.text) (length d.objects) o h.0 in
      let same : q.kind.text ≡ kind = some_same q.kind.text kind (sym (ap (λ b. cond b (Some q.kind.text) (declared x (listed qs))) l) ∙ e) in
      record {
        object = o;
        is = ap (λ b. cond b (Some o) (declared x (bound qs os))) l;
        within = passes.within;
        has = ap (λ z. has_type d z o) (sym same) ∙ passes.passes;
      })
      (λ l.
      let rest = bound_params qs os h.1 x kind (sym (ap (λ b. cond b (Some q.kind.text) (declared x (listed qs))) l) ∙ e) in
      record {
        object = rest.object;
        is = ap (λ b. cond b (Some o) (declared x (bound qs os))) l ∙ rest.is;
        within = rest.within;
        has = rest.has;
      })

  none_some : (v : Text) (P : Type 0) → Some v ≡ None → P
  none_some v P h = absurd (cc)

  bound_others : (qs : List ParamTree) (os : List ℕ) → HasEach (candidates d qs) os → (x : Text) → declared x (listed qs) ≡ None → declared x (bound qs os) ≡ None
  unfolding listed
  bound_others [] os h x e = refl
  bound_others (q ∷ qs) [] h x e = absurd h
  bound_others (q ∷ qs) (o ∷ os) h x e =
      by_bool (is_text x q.name.text)
      (λ l. none_some q.kind.text _ (sym (ap (λ b. cond b (Some q.kind.text) (declared x (listed qs))) l) ∙ e))
      (λ l. ap (λ b. cond b (Some o) (declared x (bound qs os))) l ∙ bound_others qs os h.1 x (sym (ap (λ b. cond b (Some q.kind.text) (declared x (listed qs))) l) ∙ e))

  wider_suits : (ps : Typings) (k : Bool) (b : Binding) (qs : List ParamTree) (os : List ℕ) → Suits (in_scope ps k) b → HasEach (candidates d qs) os → Suits (in_scope (ps ++ listed qs) k) (b ++ bound qs os)
  wider_suits ps k b qs os s h = record { params = λ x kind e. inside x kind (declared x ps) refl e; others = λ x e. outside x (declared x ps) refl e }
    where
      inside : (x kind : Text) (o : Option Text) → declared x ps ≡ o → declared x (ps ++ listed qs) ≡ Some kind → StandsFor d (b ++ bound qs os) x kind
      inside x kind None q e =
          let new = bound_params qs os h x kind (sym (declared-behind x ps (listed qs) q) ∙ e) in
          record { object = new.object; is = declared-behind x b (bound qs os) (s.others x q) ∙ new.is; within = new.within; has = new.has }
      inside x kind (Some old) q e =
          let same : old ≡ kind = some_same old kind (sym (declared-front x old ps (listed qs) q) ∙ e) in
          let was = s.params x kind (q ∙ ap Some same) in
          record { object = was.object; is = declared-front x was.object b (bound qs os) was.is; within = was.within; has = was.has }

      outside : (x : Text) (o : Option Text) → declared x ps ≡ o → declared x (ps ++ listed qs) ≡ None → declared x (b ++ bound qs os) ≡ None
      outside x None q e = declared-behind x b (bound qs os) (s.others x q) ∙ bound_others qs os h x (sym (declared-behind x ps (listed qs) q) ∙ e)
      outside x (Some old) q e = none_some old _ (sym (declared-front x old ps (listed qs) q) ∙ e)

  -- the parameters of a schema
  pub bound_suits : (k : Bool) (qs : List ParamTree) (os : List ℕ) → HasEach (candidates d qs) os → Suits (with_params (in_scope [] k) qs) (bound qs os)
  bound_suits k qs os h =
      subst (λ (s : Scope). Suits s (bound qs os)) (sym (appended [] k qs)) (wider_suits [] k [] qs os (record { params = λ x kind e. none_of x kind e; others = λ x e. refl }) h)
    where
      none_of : (x kind : Text) → declared x [] ≡ Some kind → StandsFor d [] x kind
      none_of x kind e = absurd (cc)

  -- ---- names, atoms and groups

  module _ (trans : (x y z : Text) → is_below d.types x y ≡ true → is_below d.types y z ≡ true → is_below d.types x z ≡ true) (ps : Typings) (k : Bool) (b : Binding) (s : Suits (in_scope ps k) b) where
    stands : (x kind wanted : Text) → StandsFor d b x kind → is_below d.types kind wanted ≡ true → has_number (objects_of d wanted) (object_at d b x) ≡ true
    stands x kind wanted at h =
        let is : object_at d b x ≡ at.object = ap (λ o. unwrap_or (option_or o (position (is_text x) (names_of d.objects))) 0) at.is in
        ap (has_number (objects_of d wanted)) is ∙ in_numbers (has_type d wanted) (length d.objects) at.object at.within (trans (type_at d at.object) kind wanted at.has h)

    declared_object : (x kind wanted : Text) → declared x b ≡ None → declared x d.objects ≡ Some kind → is_below d.types kind wanted ≡ true → has_number (objects_of d wanted) (object_at d b x) ≡ true
    declared_object x kind wanted none e h =
        let place = at_place x kind [] d.objects e in
        let i = position_or_len (is_text x) (names_of d.objects) in
        let is : object_at d b x ≡ i =
        ap (λ o. unwrap_or (option_or o (position (is_text x) (names_of d.objects))) 0) none ∙ ap (λ o. unwrap_or o 0) (found (is_text x) (names_of d.objects) place.there) in
        ap (has_number (objects_of d wanted)) is ∙ in_numbers (has_type d wanted) (length d.objects) i place.within (ap (λ z. is_below d.types z wanted) place.value ∙ h)

    -- an object of the type
    named : (x wanted : Text) → IsTyped (in_scope ps k) x wanted → has_number (objects_of d wanted) (object_at d b x) ≡ true
    named x wanted typed = by (declared x ps) refl
      where
        by : (o : Option Text) → declared x ps ≡ o → has_number (objects_of d wanted) (object_at d b x) ≡ true
        by None q = declared_object x typed.kind wanted (s.others x q) (sym (ap (λ o. option_or o (declared x d.objects)) q) ∙ typed.is) typed.below
        by (Some kind) q =
            let same : kind ≡ typed.kind = some_same kind typed.kind (sym (ap (λ o. option_or o (declared x d.objects)) q) ∙ typed.is) in
            stands x typed.kind wanted (s.params x typed.kind (q ∙ ap Some same)) typed.below

    pub agent_in : (t : ℕ) (x : Text) → first_fault (at t (Agent x (in_scope ps k))) ≡ None → has_number (agents_of d) (object_at d b x) ≡ true
    agent_in t x h = named x (codes "agent") (agent_fine t x (in_scope ps k) h)

    pub agent_below : (x : Name) → first_fault (at x.token (Agent x.text (in_scope ps k))) ≡ None → agent_at d b x < length (agents_of d)
    agent_below x h = place_of (λ y. y == object_at d b x.text) (agents_of d) (agent_in x.token x.text h)

    pub agent_stands : (x : Name) → first_fault (at x.token (Agent x.text (in_scope ps k))) ≡ None → slice_get (agents_of d) (agent_at d b x) ≡ Some (object_at d b x.text)
    agent_stands x h = stands_at (λ y. y == object_at d b x.text) (agents_of d) (object_at d b x.text) (λ y e. equal y (object_at d b x.text) e) (agent_in x.token x.text h)

    arguments : (xs : List Name) (kinds : List Text) → length xs ≡ length kinds → first_fault (argument_uses xs kinds (in_scope ps k)) ≡ None →
        HasEach (map (objects_of d) kinds) (map (λ x. object_at d b x.text) xs)
    arguments [] [] e h = tt
    arguments [] (kind ∷ kinds) e h = absurd (omega arith)
    arguments (x ∷ xs) [] e h = absurd (omega arith)
    arguments (x ∷ xs) (kind ∷ kinds) e h =
        let parts = both-none (at x.token (Argument x.text kind (in_scope ps k))) (argument_uses xs kinds (in_scope ps k)) h in
        (named x.text kind (argument_fine x.token x.text kind (in_scope ps k) parts.0), arguments xs kinds (omega arith) parts.1)

  any_atoms : (os : List ℕ) (n i : ℕ) (kss : List (List Text)) (ks : List Text) → i < length kss → get_or kss i [] ≡ ks → HasEach (map (objects_of d) ks) os →
      list_any (is_same (record { fluent = n + i; objects = os })) (atoms_from d n kss) ≡ true
  any_atoms os n i [] ks l e h = absurd (omega arith)
  any_atoms os n zero (first ∷ rest) ks l e h =
      let same : (n + 0 == n) ≡ true = let z : n + 0 ≡ n = omega arith in ap (λ m. m == n) z ∙ itself n in
      let bs = bindings (map (objects_of d) first) in
      list_any-append (is_same (record { fluent = n + 0; objects = os })) (atoms_at d n first) (atoms_from d (n + 1) rest)
      ∙ or_left _ (list_any (is_same (record { fluent = n + 0; objects = os })) (atoms_from d (n + 1) rest))
      (any_map (is_same (record { fluent = n + 0; objects = os })) (λ objects. record { fluent = n; objects = objects }) bs
      ∙ (λ j. list_any (λ objects. same j && pointwise nat_eq os objects) bs)
      ∙ any_bindings (map (objects_of d) first) os (subst (λ z. HasEach (map (objects_of d) z) os) (sym e) h))
  any_atoms os n (suc i) (first ∷ rest) ks l e h =
      let shift : n + 1 + i ≡ n + suc i = omega arith in
      list_any-append (is_same (record { fluent = n + suc i; objects = os })) (atoms_at d n first) (atoms_from d (n + 1) rest)
      ∙ or_right (list_any (is_same (record { fluent = n + suc i; objects = os })) (atoms_at d n first)) _
      (ap (λ m. list_any (is_same (record { fluent = m; objects = os })) (atoms_from d (n + 1) rest)) (sym shift) ∙ any_atoms os (n + 1) i rest ks (omega arith) e h)

  module _ (trans : (x y z : Text) → is_below d.types x y ≡ true → is_below d.types y z ≡ true → is_below d.types x z ≡ true) (ps : Typings) (k : Bool) (b : Binding) (s : Suits (in_scope ps k) b) where
    -- the ground atom of an atom is one of the ground atoms
    pub atom_in : (a : AtomTree) → first_fault (atom_uses a (in_scope ps k)) ≡ None → list_any (is_same (ground_atom d b a)) (atoms_of d) ≡ true
    atom_in a h =
        let parts = both-none (at a.name.token (UsedFluent a.name.text (length a.args) (in_scope ps k))) (argument_uses a.args (kinds_of a.name.text (in_scope ps k)) (in_scope ps k)) h in
        let fluent = fluent_fine a.name.token a.name.text (length a.args) (in_scope ps k) parts.0 in
        let kinds : kinds_of a.name.text (in_scope ps k) ≡ fluent.kinds = ap (λ o. unwrap_or o []) fluent.is in
        let args = arguments trans ps k b s a.args fluent.kinds fluent.long (ap (λ z. first_fault (argument_uses a.args z (in_scope ps k))) (sym kinds) ∙ parts.1) in
        let place = at_place a.name.text fluent.kinds [] d.fluents fluent.is in
        let i = position_or_len (is_text a.name.text) (names_of d.fluents) in
        let is : 0 + i ≡ fluent_at d a.name.text =
        let z : 0 + i ≡ i = omega arith in z ∙ sym (ap (λ o. unwrap_or o 0) (found (is_text a.name.text) (names_of d.fluents) place.there)) in
        let long = length-map d.fluents (λ e. e.1) in
        let w = place.within in
        ap (λ n. list_any (is_same (record { fluent = n; objects = map (λ x. object_at d b x.text) a.args })) (atoms_of d)) (sym is)
        ∙ any_atoms (map (λ x. object_at d b x.text) a.args) 0 i (values_of d.fluents) fluent.kinds (omega (arith, long, w)) place.value args

    pub atom_below : (a : AtomTree) → first_fault (atom_uses a (in_scope ps k)) ≡ None → atom_at d b a < length (atoms_of d)
    atom_below a h = place_of (is_same (ground_atom d b a)) (atoms_of d) (atom_in a h)

    pub atom_stands : (a : AtomTree) → first_fault (atom_uses a (in_scope ps k)) ≡ None → slice_get (atoms_of d) (atom_at d b a) ≡ Some (ground_atom d b a)
    atom_stands a h = stands_at (is_same (ground_atom d b a)) (atoms_of d) (ground_atom d b a) (λ y e. same_atom (ground_atom d b a) y e) (atom_in a h)

    members_below : (xs : List Name) → first_fault (agent_uses xs (in_scope ps k)) ≡ None → (n : ℕ) → length (agents_of d) ≤ n → has_number (map (agent_at d b) xs) n ≡ false
    members_below [] h n l = refl
    members_below (x ∷ xs) h n l =
        let parts = both-none (at x.token (Agent x.text (in_scope ps k))) (agent_uses xs (in_scope ps k)) h in
        let below = agent_below trans ps k b s x parts.0 in
        ap (λ c. c || has_number (map (agent_at d b) xs) n) (unlike (agent_at d b x) n (omega (arith, below))) ∙ members_below xs parts.1 n l

    pub group_within : (g : GroupTree) → first_fault (group_uses g (in_scope ps k)) ≡ None → is_nobody (drop (length (agents_of d)) (group_of d b g)) ≡ true
    group_within (All token) h = nobody (λ i. nat_lt i (length (agents_of d))) (length (agents_of d)) (λ i l. not_less i (length (agents_of d)) l)
    group_within (Members token xs) h =
        let parts = both-none (at token (Group (length xs))) (agent_uses xs (in_scope ps k)) h in
        nobody (has_number (map (agent_at d b) xs)) (length (agents_of d)) (λ n l. members_below xs parts.1 n l)

  -- ---- formulas

  module _ (trans : (x y z : Text) → is_below d.types x y ≡ true → is_below d.types y z ≡ true → is_below d.types x z ≡ true) where
    fits : Node → Bool
    fits = fits_in (length (agents_of d)) (length (atoms_of d))

    abbrev Typed : FormulaTree → Type 0
    Typed f = (ps : Typings) (k : Bool) (b : Binding) → Suits (in_scope ps k) b → first_fault (formula_uses f (in_scope ps k)) ≡ None →
        fits_in (length (agents_of d)) (length (atoms_of d)) (ground_of d f b) ≡ true

    truth_fits : (c : Bool) → fits_in (length (agents_of d)) (length (atoms_of d)) (cond c node.True node.False) ≡ true
    truth_fits true = fits-True (length (agents_of d)) (length (atoms_of d))
    truth_fits false = fits-False (length (agents_of d)) (length (atoms_of d))

    instances_fit : (ps : Typings) (k : Bool) (b : Binding) → Suits (in_scope ps k) b → (qs : List ParamTree) (f : FormulaTree) → Typed f →
        first_fault (formula_uses f (with_params (in_scope ps k) qs)) ≡ None →
        list_all (fits_in (length (agents_of d)) (length (atoms_of d))) (instances d (ground_of d f) b qs) ≡ true
    instances_fit ps k b s qs f typed h =
        all_map (fits_in (length (agents_of d)) (length (atoms_of d))) (λ objects. ground_of d f (b ++ bound qs objects)) (bindings (candidates d qs))
        ∙ all_bindings (candidates d qs) (λ objects. fits_in (length (agents_of d)) (length (atoms_of d)) (ground_of d f (b ++ bound qs objects)))
        (λ os e. typed (ps ++ listed qs) k (b ++ bound qs os) (wider_suits ps k b qs os s e) (ap (λ (z : Scope). first_fault (formula_uses f z)) (sym (appended ps k qs)) ∙ h))

    parts_fit : (ps : Typings) (k : Bool) (b : Binding) → Suits (in_scope ps k) b → (fs : List ((f : FormulaTree) × Typed f)) →
        first_fault (each (λ part. part (in_scope ps k)) (map formula_uses (map (λ e. e.0) fs))) ≡ None →
        list_all (fits_in (length (agents_of d)) (length (atoms_of d))) (map (λ f. f b) (map (ground_of d) (map (λ e. e.0) fs))) ≡ true
    parts_fit ps k b s [] h = refl
    parts_fit ps k b s (f ∷ fs) h =
        let parts = both-none (formula_uses f.0 (in_scope ps k)) (each (λ part. part (in_scope ps k)) (map formula_uses (map (λ e. e.0) fs))) h in
        (λ i. f.1 ps k b s parts.0 i && parts_fit ps k b s fs parts.1 i)

    level : (ps : Typings) (k : Bool) (b : Binding) → Suits (in_scope ps k) b → (y : FormulaTree-F ((f : FormulaTree) × Typed f)) →
        first_fault (production (map-FormulaTree FormulaTree (Scope → Uses) formula_uses (map-FormulaTree ((f : FormulaTree) × Typed f) FormulaTree (λ e. e.0) y)) (in_scope ps k)) ≡ None →
        fits_in (length (agents_of d)) (length (atoms_of d)) (ground_layer d (map-FormulaTree FormulaTree (Binding → Node) (ground_of d) (map-FormulaTree ((f : FormulaTree) × Typed f) FormulaTree (λ e. e.0) y)) b) ≡ true
    level ps k b s (FormulaTree-F.True token) h = fits-True (length (agents_of d)) (length (atoms_of d))
    level ps k b s (FormulaTree-F.False token) h = fits-False (length (agents_of d)) (length (atoms_of d))
    level ps k b s (FormulaTree-F.Atom a) h =
        fits-Atom (length (agents_of d)) (length (atoms_of d)) (record { n = atom_at d b a })
        ∙ less (atom_at d b a) (length (atoms_of d)) (atom_below trans ps k b s a h)
    level ps k b s (FormulaTree-F.Not token f) h = fits-Not (length (agents_of d)) (length (atoms_of d)) (ground_of d f.0 b) ∙ f.1 ps k b s h
    level ps k b s (FormulaTree-F.Knows token x f) h =
        let parts = both-none (knower_uses token x (in_scope ps k)) (formula_uses f.0 (in_scope ps k)) h in
        let knower = both-none (at token (Knowledge k)) (at x.token (Agent x.text (in_scope ps k))) parts.0 in
        fits-Knows (length (agents_of d)) (length (atoms_of d)) (record { n = agent_at d b x }) (ground_of d f.0 b)
        ∙ (λ i. less (agent_at d b x) (length (agents_of d)) (agent_below trans ps k b s x knower.1) i && f.1 ps k b s parts.1 i)
    level ps k b s (FormulaTree-F.Common token g f) h =
        let parts = both-none (knowers_uses token g (in_scope ps k)) (formula_uses f.0 (in_scope ps k)) h in
        let knowers = both-none (at token (Knowledge k)) (group_uses g (in_scope ps k)) parts.0 in
        fits-Common (length (agents_of d)) (length (atoms_of d)) (group_of d b g) (ground_of d f.0 b)
        ∙ (λ i. group_within trans ps k b s g knowers.1 i && f.1 ps k b s parts.1 i)
    level ps k b s (FormulaTree-F.Forall token qs f) h =
        let parts = both-none (param_uses 0 qs (in_scope ps k)) (formula_uses f.0 (with_params (in_scope ps k) qs)) h in
        conjunction-fits (length (agents_of d)) (length (atoms_of d)) (instances d (ground_of d f.0) b qs) (instances_fit ps k b s qs f.0 f.1 parts.1)
    level ps k b s (FormulaTree-F.Exists token qs f) h =
        let parts = both-none (param_uses 0 qs (in_scope ps k)) (formula_uses f.0 (with_params (in_scope ps k) qs)) h in
        disjunction-fits (length (agents_of d)) (length (atoms_of d)) (instances d (ground_of d f.0) b qs) (instances_fit ps k b s qs f.0 f.1 parts.1)
    level ps k b s (FormulaTree-F.Equal token x y) h = truth_fits (object_at d b x.text == object_at d b y.text)
    level ps k b s (FormulaTree-F.Paren token f) h = f.1 ps k b s h
    level ps k b s (FormulaTree-F.And token fs) h =
        fits-And (length (agents_of d)) (length (atoms_of d)) (map (λ f. f b) (map (ground_of d) (map (λ e. e.0) fs))) ∙ parts_fit ps k b s fs h
    level ps k b s (FormulaTree-F.Or token fs) h =
        fits-Or (length (agents_of d)) (length (atoms_of d)) (map (λ f. f b) (map (ground_of d) (map (λ e. e.0) fs))) ∙ parts_fit ps k b s fs h

    rolled : (x : FormulaTree-F FormulaTree) (y : FormulaTree-F ((f : FormulaTree) × Typed f)) → map-FormulaTree ((f : FormulaTree) × Typed f) FormulaTree (λ e. e.0) y ≡ x → Typed (roll-FormulaTree x)
    rolled x y e = subst (λ (x : FormulaTree-F FormulaTree). Typed (roll-FormulaTree x)) e (λ ps k b s h.
        ap (λ g. fits_in (length (agents_of d)) (length (atoms_of d)) (g b)) (ground-roll d _)
        ∙ level ps k b s y (sym (ap (λ u. first_fault (u (in_scope ps k))) (fold-roll-FormulaTree (Scope → Uses) production (map-FormulaTree ((f : FormulaTree) × Typed f) FormulaTree (λ e. e.0) y))) ∙ h))

    pub formula_fits : (f : FormulaTree) → Typed f
    formula_fits = ind-FormulaTree Typed rolled
