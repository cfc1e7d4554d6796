-- The sizes of reduced formulas, variant by variant.
use Rattle.std.proofs.Common.{◌≡◌, ℕ, zero, suc, ◌+◌, ◌<◌, ◌≤◌, min, max, Bool, true, false, cond, ◌==◌, IsTrue, Option, Some, None, List, [], ◌∷◌, ◌++◌, map, sum, length, get_or, take, drop, refl, sym, ◌∙◌, ap, ap₂, subst, arith, inl, inr}
use Rattle.std.specs.List.{find}
use Rattle.std.proofs.lemmas.List.{take_more}
use Rattle.std.proofs.lemmas.List.Sums.{sum_by-cons}
use Rattle.ep_logic.specs.declared.ids.AgentId.{AgentId}
use Rattle.ep_logic.specs.declared.ids.AtomId.{AtomId}
use Rattle.ep_logic.specs.declared.formula.Node.{Node}
use Rattle.ep_logic.specs.declared.formula.Node.TheOpen.{Node-F}
use Rattle.ep_logic.specs.declared.formula.Node.TheVariants.{True, False, Atom, Not, And, Or, Knows, Common, rolls-True, rolls-False, rolls-Atom, rolls-Not, rolls-And, rolls-Or, rolls-Knows, rolls-Common}
use Rattle.ep_logic.specs.declared.formula.Node.TheFolds.{fold-roll-Node}
use Rattle.ep_logic.specs.Nodes.{node_count, count_step, depth_of, depth_step, largest}
use Rattle.ep_logic.proofs.NodeLemmas.{count-And, count-Or, count-Common, depth-And, depth-Or, depth-Common}
use Rattle.ep_theory.specs.Rising.{IsIn}
use Rattle.ep_logic.specs.Numbers.{table}
use Rattle.ep_theory.specs.Kripke.{successors}
use Rattle.ep_theory.specs.Events.{EventModel, IsAction, event_at, event_links}
use Rattle.ep_theory.proofs.lists.Lists.{from_successors, test_itself}
use Rattle.ep_theory.proofs.lists.Filters.{IsIn-at}
use Rattle.ep_logic.proofs.CallerLemmas.{get_or-table, length-table}
use Rattle.ep_dynamic.specs.declared.sizes.Size.{Size}
use Rattle.ep_event.specs.declared.parts.Assign.{Assign}
use Rattle.ep_event.specs.Built.{set_of}
use Rattle.ep_dynamic.specs.Reduction.{value_by, value_of, conjunction, knows_of, reduce}
use Rattle.ep_dynamic.specs.Sizes.{capped, size_of, leaf, more, join, joined, conjoined, value_size, size_at, known_part, known_size, reduced_size, reduced_sizes, part_sizes}
use Rattle.ep_dynamic.proofs.Reducing.{reduce-roll, event_link_within}

-- the numbers of a formula
count-True : node_count True ≡ 1
count-True = ap node_count (sym rolls-True) ∙ fold-roll-Node ℕ count_step Node-F.True

count-False : node_count False ≡ 1
count-False = ap node_count (sym rolls-False) ∙ fold-roll-Node ℕ count_step Node-F.False

count-Atom : (p : AtomId) → node_count (Atom p) ≡ 1
count-Atom p = ap node_count (sym (rolls-Atom p)) ∙ fold-roll-Node ℕ count_step (Node-F.Atom p)

count-Not : (n : Node) → node_count (Not n) ≡ node_count n + 1
count-Not n = ap node_count (sym (rolls-Not n)) ∙ fold-roll-Node ℕ count_step (Node-F.Not n)

count-Knows : (a : AgentId) (n : Node) → node_count (Knows a n) ≡ node_count n + 1
count-Knows a n = ap node_count (sym (rolls-Knows a n)) ∙ fold-roll-Node ℕ count_step (Node-F.Knows a n)

depth-True : depth_of True ≡ 1
depth-True = ap depth_of (sym rolls-True) ∙ fold-roll-Node ℕ depth_step Node-F.True

depth-False : depth_of False ≡ 1
depth-False = ap depth_of (sym rolls-False) ∙ fold-roll-Node ℕ depth_step Node-F.False

depth-Atom : (p : AtomId) → depth_of (Atom p) ≡ 1
depth-Atom p = ap depth_of (sym (rolls-Atom p)) ∙ fold-roll-Node ℕ depth_step (Node-F.Atom p)

depth-Not : (n : Node) → depth_of (Not n) ≡ depth_of n + 1
depth-Not n = ap depth_of (sym (rolls-Not n)) ∙ fold-roll-Node ℕ depth_step (Node-F.Not n)

depth-Knows : (a : AgentId) (n : Node) → depth_of (Knows a n) ≡ depth_of n + 1
depth-Knows a n = ap depth_of (sym (rolls-Knows a n)) ∙ fold-roll-Node ℕ depth_step (Node-F.Knows a n)

sum-cons : (n : ℕ) (ns : List ℕ) → sum (n ∷ ns) ≡ n + sum ns
sum-cons n ns = sum_by-cons (λ x. x) n ns

-- sizes
pub same_size : (n m d e : ℕ) → min n 131073 ≡ min m 131073 → min d 129 ≡ min e 129 → capped n d ≡ capped m e
same_size n m d e p q = λ i. record { nodes = p i; depth = q i }

more_of : (f g : Node) → node_count g ≡ node_count f + 1 → depth_of g ≡ depth_of f + 1 → size_of g ≡ more (size_of f)
more_of f g p q = same_size (node_count g) (min (node_count f) 131073 + 1) (depth_of g) (min (depth_of f) 129 + 1) (omega arith) (omega arith)

sums : (fs : List Node) → min (sum (map (λ (s : Size). s.nodes) (map size_of fs))) 131073 ≡ min (sum (map node_count fs)) 131073
sums [] = refl
sums (f ∷ fs) =
    let h = sums fs in
    let p = sum-cons (min (node_count f) 131073) (map (λ (s : Size). s.nodes) (map size_of fs)) in
    let q = sum-cons (node_count f) (map node_count fs) in
    omega arith

deepest : (fs : List Node) → min (largest (map (λ (s : Size). s.depth) (map size_of fs))) 129 ≡ min (largest (map depth_of fs)) 129
deepest [] = refl
deepest (f ∷ fs) = let h = deepest fs in omega arith

-- a formula above a list of parts
above_parts : (fs : List Node) (g : Node) → node_count g ≡ sum (map node_count fs) + 1 → depth_of g ≡ largest (map depth_of fs) + 1 → size_of g ≡ more (joined (map size_of fs))
above_parts fs g p q =
    let a = sums fs in
    let b = deepest fs in
    same_size (node_count g) (min (sum (map (λ (s : Size). s.nodes) (map size_of fs))) 131073 + 1) (depth_of g) (min (largest (map (λ (s : Size). s.depth) (map size_of fs))) 129 + 1) (omega arith) (omega arith)

pub size-conjunction : (fs : List Node) → size_of (conjunction fs) ≡ conjoined (length fs) (joined (map size_of fs))
size-conjunction [] = same_size (node_count True) 1 (depth_of True) 1 (let e = count-True in omega arith) (let e = depth-True in omega arith)
size-conjunction (f ∷ []) =
    let p = sum-cons (min (node_count f) 131073) [] in
    same_size (node_count f) (sum (min (node_count f) 131073 ∷ [])) (depth_of f) (largest (min (depth_of f) 129 ∷ [])) (omega arith) (omega arith)
size-conjunction (f ∷ g ∷ fs) = above_parts (f ∷ g ∷ fs) (And (f ∷ g ∷ fs)) (count-And (f ∷ g ∷ fs)) (depth-And (f ∷ g ∷ fs))

-- one part more
pub joined_more : (ss : List Size) (t : Size) → join (joined ss) t ≡ joined (ss ++ t ∷ [])
joined_more ss t =
    let a = nodes_more ss in
    let b = depth_more ss in
    same_size (min (sum (map (λ (s : Size). s.nodes) ss)) 131073 + t.nodes) (sum (map (λ (s : Size). s.nodes) (ss ++ t ∷ [])))
    (max (min (largest (map (λ (s : Size). s.depth) ss)) 129) t.depth) (largest (map (λ (s : Size). s.depth) (ss ++ t ∷ []))) (omega arith) (omega arith)
  where
    nodes_more : (ss : List Size) → sum (map (λ (s : Size). s.nodes) (ss ++ t ∷ [])) ≡ sum (map (λ (s : Size). s.nodes) ss) + t.nodes
    nodes_more [] = omega arith
    nodes_more (s ∷ ss) =
        let h = nodes_more ss in
        let p = sum-cons s.nodes (map (λ (s : Size). s.nodes) (ss ++ t ∷ [])) in
        let q = sum-cons s.nodes (map (λ (s : Size). s.nodes) ss) in
        omega arith

    depth_more : (ss : List Size) → largest (map (λ (s : Size). s.depth) (ss ++ t ∷ [])) ≡ max (largest (map (λ (s : Size). s.depth) ss)) t.depth
    depth_more [] = omega arith
    depth_more (s ∷ ss) = let h = depth_more ss in omega arith

-- tables
pub table_alike : {X : Type 0} (f g : ℕ → X) (n : ℕ) → ((i : ℕ) → i < n → f i ≡ g i) → table f n ≡ table g n
table_alike f g zero h = refl
table_alike f g (suc n) h = ap₂ (λ xs x. xs ++ x ∷ []) (table_alike f g n (λ i l. h i (omega arith))) (h n (omega arith))

pub map-table : {X Y : Type 0} (v : X → Y) (f : ℕ → X) (n : ℕ) → map v (table f n) ≡ table (λ i. v (f i)) n
map-table v f zero = refl
map-table v f (suc n) = snoc (table f n) (f n) ∙ ap (λ ys. ys ++ v (f n) ∷ []) (map-table v f n)
  where
    snoc : (xs : List _) (x : _) → map v (xs ++ x ∷ []) ≡ map v xs ++ v x ∷ []
    snoc [] x = refl
    snoc (y ∷ ys) x = ap (λ zs. v y ∷ zs) (snoc ys x)

map-map : {X Y Z : Type 0} (g : Y → Z) (f : X → Y) (xs : List X) → map g (map f xs) ≡ map (λ x. g (f x)) xs
map-map g f [] = refl
map-map g f (x ∷ xs) = ap (λ ys. g (f x) ∷ ys) (map-map g f xs)

map_alike : {X Y : Type 0} (f g : X → Y) (xs : List X) → ((x : X) → IsIn x xs → f x ≡ g x) → map f xs ≡ map g xs
map_alike f g [] h = refl
map_alike f g (x ∷ xs) h = ap₂ (λ y ys. y ∷ ys) (h x (inl refl)) (map_alike f g xs (λ y i. h y (inr i)))

-- the equations of `reduce`
module _ (A : EventModel) (e : ℕ) where
  pub reduce-True : reduce A e True ≡ True
  reduce-True = ap (reduce A e) (sym rolls-True) ∙ reduce-roll A e Node-F.True

  pub reduce-False : reduce A e False ≡ False
  reduce-False = ap (reduce A e) (sym rolls-False) ∙ reduce-roll A e Node-F.False

  pub reduce-Atom : (p : AtomId) → reduce A e (Atom p) ≡ value_of (event_at A e) p
  reduce-Atom p = ap (reduce A e) (sym (rolls-Atom p)) ∙ reduce-roll A e (Node-F.Atom p)

  pub reduce-Not : (f : Node) → reduce A e (Not f) ≡ Not (reduce A e f)
  reduce-Not f = ap (reduce A e) (sym (rolls-Not f)) ∙ reduce-roll A e (Node-F.Not f)

  pub reduce-And : (fs : List Node) → reduce A e (And fs) ≡ And (map (reduce A e) fs)
  reduce-And fs = ap (reduce A e) (sym (rolls-And fs)) ∙ reduce-roll A e (Node-F.And fs) ∙ ap And (map-map {Y = ℕ → Node} (λ f. f e) (λ f d. reduce A d f) fs)

  pub reduce-Or : (fs : List Node) → reduce A e (Or fs) ≡ Or (map (reduce A e) fs)
  reduce-Or fs = ap (reduce A e) (sym (rolls-Or fs)) ∙ reduce-roll A e (Node-F.Or fs) ∙ ap Or (map-map {Y = ℕ → Node} (λ f. f e) (λ f d. reduce A d f) fs)

  pub reduce-Knows : (a : AgentId) (f : Node) → reduce A e (Knows a f) ≡ conjunction (map (knows_of A a (λ d. reduce A d f)) (successors (event_links A a.n) e))
  reduce-Knows a f = ap (reduce A e) (sym (rolls-Knows a f)) ∙ reduce-roll A e (Node-F.Knows a f)

  pub reduce-Common : (g : List Bool) (f : Node) → reduce A e (Common g f) ≡ Common g (reduce A e f)
  reduce-Common g f = ap (reduce A e) (sym (rolls-Common g f)) ∙ reduce-roll A e (Node-F.Common g f)

-- the value of an atom by the assignments that the code keeps
abbrev pub kept_value : AtomId → Option Assign → Node
kept_value p None = Atom p
kept_value p (Some set) = set.value

find_step : (p : AtomId) (set : Assign) (b : Bool) (o : Option (ℕ × Node)) (u : Option Assign) → value_by p o ≡ kept_value p u →
    value_by p (cond b (Some (set_of set)) o) ≡ kept_value p (cond b (Some set) u)
find_step p set true o u h = refl
find_step p set false o u h = h

find_set : (p : AtomId) (sets : List Assign) → value_by p (find (λ set. set.0 == p.n) (map set_of sets)) ≡ kept_value p (find (λ set. set.atom.n == p.n) sets)
find_set p [] = refl
find_set p (set ∷ sets) = find_step p set (set.atom.n == p.n) (find (λ set. set.0 == p.n) (map set_of sets)) (find (λ set. set.atom.n == p.n) sets) (find_set p sets)

pub value_is : (A : EventModel) (p : AtomId) (e : ℕ) (sets : List Assign) (o : Option Assign) → map set_of sets ≡ (event_at A e).sets → find (λ set. set.atom.n == p.n) sets ≡ o → value_of (event_at A e) p ≡ kept_value p o
value_is A p e sets o h g = ap (λ (xs : List (ℕ × Node)). value_by p (find (λ set. set.0 == p.n) xs)) (sym h) ∙ find_set p sets ∙ ap (kept_value p) g

pub found_at : {X : Type 0} (p : X → Bool) (xs : List X) (i : ℕ) (d : X) → i < length xs → IsTrue (p (get_or xs i d)) → find p (drop i xs) ≡ Some (get_or xs i d)
found_at p [] i d l h = absurd (omega arith)
found_at p (x ∷ xs) zero d l h = rw h refl
found_at p (x ∷ xs) (suc i) d l h = found_at p xs i d (omega arith) h

pub size_of_atom : (p : AtomId) → capped 1 1 ≡ size_of (Atom p)
size_of_atom p = same_size 1 (node_count (Atom p)) 1 (depth_of (Atom p)) (let h = count-Atom p in omega arith) (let h = depth-Atom p in omega arith)

-- rows of sizes
module _ (A : EventModel) where
  pub sizes-True : table (λ _. leaf) (length A.events) ≡ reduced_sizes A True
  sizes-True = table_alike (λ _. leaf) (reduced_size A True) (length A.events) (λ e l.
      same_size 1 (node_count True) 1 (depth_of True) (let h = count-True in omega arith) (let h = depth-True in omega arith) ∙ ap size_of (sym (reduce-True A e)))

  pub sizes-False : table (λ _. leaf) (length A.events) ≡ reduced_sizes A False
  sizes-False = table_alike (λ _. leaf) (reduced_size A False) (length A.events) (λ e l.
      same_size 1 (node_count False) 1 (depth_of False) (let h = count-False in omega arith) (let h = depth-False in omega arith) ∙ ap size_of (sym (reduce-False A e)))

  pub sizes-Atom : (p : AtomId) → table (value_size A p) (length A.events) ≡ reduced_sizes A (Atom p)
  sizes-Atom p = table_alike (value_size A p) (reduced_size A (Atom p)) (length A.events) (λ e l. ap size_of (sym (reduce-Atom A e p)))

  pub sizes-Not : (f : Node) → map more (reduced_sizes A f) ≡ reduced_sizes A (Not f)
  sizes-Not f = map-table more (reduced_size A f) (length A.events) ∙ table_alike (λ e. more (reduced_size A f e)) (reduced_size A (Not f)) (length A.events) (λ e l.
      sym (more_of (reduce A e f) (Not (reduce A e f)) (count-Not (reduce A e f)) (depth-Not (reduce A e f))) ∙ ap size_of (sym (reduce-Not A e f)))

  pub sizes-Common : (g : List Bool) (f : Node) → map more (reduced_sizes A f) ≡ reduced_sizes A (Common g f)
  sizes-Common g f = map-table more (reduced_size A f) (length A.events) ∙ table_alike (λ e. more (reduced_size A f e)) (reduced_size A (Common g f)) (length A.events) (λ e l.
      sym (more_of (reduce A e f) (Common g (reduce A e f)) (count-Common g (reduce A e f)) (depth-Common g (reduce A e f))) ∙ ap size_of (sym (reduce-Common A e g f)))

  parts_are : (fs : List Node) (e : ℕ) → joined (map (λ f. reduced_size A f e) fs) ≡ joined (map size_of (map (reduce A e) fs))
  parts_are fs e = ap joined (sym (map-map size_of (reduce A e) fs))

  pub sizes-And : (fs : List Node) → map more (part_sizes A fs) ≡ reduced_sizes A (And fs)
  sizes-And fs = map-table more (λ e. joined (map (λ f. reduced_size A f e) fs)) (length A.events)
      ∙ table_alike (λ e. more (joined (map (λ f. reduced_size A f e) fs))) (reduced_size A (And fs)) (length A.events) (λ e l.
      ap more (parts_are fs e) ∙ sym (above_parts (map (reduce A e) fs) (And (map (reduce A e) fs)) (count-And (map (reduce A e) fs)) (depth-And (map (reduce A e) fs))) ∙ ap size_of (sym (reduce-And A e fs)))

  pub sizes-Or : (fs : List Node) → map more (part_sizes A fs) ≡ reduced_sizes A (Or fs)
  sizes-Or fs = map-table more (λ e. joined (map (λ f. reduced_size A f e) fs)) (length A.events)
      ∙ table_alike (λ e. more (joined (map (λ f. reduced_size A f e) fs))) (reduced_size A (Or fs)) (length A.events) (λ e l.
      ap more (parts_are fs e) ∙ sym (above_parts (map (reduce A e) fs) (Or (map (reduce A e) fs)) (count-Or (map (reduce A e) fs)) (depth-Or (map (reduce A e) fs))) ∙ ap size_of (sym (reduce-Or A e fs)))

  known_part_is : (a : AgentId) (f : Node) (d : ℕ) → d < length A.events → known_part A (reduced_sizes A f) d ≡ size_of (knows_of A a (λ d. reduce A d f) d)
  known_part_is a f d l =
      let n = ap (λ (s : Size). s.nodes) (get_or-table (reduced_size A f) (length A.events) d (record { nodes = 0; depth = 0 }) l) in
      let m = ap (λ (s : Size). s.depth) (get_or-table (reduced_size A f) (length A.events) d (record { nodes = 0; depth = 0 }) l) in
      let pre = (event_at A d).pre in
      let said = reduce A d f in
      let k = count-Knows a (Or (Not (event_at A d).pre ∷ reduce A d f ∷ [])) in
      let o = count-Or (Not (event_at A d).pre ∷ reduce A d f ∷ []) in
      let p = count-Not (event_at A d).pre in
      let k' = depth-Knows a (Or (Not (event_at A d).pre ∷ reduce A d f ∷ [])) in
      let o' = depth-Or (Not (event_at A d).pre ∷ reduce A d f ∷ []) in
      let p' = depth-Not (event_at A d).pre in
      same_size (node_count (event_at A d).pre + (size_at (reduced_sizes A f) d).nodes + 3) (node_count (knows_of A a (λ d. reduce A d f) d))
      (max (depth_of (event_at A d).pre + 1) (size_at (reduced_sizes A f) d).depth + 2) (depth_of (knows_of A a (λ d. reduce A d f) d)) (omega arith) (omega arith)

  pub sizes-Knows : IsAction A → (a : AgentId) (f : Node) → table (known_size A a.n (reduced_sizes A f)) (length A.events) ≡ reduced_sizes A (Knows a f)
  sizes-Knows m a f = table_alike (known_size A a.n (reduced_sizes A f)) (reduced_size A (Knows a f)) (length A.events) (λ e l.
      let ds = successors (event_links A a.n) e in
      ap₂ (λ n ss. conjoined n (joined ss)) (sym (long (successors (event_links A a.n) e)))
      (map_alike (known_part A (reduced_sizes A f)) (λ d. size_of (knows_of A a (λ d. reduce A d f) d)) (successors (event_links A a.n) e)
      (λ d i. known_part_is a f d (event_link_within A m a.n e d (from_successors e d (event_links A a.n) i)).1)
      ∙ sym (map-map size_of (knows_of A a (λ d. reduce A d f)) (successors (event_links A a.n) e)))
      ∙ sym (size-conjunction (map (knows_of A a (λ d. reduce A d f)) (successors (event_links A a.n) e)))
      ∙ ap size_of (sym (reduce-Knows A e a f)))
    where
      long : (ds : List ℕ) → length (map (knows_of A a (λ d. reduce A d f)) ds) ≡ length ds
      long [] = refl
      long (d ∷ ds) = ap suc (long ds)

  -- one part more
  pub part_sizes-more : (fs : List Node) (i : ℕ) (d : Node) → i < length fs →
      table (λ e. join (size_at (part_sizes A (take i fs)) e) (size_at (reduced_sizes A (get_or fs i d)) e)) (length (part_sizes A (take i fs))) ≡ part_sizes A (take (i + 1) fs)
  part_sizes-more fs i d l =
      ap (table (λ e. join (size_at (part_sizes A (take i fs)) e) (size_at (reduced_sizes A (get_or fs i d)) e))) (length-table (λ e. joined (map (λ f. reduced_size A f e) (take i fs))) (length A.events))
      ∙ table_alike (λ e. join (size_at (part_sizes A (take i fs)) e) (size_at (reduced_sizes A (get_or fs i d)) e)) (λ e. joined (map (λ f. reduced_size A f e) (take (i + 1) fs))) (length A.events) (λ e k.
      ap₂ join (get_or-table (λ e. joined (map (λ f. reduced_size A f e) (take i fs))) (length A.events) e (record { nodes = 0; depth = 0 }) k)
      (get_or-table (reduced_size A (get_or fs i d)) (length A.events) e (record { nodes = 0; depth = 0 }) k)
      ∙ joined_more (map (λ f. reduced_size A f e) (take i fs)) (reduced_size A (get_or fs i d) e)
      ∙ ap joined (sym (ap (map (λ f. reduced_size A f e)) (take_more fs i d l) ∙ snoc e (take i fs) (get_or fs i d))))
    where
      snoc : (e : ℕ) (xs : List Node) (x : Node) → map (λ f. reduced_size A f e) (xs ++ x ∷ []) ≡ map (λ f. reduced_size A f e) xs ++ reduced_size A x e ∷ []
      snoc e [] x = refl
      snoc e (y ∷ ys) x = ap (λ zs. reduced_size A y e ∷ zs) (snoc e ys x)

pub past_drop : {X : Type 0} (xs : List X) (i : ℕ) → length xs ≤ i → drop i xs ≡ []
past_drop [] zero l = refl
past_drop [] (suc i) l = refl
past_drop (x ∷ xs) zero l = absurd (omega arith)
past_drop (x ∷ xs) (suc i) l = past_drop xs i (omega arith)

-- the sizes that the code reads of an assignment
pub size_found : (A : EventModel) (p : AtomId) (e : ℕ) (sets : List Assign) (i : ℕ) (set : Assign) → map set_of sets ≡ (event_at A e).sets →
    find (λ set. set.atom.n == p.n) sets ≡ find (λ set. set.atom.n == p.n) (drop i sets) → i < length sets → set ≡ get_or sets i set → set.atom.n ≡ p.n →
    size_of set.value ≡ value_size A p e
size_found A p e sets i set h g l at q =
    let test : IsTrue ((get_or sets i set).atom.n == p.n) = ap (λ (s : Assign). s.atom.n == p.n) (sym at) ∙ ap (λ n. n == p.n) q ∙ test_itself p.n in
    let value = value_is A p e sets (Some (get_or sets i set)) h (g ∙ found_at (λ (s : Assign). s.atom.n == p.n) sets i set l test) in
    ap size_of (ap (λ (s : Assign). s.value) at ∙ sym value)

pub size_not_found : (A : EventModel) (p : AtomId) (e : ℕ) (sets : List Assign) (i : ℕ) → map set_of sets ≡ (event_at A e).sets →
    find (λ set. set.atom.n == p.n) sets ≡ find (λ set. set.atom.n == p.n) (drop i sets) → length sets ≤ i → capped 1 1 ≡ value_size A p e
size_not_found A p e sets i h g l =
    let value = value_is A p e sets None h (g ∙ ap (find (λ set. set.atom.n == p.n)) (past_drop sets i l)) in
    size_of_atom p ∙ ap size_of (sym value)

-- the loop over what an agent knows
pub known_more : (A : EventModel) (row : List Size) (ds : List ℕ) (i d : ℕ) → i < length ds → d ≡ get_or ds i 0 →
    join (joined (map (known_part A row) (take i ds))) (known_part A row d) ≡ joined (map (known_part A row) (take (i + 1) ds))
known_more A row ds i d l q =
    joined_more (map (known_part A row) (take i ds)) (known_part A row d)
    ∙ ap joined (sym (ap (map (known_part A row)) (take_more ds i 0 l ∙ ap (λ x. take i ds ++ x ∷ []) (sym q)) ∙ snoc (take i ds)))
  where
    snoc : (xs : List ℕ) → map (known_part A row) (xs ++ d ∷ []) ≡ map (known_part A row) xs ++ known_part A row d ∷ []
    snoc [] = refl
    snoc (y ∷ ys) = ap (λ zs. known_part A row y ∷ zs) (snoc ys)

pub target_within : (A : EventModel) → IsAction A → (a e : ℕ) (ds : List ℕ) (i : ℕ) → ds ≡ successors (event_links A a) e → i < length ds → get_or ds i 0 < length A.events
target_within A m a e ds i h l =
    (event_link_within A m a e (get_or ds i 0) (from_successors e (get_or ds i 0) (event_links A a) (subst (IsIn (get_or ds i 0)) h (IsIn-at ds i 0 l)))).1
