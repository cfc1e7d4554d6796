-- How many costs there are, and how large they are.
use Rattle.std.proofs.Common.{◌≡◌, ℕ, ◌+◌, ◌≤◌, List, [], ◌∷◌, ◌++◌, length, map, unwrap_or, Option, Some, None, IfSome, Result, Ok, Err, IfOk, refl, sym, subst, arith}
use Rattle.std.specs.List.{AllByRecursion}
use Rattle.std.proofs.lemmas.List.{length-append, length-map}
use Rattle.ep_bounds.specs.declared.bounds.TheConstants.{MOST_COST}
use Rattle.ep_tree.specs.declared.tree.SchemaTree.{SchemaTree}
use Rattle.ep_tree.specs.Formed.{IsFormedCost, IsFormedSchema}
use Rattle.ep_types.specs.declared.scope.Declared.{Declared}
use Rattle.ep_schema.specs.Actions.{action_at, actions_of, cost_of, costs_of, schema_actions, schema_bindings, schema_costs}

pub costs_counted : (d : Declared) (ss : List SchemaTree) → length (costs_of d ss) ≡ length (actions_of d ss)
costs_counted d [] = refl
costs_counted d (s ∷ ss) =
    let bs = schema_bindings d s in
    let one = length-map bs (λ objects. cost_of s) in
    let other = length-map bs (action_at d s) in
    let mine = length-append (schema_costs d s) (costs_of d ss) in
    let theirs = length-append (schema_actions d s) (actions_of d ss) in
    let rest = costs_counted d ss in
    omega (arith, one, other, mine, theirs, rest)

-- a fact of every cost that a schema may have
module _ (P : ℕ → Type 0) (here : (s : SchemaTree) → IsFormedSchema s → P (cost_of s)) where
  each_const : {X : Type 0} (n : ℕ) → P n → (xs : List X) → AllByRecursion P (map (λ x. n) xs)
  each_const n p [] = tt
  each_const n p (x ∷ xs) = (p, each_const n p xs)

  each_append : (xs ys : List ℕ) → AllByRecursion P xs → AllByRecursion P ys → AllByRecursion P (xs ++ ys)
  each_append [] ys p q = q
  each_append (x ∷ xs) ys p q = (p.0, each_append xs ys p.1 q)

  each_cost : (d : Declared) (ss : List SchemaTree) → AllByRecursion IsFormedSchema ss → AllByRecursion P (costs_of d ss)
  each_cost d [] h = tt
  each_cost d (s ∷ ss) h = each_append (schema_costs d s) (costs_of d ss) (each_const (cost_of s) (here s h.0) (schema_bindings d s)) (each_cost d ss h.1)

cost_within : (cost : Option ℕ) → IfSome cost IsFormedCost → IsFormedCost (unwrap_or cost 1)
cost_within None h = (omega arith, omega arith)
cost_within (Some n) h = h

pub costs_least : (d : Declared) (ss : List SchemaTree) → AllByRecursion IsFormedSchema ss → AllByRecursion (λ cost. 1 ≤ cost) (costs_of d ss)
costs_least = each_cost (λ cost. 1 ≤ cost) (λ s h. (cost_within s.cost h.2).0)

pub costs_most : (d : Declared) (ss : List SchemaTree) → AllByRecursion IsFormedSchema ss → AllByRecursion (λ cost. cost ≤ MOST_COST) (costs_of d ss)
costs_most = each_cost (λ cost. cost ≤ MOST_COST) (λ s h. (cost_within s.cost h.2).1)

-- what holds of a value holds of the answer that is this value
pub each_ok : {A E : Type 0} (P : A → Type 0) (r : Result A E) (a : A) → IfOk r (λ x. x ≡ a) → P a → IfOk r P
each_ok P (Ok x) a e p = subst P (sym e) p
each_ok P (Err e) a o p = tt
