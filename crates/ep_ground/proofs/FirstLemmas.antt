-- The first schema with too many events, and the first formula that is too large, item by item.
use Rattle.std.proofs.Common.{◌≡◌, ℕ, suc, ◌+◌, ◌<◌, ◌≤◌, Bool, true, false, cond, nat_lt, List, [], ◌∷◌, length, drop, get_or, Option, Some, None, Result, Ok, Err, option_map, refl, sym, ap, ◌∙◌, arith, drop-cons}
use Rattle.std.proofs.lemmas.Bool.Decides.{nat_tests}
use Rattle.std.proofs.lemmas.List.{drop_all}
use Rattle.std.specs.List.{find, range_with_len, zip}
use Rattle.ep_base.specs.Refusals.{told}
use Rattle.ep_logic.specs.declared.limits.TheConstants.{MOST_EVENTS}
use Rattle.ep_tree.specs.declared.tree.SchemaTree.{SchemaTree}
use Rattle.ep_types.specs.declared.scope.Declared.{Declared}
use Rattle.ep_schema.specs.Bodies.{event_count}
use Rattle.ep_schema.specs.Written.{Written}
use Rattle.ep_ground.specs.declared.fault.GroundError.{GroundError}
use Rattle.ep_ground.specs.declared.fault.GroundError.TheVariants as fault
use Rattle.ep_ground.specs.Faults.{has_many_events, is_too_large, many_events, too_large, too_large_formula, too_many_events}

first : {X Y : Type 0} (f : X → Y) (x : X) (rest : Option X) (t : Bool) → option_map f (cond t (Some x) rest) ≡ cond t (Some (f x)) (option_map f rest)
first f x rest true = refl
first f x rest false = refl

-- the first schema with too many events, from a number on
abbrev pub many_from : ℕ → List SchemaTree → Option GroundError
many_from n [] = None
many_from n (s ∷ ss) = cond (nat_lt MOST_EVENTS (event_count s.body)) (Some (many_events (n, s))) (many_from (n + 1) ss)

many_is : (n : ℕ) (ss : List SchemaTree) → option_map many_events (find has_many_events (zip (range_with_len n (length ss)) ss)) ≡ many_from n ss
many_is n [] = refl
many_is n (s ∷ ss) =
    first many_events (n, s) (find has_many_events (zip (range_with_len (n + 1) (length ss)) ss)) (has_many_events (n, s))
    ∙ ap (cond (has_many_events (n, s)) (Some (many_events (n, s)))) (many_is (n + 1) ss)

pub many_from_start : (ss : List SchemaTree) → too_many_events ss ≡ many_from 0 ss
many_from_start ss = many_is 0 ss

above_is : (m n : ℕ) → m < n → nat_lt m n ≡ true
above_is m n h = grind (arith, nat_tests)

pub many_here : (ss : List SchemaTree) (k n : ℕ) (s : SchemaTree) → k < length ss → s ≡ get_or ss k s → n ≡ event_count s.body → MOST_EVENTS < n
    → many_from 0 ss ≡ many_from k (drop k ss) → Err (fault.TooManyEvents k n) ≡ told (too_many_events ss)
many_here ss k n s l here count many h =
    let rest = drop (suc k) ss in
    let test : nat_lt MOST_EVENTS (event_count s.body) ≡ true = above_is MOST_EVENTS (event_count s.body) (omega (arith, many, count)) in
    let first : drop k ss ≡ s ∷ rest = drop-cons ss k s l ∙ ap (λ x. x ∷ rest) (sym here) in
    let row : many_from k (s ∷ rest) ≡ Some (fault.TooManyEvents k n) =
    ap (λ t. cond t (Some (many_events (k, s))) (many_from (k + 1) rest)) test ∙ ap (λ m. Some (fault.TooManyEvents k m)) (sym count) in
    sym (ap told (many_from_start ss ∙ h ∙ ap (many_from k) first ∙ row))

pub many_nowhere : (ss : List SchemaTree) (k : ℕ) → length ss ≤ k → many_from 0 ss ≡ many_from k (drop k ss) → Ok tt ≡ told (too_many_events ss)
many_nowhere ss k l h = sym (ap told (many_from_start ss ∙ h ∙ ap (many_from k) (drop_all k ss l)))

pub too_large-cons : (d : Declared) (x : Written) (xs : List Written) → too_large d (x ∷ xs) ≡ cond (is_too_large d x) (Some (too_large_formula x)) (too_large d xs)
too_large-cons d x xs = first too_large_formula x (find (is_too_large d) xs) (is_too_large d x)
