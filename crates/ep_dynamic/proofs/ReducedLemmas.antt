-- What the constructors of formulas give, and the loops over parts of a reduction.
use Rattle.std.proofs.Common.{◌≡◌, ℕ, zero, suc, ◌+◌, ◌<◌, ◌≤◌, Bool, true, ◌&&◌, nat_le, nat_lt, IsTrue, IfOk, MatchResult, Result, Ok, Err, Option, Some, None, List, [], ◌∷◌, ◌++◌, map, take, length, get_or, refl, sym, ◌∙◌, ap, subst, arith}
use Rattle.std.specs.List.{list_all}
use Rattle.std.proofs.lemmas.List.{take_more}
use Rattle.ep_base.specs.Refusals.{Answers}
use Rattle.ep_logic.specs.declared.ids.AgentId.{AgentId}
use Rattle.ep_logic.specs.declared.formula.Node.{Node}
use Rattle.ep_logic.specs.declared.formula.Node.TheOpen.{Node-F}
use Rattle.ep_logic.specs.declared.formula.Node.TheVariants.{Not, And, Or, Knows, Common, rolls-Not, rolls-Knows}
use Rattle.ep_logic.specs.declared.formula.Node.TheFolds.{fold-roll-Node}
use Rattle.ep_logic.specs.Nodes.{is_formed, form_step}
use Rattle.ep_logic.proofs.NodeLemmas.{formed-And, formed-Or, formed-Common}
use Rattle.ep_theory.proofs.lists.Bools.{and_parts, all_at}
use Rattle.ep_theory.proofs.lists.Filters.{IsIn-at}
use Rattle.ep_theory.proofs.kinds.FromKinds.{less_from_test}
use Rattle.ep_dynamic.specs.Reduction.{conjunction}

in_result : {A E : Type 0} (V : A → Type 0) (W : E → Type 0) (r : Result A E) → MatchResult r V W → IfOk r V
in_result V W (Ok x) h = h
in_result V W (Err e) h = tt

-- the value of an answer
pub gives : {A E : Type 0} (want : E) (fault : Option E) (V : A → Type 0) (r : Result A E) → Answers want fault V r → IfOk r V
gives want None V r h = in_result V (λ e. e ≡ want) r h
gives want (Some e) V (Ok x) h = absurd (cc)
gives want (Some e) V (Err x) h = tt

-- the form of parts
pub formed-Not : (f : Node) → is_formed (Not f) ≡ is_formed f
formed-Not f = ap is_formed (sym (rolls-Not f)) ∙ fold-roll-Node Bool form_step (Node-F.Not f)

pub formed-Knows : (a : AgentId) (f : Node) → is_formed (Knows a f) ≡ (nat_lt a.n 8 && is_formed f)
formed-Knows a f = ap is_formed (sym (rolls-Knows a f)) ∙ fold-roll-Node Bool form_step (Node-F.Knows a f)

pub part_of_Not : (f g : Node) → g ≡ Not f → IsTrue (is_formed g) → IsTrue (is_formed f)
part_of_Not f g e h = sym (ap is_formed e ∙ formed-Not f) ∙ h

pub parts_of_And : (fs : List Node) (g : Node) → g ≡ And fs → IsTrue (is_formed g) → IsTrue (nat_le 2 (length fs)) × IsTrue (list_all is_formed fs)
parts_of_And fs g e h = and_parts (nat_le 2 (length fs)) (list_all is_formed fs) (sym (ap is_formed e ∙ formed-And fs) ∙ h)

pub parts_of_Or : (fs : List Node) (g : Node) → g ≡ Or fs → IsTrue (is_formed g) → IsTrue (nat_le 2 (length fs)) × IsTrue (list_all is_formed fs)
parts_of_Or fs g e h = and_parts (nat_le 2 (length fs)) (list_all is_formed fs) (sym (ap is_formed e ∙ formed-Or fs) ∙ h)

pub part_of_Knows : (a : AgentId) (f g : Node) → g ≡ Knows a f → IsTrue (is_formed g) → (a.n < 8) × IsTrue (is_formed f)
part_of_Knows a f g e h =
    let p = and_parts (nat_lt a.n 8) (is_formed f) (sym (ap is_formed e ∙ formed-Knows a f) ∙ h) in
    (less_from_test a.n 8 p.0, p.1)

pub part_of_Common : (group : List Bool) (f g : Node) → g ≡ Common group f → IsTrue (is_formed g) → IsTrue (is_formed f)
part_of_Common group f g e h =
    let p = and_parts _ _ (sym (ap is_formed e ∙ formed-Common group f) ∙ h) in
    (and_parts _ _ p.1).1

pub part_formed : (fs : List Node) (i : ℕ) (d : Node) → i < length fs → IsTrue (list_all is_formed fs) → IsTrue (is_formed (get_or fs i d))
part_formed fs i d l h = all_at is_formed (get_or fs i d) fs h (IsIn-at fs i d l)

pub many_mapped : {A B : Type 0} (f : A → B) (xs : List A) → IsTrue (nat_le 2 (length xs)) → 2 ≤ length (map f xs)
many_mapped f xs h = subst (λ n. 2 ≤ n) (sym (mapped f xs)) (at_least (length xs) h)
  where
    mapped : {A B : Type 0} (f : A → B) (xs : List A) → length (map f xs) ≡ length xs
    mapped f [] = refl
    mapped f (x ∷ xs) = ap suc (mapped f xs)

    at_least : (n : ℕ) → nat_le 2 n ≡ true → 2 ≤ n
    at_least n h = grind arith

-- a conjunction by the number of its parts
pub conjunction_many : (fs : List Node) → 2 ≤ length fs → And fs ≡ conjunction fs
conjunction_many [] l = absurd (omega arith)
conjunction_many (f ∷ []) l = absurd (omega arith)
conjunction_many (f ∷ g ∷ fs) l = refl

pub conjunction_one : (fs : List Node) (d : Node) → length fs ≡ 1 → get_or fs 0 d ≡ conjunction fs
conjunction_one [] d l = absurd (omega arith)
conjunction_one (f ∷ []) d l = refl
conjunction_one (f ∷ g ∷ fs) d l = absurd (omega arith)

pub conjunction_none : (fs : List Node) → length fs ≡ 0 → conjunction fs ≡ conjunction []
conjunction_none [] l = refl
conjunction_none (f ∷ fs) l = absurd (omega arith)

-- one part more
pub mapped_more : {A B : Type 0} (f : A → B) (xs : List A) (i : ℕ) (d : A) → i < length xs → map f (take i xs) ++ f (get_or xs i d) ∷ [] ≡ map f (take (i + 1) xs)
mapped_more f xs i d l = sym (ap (map f) (take_more xs i d l) ∙ snoc (take i xs) (get_or xs i d))
  where
    snoc : (xs : List _) (x : _) → map f (xs ++ x ∷ []) ≡ map f xs ++ f x ∷ []
    snoc [] x = refl
    snoc (y ∷ ys) x = ap (λ zs. f y ∷ zs) (snoc ys x)

pub taken : {A : Type 0} (xs : List A) (i : ℕ) → length xs ≤ i → take i xs ≡ xs
taken [] zero l = refl
taken [] (suc i) l = refl
taken (x ∷ xs) zero l = absurd (omega arith)
taken (x ∷ xs) (suc i) l = ap (λ ys. x ∷ ys) (taken xs i (omega arith))
