-- Counts that stop at a limit.
use Rattle.std.proofs.Common.{◌≡◌, inl, inr, ℕ, zero, suc, ◌+◌, ◌*◌, ◌<◌, ◌≤◌, List, [], ◌∷◌, ◌++◌, length, map, sum, take, get_or, refl, ap, ◌∙◌, sym, arith}
use Rattle.std.proofs.lemmas.List.{take_more, map-append}
use Rattle.std.proofs.lemmas.Bool.{cases_lt}
use Rattle.std.proofs.lemmas.List.Sums.{sum_by_push, sum-map}
use Rattle.std.proofs.Math.Nat.{mul-le-mul}
use Rattle.ep_binding.specs.Bindings.{binding_count}
use Rattle.ep_tree.specs.declared.tree.FormulaTree.{FormulaTree}
use Rattle.ep_tree.specs.declared.tree.ParamTree.{ParamTree}
use Rattle.ep_types.specs.declared.scope.Declared.{Declared}
use Rattle.ep_universe.specs.Objects.{objects_of, candidates}
use Rattle.ep_universe.specs.Counts.{ground_count, repeated, capped}
use Rattle.ep_universe.proofs.TreeLemmas.{count_laws}

large-times : (x y : ℕ) → 1 ≤ x → 65537 ≤ y → capped (x * y) ≡ 65537
large-times x y h k = let p : 1 * 65537 ≤ x * y = mul-le-mul h k in omega arith

times-large : (x y : ℕ) → 65537 ≤ x → 1 ≤ y → capped (x * y) ≡ 65537
times-large x y h k = let p : 65537 * 1 ≤ x * y = mul-le-mul h k in omega arith

capped-small : (n : ℕ) → n ≤ 65537 → capped n ≡ n
capped-small n h = omega arith

-- a product of capped numbers
pub capped-times : (a b : ℕ) → capped (capped a * capped b) ≡ capped (a * b)
capped-times zero b = omega arith
capped-times (suc a) zero = omega arith
capped-times (suc a) (suc b) =
    elim (cases_lt a 65537) [
      | inr h ↦ times-large (capped (suc a)) (capped (suc b)) (omega arith) (omega arith) ∙ sym (times-large (suc a) (suc b) (omega arith) (omega arith))
      | inl h ↦ elim (cases_lt b 65537) [
        | inr k ↦ large-times (capped (suc a)) (capped (suc b)) (omega arith) (omega arith) ∙ sym (large-times (suc a) (suc b) (omega arith) (omega arith))
        | inl k ↦ (λ i. capped (capped-small (suc a) (omega arith) i * capped-small (suc b) (omega arith) i))
      ]
    ]

capped-more : (a : ℕ) → capped (capped a + 1) ≡ capped (a + 1)
capped-more a = omega arith

repeated-many : (k n : ℕ) → 2 ≤ k → repeated k n ≡ k * n + 1
repeated-many zero n h = absurd (omega arith)
repeated-many (suc zero) n h = absurd (omega arith)
repeated-many (suc (suc k)) n h = refl

pub capped-repeated : (k n : ℕ) → capped (repeated (capped k) (capped n)) ≡ capped (repeated k n)
capped-repeated zero n = refl
capped-repeated (suc zero) n = omega arith
capped-repeated (suc (suc k)) n =
    ap capped (repeated-many (capped (suc (suc k))) (capped n) (omega arith))
    ∙ sym (capped-more (capped (suc (suc k)) * capped n))
    ∙ ap (λ m. capped (m + 1)) (capped-times (suc (suc k)) n)
    ∙ capped-more (suc (suc k) * n)

-- one part more
pub sum-more : (d : Declared) (fs : List FormulaTree) (i : ℕ) (f : FormulaTree) → i < length fs →
    capped (capped (sum (map (ground_count d) (take i fs))) + capped (ground_count d (get_or fs i f))) ≡ capped (sum (map (ground_count d) (take (i + 1) fs)))
sum-more d fs i f h =
    let e : sum (map (ground_count d) (take (i + 1) fs)) ≡ sum (map (ground_count d) (take i fs)) + ground_count d (get_or fs i f) =
    ap (λ gs. sum (map (ground_count d) gs)) (take_more fs i f h)
    ∙ sum-map (ground_count d) (take i fs ++ get_or fs i f ∷ [])
    ∙ sum_by_push (ground_count d) (take i fs) (get_or fs i f)
    ∙ ap (λ m. m + ground_count d (get_or fs i f)) (sym (sum-map (ground_count d) (take i fs)))
    in omega arith

binding_count-push : (cs : List (List ℕ)) (c : List ℕ) → binding_count (cs ++ c ∷ []) ≡ binding_count cs * length c
binding_count-push [] c = omega arith
binding_count-push (x ∷ cs) c = ap (λ k. length x * k) (binding_count-push cs c) ∙ omega arith

-- one parameter more
pub bindings-more : (d : Declared) (ps : List ParamTree) (i : ℕ) (p : ParamTree) → i < length ps →
    capped (capped (binding_count (candidates d (take i ps))) * capped (length (objects_of d (get_or ps i p).kind.text))) ≡ capped (binding_count (candidates d (take (i + 1) ps)))
bindings-more d ps i p h =
    let new = objects_of d (get_or ps i p).kind.text in
    capped-times (binding_count (candidates d (take i ps))) (length new)
    ∙ ap capped (sym (binding_count-push (candidates d (take i ps)) new)
    ∙ ap binding_count (sym (ap (candidates d) (take_more ps i p h) ∙ map-append (λ p. objects_of d p.kind.text) (take i ps) (get_or ps i p ∷ []))))

pub ruleset cap_steps = (bindings-more)

pub ruleset count_steps = (count_laws, capped-repeated, sum-more)
