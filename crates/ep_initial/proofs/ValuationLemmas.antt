-- How long valuations are and how many there are, and the rows that they give.
use Rattle.std.proofs.Common.{◌≡◌, ℕ, zero, suc, ◌^◌, ◌<◌, ◌≤◌, Bool, true, false, Result, Ok, Err, IfOk, List, ◌∷◌, length, map, filter, get_or, refl, ap, sym, ◌∙◌, subst, arith, inl, inr, ⊎_elim}
use Rattle.std.specs.List.{AllByRecursion}
use Rattle.std.proofs.Math.Nat.{pow-le-pow_right}
use Rattle.std.proofs.lemmas.Nat.{pow_pos}
use Rattle.std.proofs.lemmas.List.{length-map, length-append}
use Rattle.ep_logic.specs.Numbers.{has_number, table}
use Rattle.ep_theory.specs.Rising.{IsIn}
use Rattle.ep_theory.proofs.CallerLemmas.{in_parts, All-map, All-at, from_filter, from_map, All-from_each, at_All}
use Rattle.ep_logic.proofs.CallerLemmas.{length-table, get_or-table, table-same}
use Rattle.ep_initial.specs.Valuations.{valuations, value_of, truth_row, filled, filled_rows, valued_rows}

pub length-valuations : (n : ℕ) → length (valuations n) ≡ 2 ^ n
length-valuations zero = refl
length-valuations (suc n) =
    let all = length-append (map (λ v. false ∷ v) (valuations n)) (map (λ v. true ∷ v) (valuations n)) in
    let low = length-map (valuations n) (λ v. false ∷ v) in
    let high = length-map (valuations n) (λ v. true ∷ v) in
    let rest = length-valuations n in
    grind (arith, all, low, high, rest)

long_each : (n : ℕ) (v : List Bool) → IsIn v (valuations n) → length v ≡ n
long_each zero v (inl e) = ap length e
long_each zero v (inr i) = absurd i
long_each (suc n) v i = ⊎_elim
    (λ (j : IsIn v (map (λ v. false ∷ v) (valuations n))). let r = from_map (λ v. false ∷ v) v (valuations n) j in ap length r.2 ∙ ap suc (long_each n r.0 r.1))
    (λ (j : IsIn v (map (λ v. true ∷ v) (valuations n))). let r = from_map (λ v. true ∷ v) v (valuations n) j in ap length r.2 ∙ ap suc (long_each n r.0 r.1))
    (in_parts v (map (λ v. false ∷ v) (valuations n)) (map (λ v. true ∷ v) (valuations n)) i)

-- a valuation at a place
pub long_at : (n i : ℕ) (all : List (List Bool)) (v : List Bool) → all ≡ valuations n → i < length all → v ≡ get_or all i v → length v ≡ n
long_at n i all v e l here =
    ap length here ∙ All-at (λ v. length v ≡ n) all i v l (subst (AllByRecursion (λ v. length v ≡ n)) (sym e) (All-from_each (λ v. length v ≡ n) (valuations n) (long_each n)))

-- ---- rows

filled_is : (n : ℕ) (varied facts : List ℕ) (v : List Bool) → filled varied (table (has_number facts) n) v ≡ truth_row n varied facts v
filled_is n varied facts v =
    ap (table (λ p. value_of varied v p (get_or (table (has_number facts) n) p false))) (length-table (has_number facts) n)
    ∙ table-same (λ p. value_of varied v p (get_or (table (has_number facts) n) p false)) (λ p. value_of varied v p (has_number facts p)) n
    (λ p l. ap (value_of varied v p) (get_or-table (has_number facts) n p false l))

pub filled_candidates : {E : Type 0} (n : ℕ) (varied facts : List ℕ) (row : List Bool) → row ≡ table (has_number facts) n →
    (r : Result (List (List Bool)) E) → IfOk r (λ rows. rows ≡ filled_rows varied row) → IfOk r (λ rows. rows ≡ valued_rows n varied facts)
filled_candidates n varied facts row e (Ok rows) h =
    h ∙ ap (λ b. map (filled varied b) (valuations (length varied))) e ∙ (λ i. map (λ v. filled_is n varied facts v i) (valuations (length varied)))
filled_candidates n varied facts row e (Err x) h = tt

module _ (n : ℕ) (varied facts : List ℕ) (rows : List (List Bool)) (e : rows ≡ valued_rows n varied facts) where
  many : length rows ≡ 2 ^ length varied
  many = ap length e ∙ length-map (valuations (length varied)) (truth_row n varied facts) ∙ length-valuations (length varied)

  pub some_rows : 0 < length rows
  some_rows = let p = pow_pos (length varied) in omega (arith, many, p)

  pub few_rows : length varied ≤ 12 → length rows ≤ 4096
  few_rows h = let p : 2 ^ length varied ≤ 2 ^ 12 = pow-le-pow_right (omega arith) h in omega (arith, many, p)

  pub long_rows : AllByRecursion (λ row. length row ≡ n) rows
  long_rows = subst (AllByRecursion (λ row. length row ≡ n)) (sym e)
      (All-map (λ row. length row ≡ n) (truth_row n varied facts) (valuations (length varied)) (λ v i. length-table (λ p. value_of varied v p (has_number facts p)) n))

pub long_kept : (n : ℕ) (p : List Bool → Bool) (rows : List (List Bool)) → AllByRecursion (λ row. length row ≡ n) rows → AllByRecursion (λ row. length row ≡ n) (filter p rows)
long_kept n p rows h = All-from_each (λ row. length row ≡ n) (filter p rows) (λ row i. at_All (λ row. length row ≡ n) row rows h (from_filter p row rows i).0)

pub long_ok : {E : Type 0} (n : ℕ) (rows : List (List Bool)) → AllByRecursion (λ row. length row ≡ n) rows → (r : Result (List (List Bool)) E) → IfOk r (λ kept. kept ≡ rows) → IfOk r (AllByRecursion (λ row. length row ≡ n))
long_ok n rows h (Ok kept) e = subst (AllByRecursion (λ row. length row ≡ n)) (sym e) h
long_ok n rows h (Err x) e = tt
